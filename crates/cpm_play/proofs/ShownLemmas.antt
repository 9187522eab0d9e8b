-- What is kept of what was shown stands for all of it.
use Rattle.std.proofs.Common.{◌≡◌, ℕ, ◌+◌, ◌-◌, ◌<◌, ◌≤◌, ◌||◌, Bool, true, false, true≢false, ◌⊎◌, inl, inr, ⊎_elim, Option, Some, None, is_some, List, [], ◌∷◌, ◌++◌, length, drop, take, max, refl, sym, ap, ◌∙◌, if◌then◌else◌, subst, arith, append-nil, Vec}
use Rattle.std.proofs.lemmas.Bool.{cases_lt}
use Rattle.std.proofs.lemmas.List.Folds.{list_any-append}
use Rattle.std.proofs.Math.Bool.{or-true}
use Rattle.std.proofs.lemmas.Slice.Eq.{bytes_eq-Decides}
use Rattle.std.proofs.lemmas.List.{append_assoc, get_or-append-add, get_or_append_left, length-append, length-drop, length-take-le, take-append-drop}
use Rattle.std.specs.Borrow.{Bor}
use Rattle.std.specs.Prelude.{slice_index}
use Rattle.std.specs.Str.{bytes_eq}
use Rattle.std.specs.declared.alloc.Global.{Global}
use Rattle.memchr.specs.Find.{FindsNeedle, OccursAt}
use Rattle.cpm_script.specs.declared.cue.Cue.{Cue}
use Rattle.cpm_script.specs.declared.cue.Cue.TheVariants.{Wait}
use Rattle.cpm_play.specs.Cued.{HasShown}
use Rattle.cpm_play.specs.Shown.{AreAtMost, AreNoted, HasGrown, IsFound, IsAwaited, IsKeptOrFound, IsShort, MayStandAt, StandsFor, is_found}
use Rattle.cpm_play.specs.declared.shown.Shown.{Shown}

-- ---- places of a text

-- behind others
occurs-behind : (gone rest text : List ℕ) (place : ℕ) → OccursAt rest text place → OccursAt (gone ++ rest) text (length gone + place)
occurs-behind gone rest text place o = record {
  fits = let fits = o.fits in let sum = length-append gone rest in omega arith;
  reads = λ j below.
      let at : length gone + place + j ≡ length gone + (place + j) = omega arith in
      ap (slice_index (gone ++ rest)) at ∙ get_or-append-add gone rest (place + j) 0 ∙ o.reads j below;
}

occurs-rest : (gone rest text : List ℕ) (place : ℕ) → length gone ≤ place → OccursAt (gone ++ rest) text place → OccursAt rest text (place - length gone)
occurs-rest gone rest text place past o = record {
  fits = let fits = o.fits in let sum = length-append gone rest in omega arith;
  reads = λ j below.
      let at : length gone + (place - length gone + j) ≡ place + j = omega arith in
      sym (get_or-append-add gone rest (place - length gone + j) 0) ∙ ap (slice_index (gone ++ rest)) at ∙ o.reads j below;
}

-- before others
occurs-before : (shown later text : List ℕ) (place : ℕ) → OccursAt shown text place → OccursAt (shown ++ later) text place
occurs-before shown later text place o = record {
  fits = let fits = o.fits in let sum = length-append shown later in omega arith;
  reads = λ j below. let fits = o.fits in get_or_append_left shown later 0 (place + j) (omega arith) ∙ o.reads j below;
}

occurs-within : (shown later text : List ℕ) (place : ℕ) → place + length text ≤ length shown → OccursAt (shown ++ later) text place → OccursAt shown text place
occurs-within shown later text place fits o = record {
  fits = fits;
  reads = λ j below. sym (get_or_append_left shown later 0 (place + j) (omega arith)) ∙ o.reads j below;
}

-- a search for it

pub find-some : (shown text : List ℕ) (r : Option ℕ) → FindsNeedle shown text 0 r → is_some r ≡ true → HasShown text shown
find-some shown text None nowhere some = absurd (let bad : ⊥ = cc in bad)
find-some shown text (Some place) first some = (place, first.1)

pub find-none : (shown text : List ℕ) (r : Option ℕ) → FindsNeedle shown text 0 r → is_some r ≡ false → HasShown text shown → ⊥
find-none shown text None nowhere none found = let fits = found.1.fits in nowhere found.0 (omega arith) (omega arith) found.1
find-none shown text (Some place) first none found = absurd (let bad : ⊥ = cc in bad)

-- ---- what is kept

pub stands-nothing : (kept : Shown) → kept.tail.items ≡ [] → kept.found.items ≡ [] → StandsFor kept []
stands-nothing kept tail found = record {
  gone = [];
  parts = sym tail;
  found = λ text among. absurd (true≢false (sym (subst (IsFound text) found among)));
  others = λ text awaited. inr (λ place may. let most = may.1.fits in omega arith);
}

-- a text neither stands in it nor was found
pub held-not : (kept : Shown) (text hay : List ℕ) (known : List (Bor (List ℕ))) → hay ≡ kept.tail.items → known ≡ kept.found.items → (HasShown text hay → ⊥) → is_found text known ≡ false →
    IsKeptOrFound kept text → ⊥
held-not kept text hay known is same lacks none (inl there) = lacks (subst (HasShown text) (sym is) there)
held-not kept text hay known is same lacks none (inr found) = true≢false (sym found ∙ sym (ap (is_found text) same) ∙ none)

-- a text stands in it, if it stands in all that was shown
module _ {kept : Shown} {shown : List ℕ} (stands : StandsFor kept shown) (text : List ℕ) where
  pub held-shown : IsKeptOrFound kept text → HasShown text shown
  held-shown (inl there) = subst (HasShown text) (sym stands.parts) (length stands.gone + there.0, occurs-behind stands.gone kept.tail.items text there.0 there.1)
  held-shown (inr among) = stands.found text among

  pub shown-held : IsAwaited text kept.cues.now → HasShown text shown → IsKeptOrFound kept text
  shown-held awaited there =
      ⊎_elim (λ among. inr among)
      (λ past.
      let late : length stands.gone ≤ there.0 = past there.0 ([], subst (λ xs. OccursAt xs text there.0) (sym (append-nil shown)) there.1) in
      inl (there.0 - length stands.gone, occurs-rest stands.gone kept.tail.items text there.0 late (subst (λ xs. OccursAt xs text there.0) stands.parts there.1)))
      (stands.others text awaited)

-- ---- more is shown

pub grown-none : (kept : Shown) (text : List ℕ) → text ≡ [] → HasGrown kept kept text
grown-none kept text none = record {
  cues = refl;
  shown = λ shown stands. subst (StandsFor kept) (sym (ap (λ t. shown ++ t) none ∙ append-nil shown)) stands;
}

pub grown-on : {old mid now : Shown} {first second : List ℕ} → HasGrown old mid first → HasGrown mid now second → HasGrown old now (first ++ second)
grown-on {old} {mid} {now} {first} {second} a b = record {
  cues = b.cues ∙ a.cues;
  shown = λ shown stands. subst (StandsFor now) (append_assoc shown first second) (b.shown (shown ++ first) (a.shown shown stands));
}

-- what is added where there was memory for it
pub if-true : (b : Bool) (is more old : List ℕ) → is ≡ (if b then more else old) → b ≡ true → is ≡ more
if-true true is more old e holds = e
if-true false is more old e holds = absurd (true≢false (sym holds))

pub grown-added : (old now : Shown) (bytes : List ℕ) → now.cues.now ≡ old.cues.now → now.tail.items ≡ old.tail.items ++ bytes → now.found.items ≡ old.found.items → HasGrown old now bytes
grown-added old now bytes cues tail found = record {
  cues = cues;
  shown = λ shown stands. record {
    gone = stands.gone;
    parts = ap (λ xs. xs ++ bytes) stands.parts ∙ append_assoc stands.gone old.tail.items bytes ∙ ap (λ xs. stands.gone ++ xs) (sym tail);
    found = λ text among. let there = stands.found text (subst (IsFound text) found among) in (there.0, occurs-before shown bytes text there.0 there.1);
    others = λ text awaited.
        ⊎_elim (λ among. inl (subst (IsFound text) (sym found) among))
        (λ past. inr (λ place may. past place (bytes ++ may.0, subst (λ xs. OccursAt xs text place) (append_assoc shown bytes may.0) may.1)))
        (stands.others text (subst (IsAwaited text) cues awaited));
  };
}

-- ---- how much is kept

pub short-nothing : (kept : Shown) → kept.tail.items ≡ [] → kept.cut_at ≡ 65536 → IsShort kept
short-nothing kept none at = record { below = let empty = ap length none in omega arith; most = λ n all. omega arith }

pub short-cut : (kept : Shown) (tail : List ℕ) (longest gone : ℕ) → kept.tail.items ≡ drop gone tail → gone ≡ length tail - (longest - 1) → kept.cut_at ≡ length kept.tail.items + 65536 →
    ((n : ℕ) → AreAtMost n kept.cues.now → longest ≤ n) → IsShort kept
short-cut kept tail longest gone is dropped at least =
    let left : length kept.tail.items ≡ length tail - gone = ap length is ∙ length-drop gone tail in
    record { below = omega arith; most = λ n all. let long = least n all in omega arith }

-- ---- the beginning is dropped

module _ (old now : Shown) (longest n : ℕ) (noted : AreNoted old.cues.now old.tail.items longest old.found.items now.found.items)
    (least : n ≤ length old.tail.items - (longest - 1)) (shown : List ℕ) (stands : StandsFor old shown) where
  past-cut : (text : List ℕ) → length text ≤ longest → (HasShown text old.tail.items → ⊥) → ((place : ℕ) → MayStandAt text shown place → length stands.gone ≤ place) →
      (place : ℕ) → MayStandAt text shown place → length stands.gone + n ≤ place
  past-cut text short lacks past place may =
      let late = past place may in
      let sum : length shown ≡ length stands.gone + length old.tail.items = ap length stands.parts ∙ length-append stands.gone old.tail.items in
      ⊎_elim (λ (out : length shown < place + length text). omega arith)
      (λ (fits : place + length text ≤ length shown).
      absurd (lacks (
        place - length stands.gone,
        occurs-rest stands.gone old.tail.items text place late
            (subst (λ xs. OccursAt xs text place) stands.parts (occurs-within shown may.0 text place fits may.1)),
      )))
      (cases_lt (length shown) (place + length text))

pub grown-cut : (old now : Shown) (longest n : ℕ) → now.cues.now ≡ old.cues.now → AreNoted old.cues.now old.tail.items longest old.found.items now.found.items →
    n ≤ length old.tail.items - (longest - 1) → now.tail.items ≡ drop n old.tail.items → HasGrown old now []
grown-cut old now longest n cues noted least tail = record {
  cues = cues;
  shown = λ shown stands. subst (StandsFor now) (sym (append-nil shown)) (record {
    gone = stands.gone ++ take n old.tail.items;
    parts =
        stands.parts ∙ ap (λ xs. stands.gone ++ xs) (sym (take-append-drop n old.tail.items) ∙ ap (λ xs. take n old.tail.items ++ xs) (sym tail))
        ∙ sym (append_assoc stands.gone (take n old.tail.items) now.tail.items);
    found = λ text among. ⊎_elim (λ before. stands.found text before) (λ there. held-shown stands text (inl there)) (noted.found text among);
    others = λ text awaited.
        let wanted = subst (IsAwaited text) cues awaited in
        let count : length (stands.gone ++ take n old.tail.items) ≡ length stands.gone + n =
        length-append stands.gone (take n old.tail.items) ∙ ap (λ m. length stands.gone + m) (length-take-le n old.tail.items (omega arith)) in
        ⊎_elim (λ among. inl among)
        (λ lacks. ⊎_elim (λ among. inl (noted.kept text among))
        (λ past. inr (λ place may. let late = past-cut old now longest n noted least shown stands text lacks.0 lacks.1 past place may in omega arith))
        (stands.others text wanted))
        (noted.others text wanted);
  });
}

-- ---- texts that were found

module _ (text : List ℕ) where
  found-more : (texts more : List (Bor (List ℕ))) → IsFound text texts → IsFound text (texts ++ more)
  found-more texts more there = list_any-append (λ (known : Bor (List ℕ)). bytes_eq known.now text) texts more ∙ ap (λ b. b || is_found text more) there

  found-pushed : (texts : List (Bor (List ℕ))) (last : Bor (List ℕ)) → last.now ≡ text → IsFound text (texts ++ last ∷ [])
  found-pushed texts last is =
      list_any-append (λ (known : Bor (List ℕ)). bytes_eq known.now text) texts (last ∷ [])
      ∙ ap (λ b. is_found text texts || (b || false)) ((bytes_eq-Decides last.now text).1 is) ∙ or-true (is_found text texts)

  found-before : (texts : List (Bor (List ℕ))) (last : Bor (List ℕ)) → IsFound text (texts ++ last ∷ []) → IsFound text texts ⊎ (last.now ≡ text)
  found-before texts last there =
      go (is_found text texts) (bytes_eq last.now text) refl refl (sym (list_any-append (λ (known : Bor (List ℕ)). bytes_eq known.now text) texts (last ∷ [])) ∙ there)
    where
      go : (a b : Bool) → is_found text texts ≡ a → bytes_eq last.now text ≡ b → (a || (b || false)) ≡ true → IsFound text texts ⊎ (last.now ≡ text)
      go true b first second either = inl first
      go false true first second either = inr ((bytes_eq-Decides last.now text).0 second)
      go false false first second either = absurd (let bad : ⊥ = cc in bad)

-- ---- the texts are looked for

-- so far, where these cues are left
pub record IsNoting (cues rest : List Cue) (tail : List ℕ) (longest : ℕ) (old now : List (Bor (List ℕ))) : Type 0 where
  pub kept : (text : List ℕ) → IsFound text old → IsFound text now
  pub found : (text : List ℕ) → IsFound text now → IsFound text old ⊎ HasShown text tail
  pub others : (text : List ℕ) → IsAwaited text cues → IsAwaited text rest ⊎ (IsFound text now ⊎ ((length text ≤ longest) × (HasShown text tail → ⊥)))
  pub least : (n : ℕ) → AreAtMost n cues → longest ≤ n
  pub of_rest : (text : List ℕ) → IsAwaited text rest → IsAwaited text cues

pub noting-start : (cues : List Cue) (tail : List ℕ) (old : List (Bor (List ℕ))) → IsNoting cues cues tail 0 old old
noting-start cues tail old = record { kept = λ text there. there; found = λ text there. inl there; others = λ text awaited. inl awaited; least = λ n most. omega arith; of_rest = λ text awaited. awaited }

pub noting-end : {cues rest : List Cue} {tail : List ℕ} {longest : ℕ} {old now : List (Bor (List ℕ))} → IsNoting cues rest tail longest old now → ((text : List ℕ) → IsAwaited text rest → ⊥) →
    AreNoted cues tail longest old now
noting-end noting none = record {
  kept = noting.kept;
  found = noting.found;
  others = λ text awaited. ⊎_elim (λ left. absurd (none text left)) (λ done. done) (noting.others text awaited);
  least = noting.least;
}

module _ {cues rest after : List Cue} {tail : List ℕ} {longest : ℕ} {old now : List (Bor (List ℕ))} (noting : IsNoting cues rest tail longest old now) (awaited : Vec ℕ Global) (next : rest ≡ Wait awaited ∷ after) where
  -- whose others are no longer
  step : (more : List (Bor (List ℕ))) (most : ℕ) → longest ≤ most → ((text : List ℕ) → IsFound text now → IsFound text more) → ((text : List ℕ) → IsFound text more → IsFound text now ⊎ HasShown text tail) →
      IsFound awaited.items more ⊎ ((length awaited.items ≤ most) × (HasShown awaited.items tail → ⊥)) → ((n : ℕ) → AreAtMost n cues → most ≤ n) → IsNoting cues after tail most old more
  step more most longer kept found this least = record {
    kept = λ text there. kept text (noting.kept text there);
    found = λ text there. ⊎_elim (λ had. noting.found text had) (λ shown. inr shown) (found text there);
    others = λ text wanted.
        let P : List ℕ → Type 0 = λ t. IsFound t more ⊎ ((length t ≤ most) × (HasShown t tail → ⊥)) in
        ⊎_elim (λ left. ⊎_elim (λ is. inr (subst P (sym is) this)) (λ later. inl later) (subst (IsAwaited text) next left))
        (λ done. inr (⊎_elim (λ had. inl (kept text had)) (λ lacks. let short = lacks.0 in inr (omega arith, lacks.1)) done))
        (noting.others text wanted);
    least = least;
    of_rest = λ text wanted. noting.of_rest text (subst (IsAwaited text) (sym next) (inr wanted));
  }

  pub noting-other : (most : ℕ) (needle : List ℕ) → most ≡ max longest (length needle) → needle ≡ awaited.items → (HasShown needle tail → ⊥) → IsNoting cues after tail most old now
  noting-other most needle at is lacks =
      let long = ap length is in
      step now most (omega arith) (λ text there. there) (λ text there. inl there) (inr (omega arith, λ there. lacks (subst (λ t. HasShown t tail) (sym is) there)))
      (λ n all.
      let had = noting.least n all in
      let this : length awaited.items ≤ n = all awaited.items (noting.of_rest awaited.items (subst (IsAwaited awaited.items) (sym next) (inl refl))) in
      omega arith)

  pub noting-known : (needle : List ℕ) (known : List (Bor (List ℕ))) → known ≡ now → needle ≡ awaited.items → is_found needle known ≡ true → IsNoting cues after tail longest old now
  noting-known needle known same is holds =
      step now longest (omega arith) (λ text there. there) (λ text there. inl there)
      (inl (subst (λ t. IsFound t now) is (subst (λ texts. is_found needle texts ≡ true) same holds))) noting.least

  pub noting-found : (more : List (Bor (List ℕ))) (last : Bor (List ℕ)) → more ≡ now ++ last ∷ [] → last.now ≡ awaited.items → HasShown last.now tail → IsNoting cues after tail longest old more
  noting-found more last is same there =
      subst (IsNoting cues after tail longest old) (sym is)
      (step (now ++ last ∷ []) longest (omega arith) (λ text had. found-more text now (last ∷ []) had)
      (λ text had. ⊎_elim (λ before. inl before) (λ new. inr (subst (λ t. HasShown t tail) new there)) (found-before text now last had))
      (inl (found-pushed awaited.items now last same)) noting.least)
