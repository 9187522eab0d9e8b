-- What a script says, one line after another: how many keys that are, and the last count.
use Rattle.std.proofs.Common.{◌≡◌, ◌<◌, ◌≤◌, ◌+◌, ℕ, Bool, true, false, List, [], ◌∷◌, ◌++◌, Option, Some, None, option_map, Ok, Err, map, length, arith, refl, ap, ◌∙◌, sym, subst, append_assoc}
use Rattle.std.specs.Prelude.{IfSome, Vec, is_some, if◌then◌else◌, ◌==◌, ◌||◌, option_and_then}
use Rattle.std.specs.List.{after_first, before_first}
use Rattle.std.specs.Option.{unwrap_or}
use Rattle.std.specs.declared.alloc.Global.{Global}
use Rattle.std.proofs.lemmas.Bool.{false≢true}
use Rattle.std.proofs.lemmas.List.{append-nil, map-append}
use Rattle.memchr.specs.Find.{FindsNeedle, first_of, matches}
use Rattle.memchr.proofs.lemmas.ValueLemmas.{FindsNeedle-value}
use Rattle.cpm_script.specs.Cues.{Awaited, Counted, IsReading, Pressed, CueText, all_said, closing, cues_from, cut_at, cued_key_count, last_cue_count, key_cue, quoted, cue_text, cues_with_keys, cues_with_line, cues_with_text, cues_with_word}
use Rattle.cpm_script.specs.KeyText.{first_key_of_text, keys_of}
use Rattle.cpm_script.specs.Laws.{KeysAreAscii}
use Rattle.cpm_script.specs.Script.{is_skipped, is_script_space, most_keys, at_line, or_fault}
use Rattle.cpm_script.specs.declared.cue.Cue.{Cue}
use Rattle.cpm_script.specs.declared.cue.ScriptReading.{ScriptReading}
use Rattle.cpm_script.specs.declared.fault.LineFault.TheVariants.{NoKey, NotAKey, TooManyKeys}
use Rattle.cpm_script.specs.declared.script.Key.{Key}
use Rattle.cpm_script.proofs.KeyLemmas.{fits, fronted, keys_of-first, too_many}

-- ---- cues behind others

pub keys_in-append : (a b : List CueText) → cued_key_count (a ++ b) ≡ cued_key_count a + cued_key_count b
keys_in-append [] b = omega arith
keys_in-append (Counted key ∷ a) b = omega (arith, keys_in-append a b)
keys_in-append (Awaited text ∷ a) b = keys_in-append a b
keys_in-append (Pressed byte ∷ a) b = omega (arith, keys_in-append a b)

pub last_count-append : (n : ℕ) (a b : List CueText) → last_cue_count n (a ++ b) ≡ last_cue_count (last_cue_count n a) b
last_count-append n [] b = refl
last_count-append n (Counted key ∷ a) b = last_count-append key.count a b
last_count-append n (Awaited text ∷ a) b = last_count-append n a b
last_count-append n (Pressed byte ∷ a) b = last_count-append n a b

pub ascii-append : (a b : List CueText) → KeysAreAscii a → KeysAreAscii b → KeysAreAscii (a ++ b)
ascii-append [] b first later = later
ascii-append (Counted key ∷ a) b first later = (first.0, ascii-append a b first.1 later)
ascii-append (Awaited text ∷ a) b first later = ascii-append a b first later
ascii-append (Pressed byte ∷ a) b first later = (first.0, ascii-append a b first.1 later)

-- cues that are keys with their counts
pub counted-keys : (keys : List Key) → cued_key_count (map Counted keys) ≡ length keys
counted-keys [] = refl
counted-keys (k ∷ keys) = omega (arith, counted-keys keys)

-- one cue more
pub said-pushed : (v w : Vec Cue Global) (x : Cue) → w.items ≡ v.items ++ x ∷ [] → all_said w ≡ all_said v ++ cue_text x ∷ []
said-pushed v w x is = ap (map cue_text) is ∙ map-append cue_text v.items (x ∷ [])

one-key : (at : Option ℕ) (byte : ℕ) → cued_key_count (key_cue at byte ∷ []) ≡ 1
one-key None byte = refl
one-key (Some count) byte = refl

its-count : (n : ℕ) (at : Option ℕ) (byte : ℕ) → last_cue_count n (key_cue at byte ∷ []) ≡ unwrap_or at n
its-count n None byte = refl
its-count n (Some count) byte = refl

-- a key more
pub key-pushed : (old : ScriptReading) (cues : Vec Cue Global) (at : Option ℕ) (byte : ℕ) → IsReading old → old.keys < 4096
    → all_said cues ≡ all_said old.cues ++ key_cue at byte ∷ [] → IsReading (record { cues = cues; keys = old.keys + 1; last = unwrap_or at old.last })
key-pushed old cues at byte good room is =
    let count = ap cued_key_count is ∙ keys_in-append (all_said old.cues) (key_cue at byte ∷ []) in
    let last = ap (last_cue_count 0) is ∙ last_count-append 0 (all_said old.cues) (key_cue at byte ∷ []) in
    record {
      keys = omega (arith, count, one-key at byte, good.keys);
      last = sym (last ∙ its-count (last_cue_count 0 (all_said old.cues)) at byte ∙ ap (unwrap_or at) (sym good.last));
      room = omega arith;
    }

-- a wait more
pub wait-pushed : (old new : ScriptReading) (text : List ℕ) → IsReading old → new.keys ≡ old.keys → new.last ≡ old.last
    → all_said new.cues ≡ all_said old.cues ++ Awaited text ∷ [] → IsReading new
wait-pushed old new text good same_keys same_last is =
    let count = ap cued_key_count is ∙ keys_in-append (all_said old.cues) (Awaited text ∷ []) in
    let last = ap (last_cue_count 0) is ∙ last_count-append 0 (all_said old.cues) (Awaited text ∷ []) in
    record {
      keys = omega (arith, count, good.keys, same_keys);
      last = same_last ∙ good.last ∙ sym last;
      room = omega (arith, same_keys, good.room);
    }

-- ---- a text in quotes

no_other : (t : Bool) (x : Option (List ℕ × List ℕ)) → x ≡ None → (if t then x else None) ≡ None
no_other true x is = is
no_other false x is = refl

pub quoted-none : (text inner : List ℕ) (first : ℕ) → text ≡ first ∷ inner → FindsNeedle inner closing 0 None → quoted text ≡ None
quoted-none text inner first is none =
    let value = FindsNeedle-value inner closing None none in
    ap quoted is ∙ no_other (first == 0x22) (option_and_then (cut_at inner) (first_of (matches inner closing 0))) (ap (option_and_then (cut_at inner)) (sym value))

pub quoted-some : (text inner : List ℕ) (first place : ℕ) → text ≡ first ∷ inner → first ≡ 0x22 → FindsNeedle inner closing 0 (Some place)
    → quoted text ≡ cut_at inner place
quoted-some text inner first place is quote found =
    let value = FindsNeedle-value inner closing (Some place) found in
    ap quoted (is ∙ ap (λ b. b ∷ inner) quote) ∙ ap (λ at. option_and_then (cut_at inner) at) (sym value)

-- ---- the keys of a text, one after another

pub keys-first : (text after : List ℕ) (key : ℕ) → first_key_of_text text ≡ Some (key, after) → keys_of text ≡ option_map (λ ks. key ∷ ks) (keys_of after)
keys-first [] after key is = absurd (cc)
keys-first (b ∷ text) after key is = keys_of-first (b ∷ text) (omega arith) ∙ ap fronted is

pub keys-end : (text : List ℕ) → first_key_of_text text ≡ None → is_some (keys_of text) ≡ true → keys_of text ≡ Some []
keys-end [] is some = refl
keys-end (b ∷ text) is some =
    let none : keys_of (b ∷ text) ≡ None = keys_of-first (b ∷ text) (omega arith) ∙ ap fronted is in
    absurd (false≢true (sym (ap is_some none) ∙ some))

pub bytes-first : (old : List ℕ) (byte : ℕ) (rest after : Option (List ℕ)) → rest ≡ option_map (λ ks. byte ∷ ks) after
    → option_map (λ ks. (old ++ byte ∷ []) ++ ks) after ≡ option_map (λ ks. old ++ ks) rest
bytes-first old byte rest None is = ap (option_map (λ ks. old ++ ks)) (sym is)
bytes-first old byte rest (Some ks) is = ap Some (append_assoc old (byte ∷ []) ks) ∙ ap (option_map (λ ks. old ++ ks)) (sym is)

-- the cues with the keys of a text behind them
abbrev pub followed : List CueText → Option ℕ → Option (List ℕ) → Option (List CueText)
followed old at text = option_map (λ ks. old ++ map (key_cue at) ks) text

pub followed-first : (old : List CueText) (at : Option ℕ) (byte : ℕ) (rest after : Option (List ℕ)) → rest ≡ option_map (λ ks. byte ∷ ks) after
    → followed (old ++ key_cue at byte ∷ []) at after ≡ followed old at rest
followed-first old at byte rest None is = ap (followed old at) (sym is)
followed-first old at byte rest (Some ks) is = ap Some (append_assoc old (key_cue at byte ∷ []) (map (key_cue at) ks)) ∙ ap (followed old at) (sym is)

pub followed-end : (old : List CueText) (at : Option ℕ) (rest : Option (List ℕ)) → rest ≡ Some [] → followed old at rest ≡ Some old
followed-end old at rest is = ap (followed old at) is ∙ ap Some (append-nil old)

pub some-after : (byte : ℕ) (rest after : Option (List ℕ)) → rest ≡ option_map (λ ks. byte ∷ ks) after → is_some rest ≡ true → is_some after ≡ true
some-after byte rest None is some = absurd (false≢true (sym (ap is_some is) ∙ some))
some-after byte rest (Some ks) is some = refl

-- these keys behind so many
abbrev pub HasRoom : ℕ → Option (List ℕ) → Type 0
HasRoom n keys = IfSome keys (λ ks. n + length ks ≤ 4096)

pub room-first : (n byte : ℕ) (rest after : Option (List ℕ)) → rest ≡ option_map (λ ks. byte ∷ ks) after → is_some rest ≡ true → HasRoom n rest → n < 4096
room-first n byte rest None is some room = absurd (false≢true (sym (ap is_some is) ∙ some))
room-first n byte rest (Some ks) is some room = let here : HasRoom n (Some (byte ∷ ks)) = subst (HasRoom n) is room in omega (arith, here)

pub room-after : (n byte : ℕ) (rest after : Option (List ℕ)) → rest ≡ option_map (λ ks. byte ∷ ks) after → HasRoom n rest → HasRoom (n + 1) after
room-after n byte rest None is room = tt
room-after n byte rest (Some ks) is room = let here : HasRoom n (Some (byte ∷ ks)) = subst (HasRoom n) is room in omega (arith, here)

-- ---- the keys of a line

pub text-none : (cues : List CueText) (at : Option ℕ) (keys : Option (List ℕ)) → None ≡ option_map length keys → or_fault NotAKey keys (cues_with_keys cues at) ≡ Err NotAKey
text-none cues at None is = refl
text-none cues at (Some ks) is = absurd (cc)

pub text-empty : (cues : List CueText) (at : Option ℕ) (n : ℕ) (keys : Option (List ℕ)) → Some n ≡ option_map length keys → n ≡ 0 → or_fault NotAKey keys (cues_with_keys cues at) ≡ Err NoKey
text-empty cues at n None is none = absurd (cc)
text-empty cues at n (Some []) is none = refl
text-empty cues at n (Some (k ∷ ks)) is none = let same : n ≡ length (k ∷ ks) = cc in absurd (omega (arith, same))

pub text-full : (cues : List CueText) (at : Option ℕ) (n : ℕ) (keys : Option (List ℕ)) → Some n ≡ option_map length keys → 0 < n → most_keys < cued_key_count cues + n
    → or_fault NotAKey keys (cues_with_keys cues at) ≡ Err TooManyKeys
text-full cues at n None is some over = absurd (cc)
text-full cues at n (Some []) is some over = let same : n ≡ 0 = cc in absurd (omega (arith, same))
text-full cues at n (Some (k ∷ ks)) is some over =
    let same : n ≡ length (k ∷ ks) = cc in
    rw (too_many (cued_key_count cues) (length (k ∷ ks)) (omega (arith, same, over))) refl

pub text-some : (n : ℕ) (keys : Option (List ℕ)) → Some n ≡ option_map length keys → is_some keys ≡ true
text-some n None is = absurd (cc)
text-some n (Some ks) is = refl

pub text-room : (m n : ℕ) (keys : Option (List ℕ)) → Some n ≡ option_map length keys → m + n ≤ 4096 → HasRoom m keys
text-room m n None is room = tt
text-room m n (Some ks) is room = let same : n ≡ length ks = cc in omega (arith, same, room)

pub text-added : (cues new : List CueText) (at : Option ℕ) (n : ℕ) (keys : Option (List ℕ)) → Some n ≡ option_map length keys → 0 < n → cued_key_count cues + n ≤ most_keys
    → followed cues at keys ≡ Some new → or_fault NotAKey keys (cues_with_keys cues at) ≡ Ok new
text-added cues new at n None is some room added = absurd (cc)
text-added cues new at n (Some []) is some room added = let same : n ≡ 0 = cc in absurd (omega (arith, same))
text-added cues new at n (Some (k ∷ ks)) is some room added =
    let same : n ≡ length (k ∷ ks) = cc in
    let all : cues ++ map (key_cue at) (k ∷ ks) ≡ new = cc in
    rw (fits (cued_key_count cues) (length (k ∷ ks)) (omega (arith, same, room))) (ap Ok all)

-- ---- a line that waits

pub awaited-none : (cues : List CueText) (shown : Option (List ℕ)) (text : List ℕ) → is_some shown ≡ false
    → or_fault NotAKey shown (λ bytes. cues_with_text (cues ++ Awaited bytes ∷ []) None text) ≡ Err NotAKey
awaited-none cues None text none = refl
awaited-none cues (Some bytes) text none = absurd (false≢true (sym none))

pub awaited-some : (cues mid : List CueText) (shown : Option (List ℕ)) (text : List ℕ) → option_map (λ bytes. cues ++ Awaited bytes ∷ []) shown ≡ Some mid
    → or_fault NotAKey shown (λ bytes. cues_with_text (cues ++ Awaited bytes ∷ []) None text) ≡ cues_with_text mid None text
awaited-some cues mid None text is = absurd (cc)
awaited-some cues mid (Some bytes) text is = let same : cues ++ Awaited bytes ∷ [] ≡ mid = cc in ap (λ cs. cues_with_text cs None text) same

-- ---- lines

pub kept-line : (cues : List CueText) (line : List ℕ) → is_skipped line ≡ false → cues_with_line cues line ≡ cues_with_word cues (before_first is_script_space line) (after_first is_script_space line)
kept-line cues line kept = ap (λ (t : Bool). if t then Ok cues else cues_with_word cues (before_first is_script_space line) (after_first is_script_space line)) kept

pub cues-step : (n : ℕ) (cues new : List CueText) (line : List ℕ) (rest : List (List ℕ)) → cues_with_line cues line ≡ Ok new
    → cues_from n cues (line ∷ rest) ≡ cues_from (n + 1) new rest
cues-step n cues new line rest is = ap (λ r. at_line n r (λ more. cues_from (n + 1) more rest)) is

pub or-later : (a b : Bool) → b ≡ true → (a || b) ≡ true
or-later true b is = refl
or-later false b is = is
