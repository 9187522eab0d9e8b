-- So many values of one layout, appended or read one after another.
use Rattle.std.proofs.Common.{◌≡◌, ◌∙◌, ◌<◌, ◌≤◌, ◌+◌, ◌-◌, ℕ, suc, List, [], ◌∷◌, ◌++◌, Ok, Err, length, ap, arith, refl, sym, append_assoc, length-append}
use Rattle.std.proofs.lemmas.List.{append-nil}
use Rattle.std.proofs.lemmas.List.Elements.{All-append, All-cons, All-nil}
use Rattle.cpm_saved.specs.Layout.{IsOf, Layout, Read, Rest, Times, as_read, coded, coded_all, decoded, laid_out, read_times, then_read}
use Rattle.cpm_saved.specs.Reading.{IsPartAppended, IsPartUnread}
use Rattle.cpm_saved.specs.declared.part.SavingDamage.{SavingDamage}
use Rattle.cpm_saved.specs.declared.reader.RestoreError.{RestoreError}
use Rattle.cpm_saved.specs.declared.reader.RestoreError.TheVariants.{Damaged, OutOfMemory}

-- ---- appended

coded_more : {A : Type 0} → (code : A → List ℕ) (vs : List A) (v : A) → coded_all code (vs ++ v ∷ []) ≡ coded_all code vs ++ code v
coded_more {A} code [] v = append-nil (code v)
coded_more {A} code (w ∷ ws) v =
    ap (λ (xs : List ℕ). code w ++ xs) (coded_more code ws v) ∙ sym (append_assoc (code w) (coded_all code ws) (code v))

pub times_begun : (f : Layout) (a : List ℕ) → IsPartAppended (Times 0 f) [] a a
times_begun f a = record { bytes = sym (append-nil a); fits = (refl, All-nil (IsOf f)) }

pub times_more : (f : Layout) (k : ℕ) (vs : List (laid_out f)) (v : laid_out f) (a b c : List ℕ)
    → IsPartAppended (Times k f) vs a b → IsPartAppended f v b c → IsPartAppended (Times (k + 1) f) (vs ++ v ∷ []) a c
times_more f k vs v a b c before here =
    let long : length vs ≡ k = before.fits.0 in record {
      bytes = here.bytes ∙ ap (λ (xs : List ℕ). xs ++ coded f v) before.bytes ∙ append_assoc a (coded_all (coded f) vs) (coded f v)
          ∙ ap (λ (xs : List ℕ). a ++ xs) (sym (coded_more (coded f) vs v));
      fits = (
        length-append vs (v ∷ []) ∙ omega (arith, long),
        All-append (IsOf f) vs (v ∷ []) before.fits.1 (All-cons (IsOf f) v [] here.fits (All-nil (IsOf f))),
      );
    }

-- ---- read

-- of n values the first k were read: what is read of the old bytes is these, and what is read of the bytes that are left
pub record ReadSoFar (n k : ℕ) (f : Layout) (vs : List (laid_out f)) (old now : Rest) : Type 0 where
  pub count : length vs ≡ k
  pub within : k ≤ n
  pub read : decoded (Times n f) old ≡ as_read (λ (ws : List (laid_out f)). vs ++ ws) (decoded (Times (n - k) f) now)

as_same : {A : Type 0} → (read : Read (List A)) → read ≡ as_read (λ (ws : List A). [] ++ ws) read
as_same {A} (Err damage) = refl
as_same {A} (Ok p) = refl

as_twice : {A : Type 0} → (vs : List A) (v : A) (read : Read (List A))
    → as_read (λ (ws : List A). vs ++ ws) (as_read (λ (ws : List A). v ∷ ws) read) ≡ as_read (λ (ws : List A). (vs ++ v ∷ []) ++ ws) read
as_twice {A} vs v (Err damage) = refl
as_twice {A} vs v (Ok p) = ap (λ (ws : List A). Ok (ws, p.1)) (sym (append_assoc vs (v ∷ []) p.0))

pub so_far_begun : (n : ℕ) (f : Layout) (old : Rest) → ReadSoFar n 0 f [] old old
so_far_begun n f old = record {
  count = refl;
  within = omega arith;
  read = as_same (read_times n (decoded f) old) ∙ ap (λ (m : ℕ). as_read (λ (ws : List (laid_out f)). [] ++ ws) (read_times m (decoded f) old)) (all n);
}
  where
    all : (n : ℕ) → n ≡ n - 0
    all n = omega arith

left : (n k : ℕ) → k < n → n - k ≡ suc (n - (k + 1))
left n k low = omega (arith, low)

-- the next of the values that are left
next_of : (n k : ℕ) (f : Layout) (vs : List (laid_out f)) (old now : Rest) → ReadSoFar n k f vs old now → k < n
    → decoded (Times n f) old ≡ as_read (λ (ws : List (laid_out f)). vs ++ ws)
    (then_read (λ p. as_read (λ (ws : List (laid_out f)). p.0 ∷ ws) (read_times (n - (k + 1)) (decoded f) p.1)) (decoded f now))
next_of n k f vs old now so_far low =
    so_far.read ∙ ap (λ (m : ℕ). as_read (λ (ws : List (laid_out f)). vs ++ ws) (read_times m (decoded f) now)) (left n k low)

pub so_far_more : (n k : ℕ) (f : Layout) (vs : List (laid_out f)) (v : laid_out f) (old now next : Rest) → ReadSoFar n k f vs old now → k < n
    → decoded f now ≡ Ok (v, next) → ReadSoFar n (k + 1) f (vs ++ v ∷ []) old next
so_far_more n k f vs v old now next so_far low here =
    let long : length vs ≡ k = so_far.count in record {
      count = length-append vs (v ∷ []) ∙ omega (arith, long);
      within = omega (arith, low);
      read = next_of n k f vs old now so_far low
          ∙ ap (λ (r : Read (laid_out f)). as_read (λ (ws : List (laid_out f)). vs ++ ws)
          (then_read (λ p. as_read (λ (ws : List (laid_out f)). p.0 ∷ ws) (read_times (n - (k + 1)) (decoded f) p.1)) r)) here
          ∙ as_twice vs v (read_times (n - (k + 1)) (decoded f) next);
    }

pub so_far_done : (n k : ℕ) (f : Layout) (vs : List (laid_out f)) (old now : Rest) → ReadSoFar n k f vs old now → k ≡ n
    → decoded (Times n f) old ≡ Ok (vs, now)
so_far_done n k f vs old now so_far all =
    so_far.read ∙ ap (λ (m : ℕ). as_read (λ (ws : List (laid_out f)). vs ++ ws) (read_times m (decoded f) now)) (none n k all)
    ∙ ap (λ (ws : List (laid_out f)). Ok (ws, now)) (append-nil vs)
  where
    none : (n k : ℕ) → k ≡ n → n - k ≡ 0
    none n k all = omega (arith, all)

pub so_far_damaged : (n k : ℕ) (f : Layout) (vs : List (laid_out f)) (old now : Rest) (damage : SavingDamage) → ReadSoFar n k f vs old now → k < n
    → decoded f now ≡ Err damage → decoded (Times n f) old ≡ Err damage
so_far_damaged n k f vs old now damage so_far low here =
    next_of n k f vs old now so_far low
    ∙ ap (λ (r : Read (laid_out f)). as_read (λ (ws : List (laid_out f)). vs ++ ws)
    (then_read (λ p. as_read (λ (ws : List (laid_out f)). p.0 ∷ ws) (read_times (n - (k + 1)) (decoded f) p.1)) r)) here

-- where the next value is refused, all are
pub so_far_unread : (n k : ℕ) (f : Layout) (vs : List (laid_out f)) (old now : Rest) (fault : RestoreError) → ReadSoFar n k f vs old now → k < n
    → IsPartUnread (decoded f now) fault → IsPartUnread (decoded (Times n f) old) fault
so_far_unread n k f vs old now (Damaged damage) so_far low here = so_far_damaged n k f vs old now damage so_far low here
so_far_unread n k f vs old now OutOfMemory so_far low here = tt
