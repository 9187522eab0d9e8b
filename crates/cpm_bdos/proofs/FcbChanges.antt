-- The bytes of a file control block that a call changed.
use Rattle.std.proofs.Common.{◌≡◌, ℕ, zero, suc, ◌<◌, Bool, true, false, cond, List, [], ◌∷◌, length, get_or, refl, ap, arith}
use Rattle.std.specs.Prelude.{◌==◌}
use Rattle.std.proofs.lemmas.Bool.Decides.{nat_tests}
use Rattle.cpm_bdos.specs.Disks.{changed_bytes}

pub length-changed : (old new now : List ℕ) → length old ≡ length now → length new ≡ length now → length (changed_bytes old new now) ≡ length now
length-changed [] new [] eo en = refl
length-changed [] new (c ∷ now) eo en = absurd (omega arith)
length-changed (a ∷ old) [] [] eo en = refl
length-changed (a ∷ old) [] (c ∷ now) eo en = absurd (omega arith)
length-changed (a ∷ old) (b ∷ new) [] eo en = refl
length-changed (a ∷ old) (b ∷ new) (c ∷ now) eo en =
    ap suc (length-changed old new now (omega arith) (omega arith))

-- a byte that the call left is the one that lies there
pub changed-same : (old new now : List ℕ) (i : ℕ) → i < length old → i < length new → i < length now → get_or new i 0 ≡ get_or old i 0 → get_or (changed_bytes old new now) i 0 ≡ get_or now i 0
changed-same (a ∷ old) (b ∷ new) (c ∷ now) zero lo ln li same = by_test (a == b) refl
  where
    by_test : (t : Bool) → (a == b) ≡ t → cond t c b ≡ c
    by_test true e = refl
    by_test false e = absurd (grind (arith, nat_tests))
changed-same (a ∷ old) (b ∷ new) (c ∷ now) (suc i) lo ln li same =
    changed-same old new now i (omega arith) (omega arith) (omega arith) same
changed-same [] new now i lo ln li same = absurd (omega arith)
changed-same (a ∷ old) [] now i lo ln li same = absurd (omega arith)
changed-same (a ∷ old) (b ∷ new) [] i lo ln li same = absurd (omega arith)

-- and one that it changed is its own
pub changed-other : (old new now : List ℕ) (i : ℕ) → i < length old → i < length new → i < length now → (get_or new i 0 ≡ get_or old i 0 → ⊥) → get_or (changed_bytes old new now) i 0 ≡ get_or new i 0
changed-other (a ∷ old) (b ∷ new) (c ∷ now) zero lo ln li other = by_test (a == b) refl
  where
    by_test : (t : Bool) → (a == b) ≡ t → cond t c b ≡ b
    by_test true e = let same : b ≡ a = grind (arith, nat_tests) in absurd (other same)
    by_test false e = refl
changed-other (a ∷ old) (b ∷ new) (c ∷ now) (suc i) lo ln li other =
    changed-other old new now i (omega arith) (omega arith) (omega arith) other
changed-other [] new now i lo ln li other = absurd (omega arith)
changed-other (a ∷ old) [] now i lo ln li other = absurd (omega arith)
changed-other (a ∷ old) (b ∷ new) [] i lo ln li other = absurd (omega arith)
