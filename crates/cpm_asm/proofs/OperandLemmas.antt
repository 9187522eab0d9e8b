-- Lists of operands.
use Rattle.std.proofs.Common.{◌≡◌, ◌<◌, ℕ, List, [], ◌∷◌, None, length, arith, refl}
use Rattle.cpm_asm.specs.Operands.{only_one, only_two}

pub one-more : (x : List ℕ) (xs : List (List ℕ)) → 0 < length xs → only_one (x ∷ xs) ≡ None
one-more x [] h = absurd (omega arith)
one-more x (y ∷ xs) h = refl

pub two-more : (x y : List ℕ) (xs : List (List ℕ)) → 0 < length xs → only_two (x ∷ y ∷ xs) ≡ None
two-more x y [] h = absurd (omega arith)
two-more x y (z ∷ xs) h = refl
