-- At most sixteen characters.
use Rattle.std.proofs.Common.{◌≡◌, ◌≤◌, ◌<◌, ℕ, List, ◌∷◌, ◌++◌, Some, None, length, arith, refl, length-append}
use Rattle.std.proofs.lemmas.Bool.Decides.{nat_tests}
use Rattle.cpm_asm_expression.specs.Letters.{short}

fits : (xs : List ℕ) (n : ℕ) → n ≡ length xs → n ≤ 16 → short xs ≡ Some xs
fits xs n is h = grind (arith, nat_tests)

over : (xs : List ℕ) (n : ℕ) → n ≡ length xs → 16 < n → short xs ≡ None
over xs n is h = grind (arith, nat_tests)

pub short-fits : (xs : List ℕ) → length xs ≤ 16 → short xs ≡ Some xs
short-fits xs h = fits xs (length xs) refl h
