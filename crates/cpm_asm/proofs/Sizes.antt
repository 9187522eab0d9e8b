-- Sizes that are counted up to 65,537.
use Rattle.std.proofs.Common.{◌≡◌, ◌≤◌, ℕ, ◌+◌, Bool, List, ◌∷◌, Option, None, Some, min, arith, refl, ap, option_map}
use Rattle.cpm_asm.specs.Data.{operand_size, plus, sizes}

-- a size behind another
abbrev pub capped : ℕ → Option ℕ → Option ℕ
capped size more = option_map (λ n. min (size + n) 65537) more

more : (size n : ℕ) (rest : Option ℕ) → capped (min (size + n) 65537) rest ≡ capped size (plus (Some n) rest)
more size n None = refl
more size n (Some k) = ap (λ (x : ℕ). Some x) (omega arith)

pub capped-start : (o : Option ℕ) → capped 0 o ≡ option_map (λ n. min n 65537) o
capped-start None = refl
capped-start (Some n) = ap (λ (x : ℕ). Some x) (omega arith)

pub capped-none : (is_words : Bool) (size : ℕ) (operand : List ℕ) (rest : List (List ℕ)) → operand_size is_words operand ≡ None → capped size (sizes is_words (operand ∷ rest)) ≡ None
capped-none is_words size operand rest is = ap (λ o. capped size (plus o (sizes is_words rest))) is

pub capped-end : (size : ℕ) → size ≤ 65537 → capped size (Some 0) ≡ Some size
capped-end size h = ap (λ (x : ℕ). Some x) (omega (arith, h))
