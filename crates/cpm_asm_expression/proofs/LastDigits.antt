-- The last character of a number.
use Rattle.std.proofs.Common.{◌≡◌, ◌<◌, ℕ, List, [], ◌∷◌, ◌++◌, Option, Some, None, length, take, get_or, arith, refl, ap, ◌∙◌, ◌-◌, ◌+◌}
use Rattle.std.proofs.lemmas.List.{get_or_at, take_at, length_push}
use Rattle.cpm_asm_expression.specs.Numbers.{base_of, by_base, number_of_digits, number_to_base}

-- what the digits before the last character and the base that it tells make
abbrev pub by_last : List ℕ → List ℕ → Option ℕ → Option ℕ
by_last all front None = number_to_base 10 0 all
by_last all front (Some base) = number_to_base base 0 front

some_digit : (xs : List ℕ) → 0 < length xs → number_of_digits xs ≡ by_base xs (base_of (get_or xs (length xs - 1) 0))
some_digit [] h = absurd (omega arith)
some_digit (x ∷ xs) h = refl

same_front : (all front : List ℕ) (base : Option ℕ) → take (length all - 1) all ≡ front → by_base all base ≡ by_last all front base
same_front all front None e = refl
same_front all front (Some base) e = ap (number_to_base base 0) e

pub number_in-last : (all front : List ℕ) (last : ℕ) → all ≡ front ++ last ∷ [] → number_of_digits all ≡ by_last all front (base_of last)
number_in-last all front last is =
    let size : length all ≡ length front + 1 = ap length is ∙ length_push front last in
    let place : length front ≡ length all - 1 = omega (arith, size) in
    let at : get_or all (length all - 1) 0 ≡ last = ap (λ xs. get_or xs (length all - 1) 0) is ∙ get_or_at front last [] 0 (length all - 1) place in
    let before : take (length all - 1) all ≡ front = ap (take (length all - 1)) is ∙ take_at front (last ∷ []) (length all - 1) place in
    some_digit all (omega (arith, size)) ∙ ap (λ b. by_base all (base_of b)) at ∙ same_front all front (base_of last) before
