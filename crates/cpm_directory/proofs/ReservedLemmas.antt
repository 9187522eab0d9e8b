-- The reserved blocks as the first so many tests of a table.
use Rattle.std.proofs.Common.{ap, ◌≡◌, ◌⊎◌, ℕ, ◌<◌, ◌≤◌, Bool, true, false, not, eqb, List, length, map, get_or, take, sym, inl, inr, ◌∙◌, arith}
use Rattle.std.proofs.lemmas.List.{ext_get_or, get_or_past, get_or-map, get_or-take, length-map, length-take-le, get_or_default}
use Rattle.std.specs.List.{position_or_len}
use Rattle.std.proofs.lemmas.List.Sums.{position_or_len_is, fails_before_first, passes_at_first}
use Rattle.std.proofs.lemmas.Bool.{cases_lt}
use Rattle.cpm_volume.specs.Reserved.{is_reserved, least_free}

pub past_is_reserved : (xs : List Bool) (count b : ℕ) → count ≤ length xs → count ≤ b → is_reserved (take count xs) b ≡ true
unfolding is_reserved
past_is_reserved xs count b h l = get_or_past (take count xs) b true (let e = length-take-le count xs h in omega arith)

pub below_is_reserved : (xs : List Bool) (count b : ℕ) → count ≤ length xs → b < count → is_reserved (take count xs) b ≡ get_or xs b false
unfolding is_reserved
below_is_reserved xs count b h l = get_or-take count xs b true l ∙ get_or_default xs b true false (omega arith)

-- the least free of the first tests of a table
pub lowest_within : (xs : List Bool) (count : ℕ) → count ≤ length xs → least_free xs < count → least_free (take count xs) ≡ least_free xs
unfolding least_free
lowest_within xs count h l =
    position_or_len_is not (take count xs) (position_or_len not xs) true (omega (arith, length-take-le count xs h))
    (λ k m. ap not (get_or-take count xs k true (omega arith)) ∙ fails_before_first not xs k true m)
    (λ m. ap not (get_or-take count xs (position_or_len not xs) true l) ∙ passes_at_first not xs true (omega arith))

pub lowest_past : (xs : List Bool) (count : ℕ) → count ≤ length xs → count ≤ least_free xs → least_free (take count xs) ≡ count
unfolding least_free
lowest_past xs count h l =
    position_or_len_is not (take count xs) count true (omega (arith, length-take-le count xs h))
    (λ k m. ap not (get_or-take count xs k true m) ∙ fails_before_first not xs k true (omega arith))
    (λ m. absurd (omega (arith, length-take-le count xs h)))

-- the lowest is past the first tests, or above a last number
pub none_within : (xs : List Bool) (count last : ℕ) → count ≤ length xs → (count ≤ least_free xs) ⊎ (last < least_free xs) → (least_free (take count xs) ≡ length (take count xs)) ⊎ (last < least_free (take count xs))
none_within xs count last h out =
    elim (cases_lt (least_free xs) count) [
      | inl low ↦ elim out [
        | inl past ↦ absurd (omega arith)
        | inr above ↦ inr (rw (lowest_within xs count h low) above)
      ]
      | inr high ↦ inl (lowest_past xs count h high ∙ sym (length-take-le count xs h))
    ]

-- the first tests of a table are those of marks
pub marked : (blocks : List Bool) (marks : List ℕ) → length blocks ≡ 512 → length marks ≤ 512 → ((k : ℕ) → k < length marks → get_or blocks k false ≡ eqb (get_or marks k 0) 1) → take (length marks) blocks ≡ map (λ mark. eqb mark 1) marks
marked blocks marks size fits at =
    let count = length-take-le (length marks) blocks (omega arith) in
    ext_get_or false (take (length marks) blocks) (map (λ mark. eqb mark 1) marks) (count ∙ sym (length-map marks (λ mark. eqb mark 1))) (λ k h.
    let within : k < length marks = omega (arith, count) in
    get_or-take (length marks) blocks k false within ∙ (at k within ∙ sym (get_or-map (λ mark. eqb mark 1) marks k 0 false within)))
