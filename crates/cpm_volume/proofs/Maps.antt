-- Maps that agree, and counts of records.
use Rattle.std.proofs.Common.{◌≡◌, ◌≢◌, ℕ, suc, ◌<◌, ◌≤◌, true, false, cond, eqb, List, [], ◌∷◌, get_or, sym, refl, ◌∙◌, inl, inr, arith}
use Rattle.std.proofs.lemmas.Bool.{eq-eqb, ne_eqb, and_from, or_from, cases_eq, or_right, or_left, cond-true, cond-false, le-ltb}
use Rattle.std.proofs.lemmas.Bool.Decides.{nat_tests}
use Rattle.cpm_geom.specs.declared.dpb.Dpb.{Dpb}
use Rattle.cpm_volume.specs.declared.extent.Extent.{Extent}
use Rattle.cpm_volume.specs.Files.{extent_number, record_count_of, open_record_count}
use Rattle.cpm_volume.specs.Operations.{merged, agree, has_bad_block}

-- where each number of the second is the first's too, the maps agree and the first has all
pub agree_covering : (xs ys : List ℕ) → ((s : ℕ) → get_or ys s 0 ≢ 0 → get_or xs s 0 ≡ get_or ys s 0) → agree xs ys ≡ true
unfolding agree
agree_covering [] ys h = refl
agree_covering (x ∷ xs) [] h = refl
agree_covering (x ∷ xs) (y ∷ ys) h =
    and_from _ _ (elim (cases_eq y 0) [
      | inl z ↦ or_right _ _ (or_left _ _ (eq-eqb _ _ z))
      | inr n ↦ or_right _ _ (or_right _ _ (eq-eqb _ _ (h 0 n)))
    ]) (agree_covering xs ys (λ s. h (suc s)))

pub merged_covering : (xs ys : List ℕ) → ((s : ℕ) → get_or ys s 0 ≢ 0 → get_or xs s 0 ≡ get_or ys s 0) → merged xs ys ≡ xs
unfolding merged
merged_covering [] ys h = refl
merged_covering (x ∷ xs) [] h = refl
merged_covering (x ∷ xs) (y ∷ ys) h =
    let head : cond (eqb x 0) y x ≡ x = elim (cases_eq x 0) [
      | inl z ↦ elim (cases_eq y 0) [ inl w ↦ cond-true _ _ _ (eq-eqb _ _ z) ∙ (w ∙ sym z) | inr n ↦ absurd (n (sym (h 0 n) ∙ z)) ]
      | inr n ↦ cond-false _ _ _ (ne_eqb _ _ n)
    ] in
    rw (head, merged_covering xs ys (λ s. h (suc s))) refl

pub no_bad_block : (d : Dpb) (xs : List ℕ) → ((s : ℕ) → get_or xs s 0 ≤ d.last_block) → has_bad_block d xs ≡ false
unfolding has_bad_block
no_bad_block d [] h = refl
no_bad_block d (x ∷ xs) h = or_from _ _ (le-ltb _ _ (h 0)) (no_bad_block d xs (λ s. h (suc s)))

-- the count by the file control block is that of the entry it is closed into
pub open_count_newer : (number : ℕ) (x stored : Extent) → extent_number stored ≤ extent_number x → open_record_count number x stored ≡ record_count_of number (extent_number x) x.record_count
unfolding open_record_count record_count_of
open_count_newer number x stored h = grind (arith, nat_tests)

pub open_count_older : (number : ℕ) (x stored : Extent) → extent_number x < extent_number stored → x.record_count ≡ 128 → open_record_count number x stored ≡ record_count_of number (extent_number stored) stored.record_count
unfolding open_record_count record_count_of
open_count_older number x stored h full = grind (arith, nat_tests)
