-- Two maps, place by place.
use Rattle.std.proofs.Common.{◌≡◌, ℕ, zero, suc, ◌<◌, Bool, ◌&&◌, ◌||◌, cond, eqb, ltb, List, [], ◌∷◌, length, get_or, sym, refl, ap, ◌∙◌, arith}
use Rattle.std.specs.List.{list_all, list_any, zip}
use Rattle.std.proofs.lemmas.Grind.{same_number_lists}
use Rattle.cpm_geom.specs.declared.dpb.Dpb.{Dpb}
use Rattle.cpm_volume.specs.Operations.{merged, agree, has_bad_block, same_numbers}
use Rattle.cpm_drive.specs.Judged.{agreeing}

pub agree_zip : (xs ys : List ℕ) → list_all agreeing (zip xs ys) ≡ agree xs ys
unfolding agree
agree_zip [] ys = refl
agree_zip (x ∷ xs) [] = refl
agree_zip (x ∷ xs) (y ∷ ys) = ap (λ (t : Bool). agreeing (x, y) && t) (agree_zip xs ys)

pub same_zip : (xs ys : List ℕ) → length xs ≡ length ys → list_all (λ (p : ℕ × ℕ). eqb p.0 p.1) (zip xs ys) ≡ same_numbers xs ys
unfolding same_numbers
same_zip [] [] h = refl
same_zip [] (y ∷ ys) h = absurd (omega arith)
same_zip (x ∷ xs) [] h = absurd (omega arith)
same_zip (x ∷ xs) (y ∷ ys) h = ap (λ (t : Bool). eqb x y && t) (same_zip xs ys (omega arith))

pub bad_any : (d : Dpb) (xs : List ℕ) → list_any (λ b. ltb d.last_block b) xs ≡ has_bad_block d xs
unfolding has_bad_block
bad_any d [] = refl
bad_any d (x ∷ xs) = ap (λ (t : Bool). ltb d.last_block x || t) (bad_any d xs)

merged_length : (xs ys : List ℕ) → length xs ≡ length ys → length (merged xs ys) ≡ length xs
unfolding merged
merged_length [] [] h = refl
merged_length [] (y ∷ ys) h = absurd (omega arith)
merged_length (x ∷ xs) [] h = absurd (omega arith)
merged_length (x ∷ xs) (y ∷ ys) h = ap suc (merged_length xs ys (omega arith))

merged_at : (xs ys : List ℕ) (k : ℕ) → length xs ≡ length ys → get_or (merged xs ys) k 0 ≡ cond (eqb (get_or xs k 0) 0) (get_or ys k 0) (get_or xs k 0)
unfolding merged
merged_at [] [] k h = refl
merged_at [] (y ∷ ys) k h = absurd (omega arith)
merged_at (x ∷ xs) [] k h = absurd (omega arith)
merged_at (x ∷ xs) (y ∷ ys) zero h = refl
merged_at (x ∷ xs) (y ∷ ys) (suc k) h = merged_at xs ys k (omega arith)

pub merged_is : (xs ys zs : List ℕ) → length xs ≡ length ys → length zs ≡ length xs → ((k : ℕ) → k < length xs → get_or zs k 0 ≡ cond (eqb (get_or xs k 0) 0) (get_or ys k 0) (get_or xs k 0)) → zs ≡ merged xs ys
merged_is xs ys zs h l at =
    same_number_lists zs (merged xs ys) (l ∙ sym (merged_length xs ys h)) (λ k below. at k (omega arith) ∙ sym (merged_at xs ys k h))
