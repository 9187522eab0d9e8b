-- A block that is filled with zeros.
use Rattle.std.proofs.Common.{◌≡◌, ◌≢◌, Bool, true, false, ℕ, zero, suc, ◌/◌, ◌%◌, ◌*◌, ◌+◌, ◌-◌, ◌<◌, ◌≤◌, List, [], length, get_or, replicate, sym, refl, ap, ◌∙◌, inl, inr, arith}
use Rattle.std.proofs.lemmas.List.{length-set, get_or-set_same, get_or-set_other}
use Rattle.std.proofs.lemmas.Bool.{cases_eq}
use Rattle.std.proofs.lemmas.Nat.{mod_below, div-mul-add}
use Rattle.cpm_geom.specs.declared.dpb.Dpb.{Dpb}
use Rattle.cpm_volume.specs.Files.{drive_record, block_offset, record_in}
use Rattle.cpm_volume.specs.Operations.{cleared_records, taken_records}

pub length-cleared : (start count : ℕ) (rs : List (List ℕ)) → length (cleared_records start count rs) ≡ length rs
unfolding cleared_records
length-cleared start zero rs = refl
length-cleared start (suc count) rs = length-set (cleared_records start count rs) _ _ ∙ length-cleared start count rs

pub cleared_outside : (start count j : ℕ) (rs : List (List ℕ)) → (start ≤ j → j < start + count → ⊥) → get_or (cleared_records start count rs) j [] ≡ get_or rs j []
unfolding cleared_records
cleared_outside start zero j rs h = refl
cleared_outside start (suc count) j rs h =
    get_or-set_other (cleared_records start count rs) (start + count) j (replicate 128 0) [] (λ e. h (omega arith) (omega arith)) ∙ cleared_outside start count j rs (λ a b. h a (omega arith))

pub cleared_inside : (start count j : ℕ) (rs : List (List ℕ)) → start ≤ j → j < start + count → start + count ≤ length rs → get_or (cleared_records start count rs) j [] ≡ replicate 128 0
unfolding cleared_records
cleared_inside start zero j rs a b h = absurd (omega arith)
cleared_inside start (suc count) j rs a b h =
    elim (cases_eq j (start + count)) [
      | inl e ↦ rw e (get_or-set_same (cleared_records start count rs) (start + count) (replicate 128 0) [] (let l = length-cleared start count rs in omega arith))
      | inr n ↦ get_or-set_other (cleared_records start count rs) (start + count) j (replicate 128 0) [] n ∙ cleared_inside start count j rs a (omega arith) (omega arith)
    ]

-- a record of another block is not among those of a block
pub other_block : (d : Dpb) (b c m : ℕ) → c ≢ b → b * (d.block_mask + 1) ≤ drive_record d c m → drive_record d c m < b * (d.block_mask + 1) + (d.block_mask + 1) → ⊥
unfolding drive_record block_offset
other_block d b c m other low high =
    let w = d.block_mask + 1 in
    let o : m % 128 % (d.block_mask + 1) < d.block_mask + 1 = mod_below _ _ (omega arith) in
    let q = div-mul-add c (d.block_mask + 1) (m % 128 % (d.block_mask + 1)) o in
    let r = div-mul-add b (d.block_mask + 1) (c * (d.block_mask + 1) + m % 128 % (d.block_mask + 1) - b * (d.block_mask + 1)) (omega arith) in
    let same : b * (d.block_mask + 1) + (c * (d.block_mask + 1) + m % 128 % (d.block_mask + 1) - b * (d.block_mask + 1)) ≡ c * (d.block_mask + 1) + m % 128 % (d.block_mask + 1) = omega arith in
    other (sym q ∙ (ap (λ s. s / (d.block_mask + 1)) (sym same) ∙ r))

-- other blocks' records keep their bytes
pub record_in_other : (d : Dpb) (rs : List (List ℕ)) (b c m : ℕ) → c ≢ b → record_in d (cleared_records (b * (d.block_mask + 1)) (d.block_mask + 1) rs) c m ≡ record_in d rs c m
unfolding record_in
record_in_other d rs b c m other =
    rw (cleared_outside (b * (d.block_mask + 1)) (d.block_mask + 1) (drive_record d c m) rs (other_block d b c m other)) refl

-- ---- a block that is taken, cleared or not
pub length-taken : (d : Dpb) (clears : Bool) (b : ℕ) (rs : List (List ℕ)) → length (taken_records d clears b rs) ≡ length rs
unfolding taken_records
length-taken d false b rs = refl
length-taken d true b rs = length-cleared (b * (d.block_mask + 1)) (d.block_mask + 1) rs

pub taken_other : (d : Dpb) (clears : Bool) (rs : List (List ℕ)) (b c m : ℕ) → c ≢ b → record_in d (taken_records d clears b rs) c m ≡ record_in d rs c m
unfolding taken_records
taken_other d false rs b c m other = refl
taken_other d true rs b c m other = record_in_other d rs b c m other
