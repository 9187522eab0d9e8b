-- Which entries the fault of a directory is told of: they are the directory's.
use Rattle.std.proofs.Common.{◌≡◌, ◌≢◌, ◌∙◌, ℕ, ◌<◌, ◌≤◌, Bool, true, false, cond, eqb, ltb, List, Option, Some, None, length, sym, refl, subst, inl, inr, arith}
use Rattle.std.specs.Prelude.{option_map, Err}
use Rattle.std.specs.List.{find, position, position_or_len, range_with_len}
use Rattle.std.specs.Option.{option_or}
use Rattle.std.proofs.lemmas.List.Folds.{list_any_at}
use Rattle.std.proofs.lemmas.List.FromFn.{length-range_with_len}
use Rattle.std.proofs.lemmas.List.Sums.{fails_before_first}
use Rattle.std.proofs.lemmas.Option.{none-some}
use Rattle.std.proofs.lemmas.Bool.{false≢true, cases_lt, ltb-true, eqb-false, ne_eqb, eq-eqb}
use Rattle.cpm_geom.specs.declared.dpb.Dpb.{Dpb}
use Rattle.cpm_geom.specs.Disk.{Disk}
use Rattle.cpm_geom.specs.Geometry.{dpb_of}
use Rattle.cpm_volume.specs.declared.extent.Entry.{Entry}
use Rattle.cpm_volume.specs.Files.{no_entry, deleted, entry_at, block_number, extent_number, first_of, group_of}
use Rattle.cpm_volume.proofs.Entries.{in_use_within}
use Rattle.cpm_directory.specs.Directory.{entries_of}
use Rattle.cpm_directory.specs.Login.{has_block}
use Rattle.cpm_directory.specs.WellFormed.{IsChecked, bad_block_in, fault_of, is_bad_block, owner_of, stands_before, twice_block_in, twice_entry_in}
use Rattle.cpm_directory.specs.declared.fault.DriveFault.{DriveFault}
use Rattle.cpm_directory.specs.declared.fault.DriveFault.TheVariants.{BadBlock, TwiceBlock, TwiceEntry}
use Rattle.cpm_directory.proofs.DriveLemmas.{entries_length}
use Rattle.cpm_disk_commands.specs.Damage.{fault_entry, other_of}

-- a fault is told of this entry, and of it or an earlier one
pub record IsToldOf (i : ℕ) (fault : DriveFault) : Type 0 where
  pub entry : fault_entry fault ≡ i
  pub other : other_of fault ≤ i

-- ---- a bad number

bad_told : (d : Dpb) (es : List Entry) (i : ℕ) (fault : DriveFault) → bad_block_in d es i ≡ Some fault → IsToldOf i fault
unfolding bad_block_in
bad_told d es i fault h = go (find (is_bad_block d) (entry_at es i).extent.blocks) h
  where
    go : (o : Option ℕ) → option_map (λ b. BadBlock i b) o ≡ Some fault → IsToldOf i fault
    go None e = absurd (none-some fault e)
    go (Some b) e = let same : BadBlock i b ≡ fault = cc in subst (IsToldOf i) same (record { entry = refl; other = omega arith })

-- ---- a block that stands before

position_within : {X : Type 0} (p : X → Bool) (xs : List X) (s : ℕ) → position p xs ≡ Some s → s < length xs
position_within p xs s h = go (ltb (position_or_len p xs) (length xs)) refl h
  where
    go : (b : Bool) → ltb (position_or_len p xs) (length xs) ≡ b → cond b (Some (position_or_len p xs)) None ≡ Some s → s < length xs
    go true low e = let same : position_or_len p xs ≡ s = cc in let less = ltb-true _ _ low in omega (arith, same, less)
    go false low e = absurd (none-some s e)

has_at : (es : List Entry) (i s : ℕ) → (entry_at es i).user ≢ deleted → s < length (entry_at es i).extent.blocks → has_block (block_number (entry_at es i).extent s) (entry_at es i) ≡ true
unfolding has_block block_number
has_at es i s used within =
    rw (ne_eqb _ _ used) (list_any_at (λ number. eqb number (block_number (entry_at es i).extent s)) (entry_at es i).extent.blocks s 0 within (eq-eqb _ _ refl))

owner_below : (es : List Entry) (i b : ℕ) → has_block b (entry_at es i) ≡ true → owner_of es b ≤ i
unfolding owner_of entry_at
owner_below es i b has =
    elim (cases_lt i (position_or_len (has_block b) es)) [
      | inl lt ↦ absurd (false≢true (sym (fails_before_first (has_block b) es i no_entry lt) ∙ has))
      | inr ge ↦ ge
    ]

twice_told : (es : List Entry) (i : ℕ) (fault : DriveFault) → (entry_at es i).user ≢ deleted → twice_block_in es i ≡ Some fault → IsToldOf i fault
unfolding twice_block_in
twice_told es i fault used h = go (position (λ s. stands_before es i s) (range_with_len 0 (length (entry_at es i).extent.blocks))) refl h
  where
    number : ℕ → ℕ
    number s = block_number (entry_at es i).extent s

    go : (o : Option ℕ) → position (λ s. stands_before es i s) (range_with_len 0 (length (entry_at es i).extent.blocks)) ≡ o
        → option_map (λ s. TwiceBlock i (block_number (entry_at es i).extent s) (owner_of es (block_number (entry_at es i).extent s))) o ≡ Some fault → IsToldOf i fault
    go None at e = absurd (none-some fault e)
    go (Some s) at e =
        let same : TwiceBlock i (block_number (entry_at es i).extent s) (owner_of es (block_number (entry_at es i).extent s)) ≡ fault = cc in
        let within : s < length (range_with_len 0 (length (entry_at es i).extent.blocks)) = position_within (λ s. stands_before es i s) (range_with_len 0 (length (entry_at es i).extent.blocks)) s at in
        let short : s < length (entry_at es i).extent.blocks = rw (length-range_with_len 0 (length (entry_at es i).extent.blocks)) at within in
        subst (IsToldOf i) same (record { entry = refl; other = owner_below es i _ (has_at es i s used short) })

-- ---- an entry that stands twice

entry_told : (d : Dpb) (es : List Entry) (i : ℕ) (fault : DriveFault) → twice_entry_in d es i ≡ Some fault → IsToldOf i fault
unfolding twice_entry_in
entry_told d es i fault h = go (ltb earlier i) refl h
  where
    earlier : ℕ
    earlier = first_of d es (entry_at es i).user (entry_at es i).extent.name (group_of d (extent_number (entry_at es i).extent))

    go : (b : Bool) → ltb (first_of d es (entry_at es i).user (entry_at es i).extent.name (group_of d (extent_number (entry_at es i).extent))) i ≡ b
        → cond b (Some (TwiceEntry i (first_of d es (entry_at es i).user (entry_at es i).extent.name (group_of d (extent_number (entry_at es i).extent))))) None ≡ Some fault → IsToldOf i fault
    go true low e =
        let same : TwiceEntry i (first_of d es (entry_at es i).user (entry_at es i).extent.name (group_of d (extent_number (entry_at es i).extent))) ≡ fault = cc in
        let less = ltb-true _ _ low in
        subst (IsToldOf i) same (record { entry = refl; other = omega (arith, less) })
    go false low e = absurd (none-some fault e)

-- ---- the fault of an entry

first_told : (i : ℕ) (a b : Option DriveFault) (fault : DriveFault) → (a ≡ Some fault → IsToldOf i fault) → (b ≡ Some fault → IsToldOf i fault) → option_or a b ≡ Some fault → IsToldOf i fault
first_told i None b fault f g h = g h
first_told i (Some x) b fault f g h = f h

told : (d : Dpb) (es : List Entry) (i : ℕ) (fault : DriveFault) → fault_of d es i ≡ Some fault → (i < length es) × IsToldOf i fault
unfolding fault_of
told d es i fault h = go (eqb (entry_at es i).user deleted) refl h
  where
    go : (b : Bool) → eqb (entry_at es i).user deleted ≡ b → cond b None (option_or (bad_block_in d es i) (option_or (twice_block_in es i) (twice_entry_in d es i))) ≡ Some fault → (i < length es) × IsToldOf i fault
    go true is e = absurd (none-some fault e)
    go false is e =
        let used : (entry_at es i).user ≢ deleted = eqb-false _ _ is in (
          in_use_within es i used,
          first_told i _ _ fault (bad_told d es i fault) (first_told i _ _ fault (twice_told es i fault used) (entry_told d es i fault)) e,
        )

-- the entries that a fault is told of are the directory's
pub told_within : (disk : Disk) (fault : DriveFault) → IsChecked (dpb_of disk.format) (entries_of disk) (Err fault)
    → (fault_entry fault ≤ (dpb_of disk.format).last_entry) × (other_of fault ≤ (dpb_of disk.format).last_entry)
told_within disk fault h =
    let at = told (dpb_of disk.format) (entries_of disk) h.0 fault h.1 in
    let size = entries_length disk in
    (omega (arith, at.0, at.1.entry, size), omega (arith, at.0, at.1.other, size))
