-- What a record that is written leaves.
use Rattle.std.proofs.Common.{◌≡◌, ◌≢◌, ℕ, max, ◌/◌, ◌%◌, ◌+◌, ◌<◌, ◌≤◌, Bool, true, List, [], Some, length, set, sym, refl, ap, ◌∙◌, inl, inr, arith}
use Rattle.std.proofs.lemmas.List.{get_or-set_same, get_or-set_other, get_or_past}
use Rattle.std.proofs.lemmas.Bool.{eq-eqb, ne_eqb, cases_eq, cases_lt, cond-true, cond-false, lt-ltb, le-ltb}
use Rattle.std.proofs.lemmas.Bool.Decides.{nat_tests}
use Rattle.cpm_geom.specs.declared.dpb.Dpb.{Dpb}
use Rattle.cpm_volume.specs.declared.extent.Extent.{Extent}
use Rattle.cpm_volume.specs.declared.extent.Entry.{Entry}
use Rattle.cpm_volume.specs.Files.{extent_number, group_of, map_place, same_name, deleted, no_entry, entry_at, InUse, is_of, first_of, open_record_count, block_number, block_if, entry_block, file_block, open_block, open_file_block, IsFileBlock, IsWellFormed, IsFcbKept, IsFormat, directory_records, drive_record, record_in, file_record, open_file_record}
use Rattle.cpm_volume.specs.Operations.{counting}
use Rattle.cpm_volume.proofs.Entries.{is_of_parts, first_of_passes}
use Rattle.cpm_volume.proofs.NameLemmas.{same_name-trans}
use Rattle.cpm_volume.proofs.Making.{no_entry_block}
use Rattle.cpm_volume.proofs.Places.{same_record, same_drive_record}

count_grows : (number n k : ℕ) (x y stored : Extent) → extent_number y ≡ extent_number x → y.record_count ≡ max x.record_count (n % 128 + 1) → k < open_record_count number x stored → k < open_record_count number y stored
unfolding open_record_count
count_grows number n k x y stored a b h = grind (arith, nat_tests)

count_has : (number n : ℕ) (x y stored : Extent) → extent_number y ≡ extent_number x → y.record_count ≡ max x.record_count (n % 128 + 1) → number ≡ extent_number x → n % 128 < open_record_count number y stored
unfolding open_record_count
count_has number n x y stored a b h = grind (arith, nat_tests)

pub block_if_in : (count k place : ℕ) (x : Extent) → k < count → block_if count k x place ≡ block_number x place
unfolding block_if
block_if_in count k place x h = cond-true _ _ _ (lt-ltb _ _ h)

pub block_if_below : (count k place : ℕ) (x : Extent) → block_if count k x place ≢ 0 → k < count
unfolding block_if
block_if_below count k place x h =
    elim (cases_lt k count) [ inl lt ↦ lt | inr ge ↦ absurd (h (cond-false _ _ _ (le-ltb _ _ ge))) ]

-- a record of a file in the directory is a number of one of its entries
pub file_entry : (d : Dpb) (es : List Entry) (v : ℕ) (name : List ℕ) (m : ℕ) → v ≢ deleted → file_block d es v name m ≢ 0 → (j : ℕ) × InUse es j × (is_of d v name (group_of d (m / 128)) (entry_at es j) ≡ true) × (file_block d es v name m ≡ block_number (entry_at es j).extent (map_place d m))
unfolding file_block entry_block entry_at
file_entry d es v name m ok h =
    let j = first_of d es v name (group_of d (m / 128)) in
    elim (cases_lt (first_of d es v name (group_of d (m / 128))) (length es)) [
      | inl lt ↦
          let passes = first_of_passes d es v name (group_of d (m / 128)) lt in
          let below = block_if_below _ _ _ _ h in
          (j, record { used = λ e. ok (sym (is_of_parts d v name _ _ passes).0 ∙ e) }, passes, block_if_in _ _ _ _ below)
      | inr ge ↦ absurd (h (rw (get_or_past es (first_of d es v name (group_of d (m / 128))) no_entry ge) (no_entry_block d m)))
    ]

open_in_group : (d : Dpb) (es : List Entry) (user : ℕ) (x : Extent) (m : ℕ) → group_of d (m / 128) ≡ group_of d (extent_number x) → open_file_block d es user x m ≡ block_if (open_record_count (m / 128) x (entry_at es (first_of d es user x.name (group_of d (m / 128)))).extent) (m % 128) x (map_place d m)
unfolding open_file_block open_block
open_in_group d es user x m g = rw (eq-eqb _ _ g) refl

open_elsewhere : (d : Dpb) (es : List Entry) (user : ℕ) (x : Extent) (m : ℕ) → group_of d (m / 128) ≢ group_of d (extent_number x) → open_file_block d es user x m ≡ file_block d es user x.name m
unfolding open_file_block
open_elsewhere d es user x m g = rw (ne_eqb _ _ g) refl

-- a record of an open file is in a block that is stored
pub open_stored : (d : Dpb) (es : List Entry) (reserved : List Bool) (user : ℕ) (x : Extent) → user ≢ deleted → IsWellFormed d es reserved → IsFcbKept d es reserved user x → (m : ℕ) → open_file_block d es user x m ≢ 0 → IsFileBlock d reserved (open_file_block d es user x m)
open_stored d es reserved user x ok wf kept m h =
    elim (cases_eq (group_of d (m / 128)) (group_of d (extent_number x))) [
      | inl g ↦
          let e = open_in_group d es user x m g in
          let below = block_if_below _ _ _ _ (λ z. h (e ∙ z)) in
          let number = e ∙ block_if_in _ _ _ _ below in
          rw number (kept.stored (map_place d m) (λ z. h (number ∙ z)))
      | inr g ↦
          let e = open_elsewhere d es user x m g in
          let entry = file_entry d es user x.name m ok (λ z. h (e ∙ z)) in
          let number = e ∙ entry.3 in
          rw number (wf.stored entry.0 (map_place d m) entry.1 (λ z. h (number ∙ z)))
    ]

module _ (d : Dpb) (es : List Entry) (reserved : List Bool) (user : ℕ) (x : Extent) (n : ℕ) (user_ok : user ≢ deleted) (format : IsFormat d) (wf : IsWellFormed d es reserved) (kept : IsFcbKept d es reserved user x) (inside : n / 128 ≡ extent_number x) (there : block_number x (map_place d n) ≢ 0) where
  pub written_kept : IsFcbKept d es reserved user (counting x (n % 128))
  unfolding counting extent_number block_number
  written_kept = record {
    index = kept.index;
    plain = kept.plain;
    owner = kept.owner;
    full = λ h. let was = kept.full h in grind (arith, nat_tests);
    once = kept.once;
    stored = kept.stored;
    apart = kept.apart;
    agrees = kept.agrees;
  }

  pub counting_blocks : (s : ℕ) → block_number (counting x (n % 128)) s ≡ block_number x s
  unfolding counting block_number
  counting_blocks s = refl

  pub counting_number : extent_number (counting x (n % 128)) ≡ extent_number x
  unfolding counting extent_number
  counting_number = refl

  counting_count : (counting x (n % 128)).record_count ≡ max x.record_count (n % 128 + 1)
  unfolding counting
  counting_count = refl

  stored_entry : ℕ → Extent
  stored_entry m = (entry_at es (first_of d es user x.name (group_of d (m / 128)))).extent

  in_group : (m : ℕ) → group_of d (m / 128) ≡ group_of d (extent_number x) → open_file_block d es user (counting x (n % 128)) m ≡ block_if (open_record_count (m / 128) (counting x (n % 128)) (stored_entry m)) (m % 128) (counting x (n % 128)) (map_place d m)
  unfolding open_file_block open_block counting extent_number stored_entry
  in_group m g = rw (eq-eqb _ _ g) refl

  was_in_group : (m : ℕ) → group_of d (m / 128) ≡ group_of d (extent_number x) → open_file_block d es user x m ≡ block_if (open_record_count (m / 128) x (stored_entry m)) (m % 128) x (map_place d m)
  unfolding open_file_block open_block stored_entry
  was_in_group m g = rw (eq-eqb _ _ g) refl

  elsewhere : (m : ℕ) → group_of d (m / 128) ≢ group_of d (extent_number x) → open_file_block d es user (counting x (n % 128)) m ≡ open_file_block d es user x m
  unfolding open_file_block counting extent_number
  elsewhere m g = rw (ne_eqb _ _ g) refl

  -- the record itself is there
  pub written_block : open_file_block d es user (counting x (n % 128)) n ≡ block_number x (map_place d n)
  written_block =
      in_group n (ap (group_of d) inside) ∙ (block_if_in _ _ _ _ (count_has (n / 128) n x (counting x (n % 128)) (stored_entry n) counting_number counting_count inside) ∙ counting_blocks _)

  -- the other records stay
  pub other_blocks : (m : ℕ) → open_file_block d es user x m ≢ 0 → open_file_block d es user (counting x (n % 128)) m ≡ open_file_block d es user x m
  other_blocks m h =
      elim (cases_eq (group_of d (m / 128)) (group_of d (extent_number x))) [
        | inl g ↦
            let below = block_if_below _ _ _ _ (λ z. h (was_in_group m g ∙ z)) in
            in_group m g ∙ (block_if_in _ _ _ _ (count_grows (m / 128) n (m % 128) x (counting x (n % 128)) (stored_entry m) counting_number counting_count below) ∙ (counting_blocks _ ∙ (sym (block_if_in _ _ _ _ below) ∙ sym (was_in_group m g))))
        | inr g ↦ elsewhere m g
      ]

  own_parts : ((entry_at es kept.index).user ≡ user) × (same_name x.name (entry_at es kept.index).extent.name ≡ true) × (group_of d (extent_number (entry_at es kept.index).extent) ≡ group_of d (extent_number x))
  own_parts = is_of_parts d user x.name _ _ kept.owner

  by_directory : (m : ℕ) → group_of d (m / 128) ≢ group_of d (extent_number x) → open_file_block d es user x m ≡ file_block d es user x.name m
  unfolding open_file_block
  by_directory m g = rw (ne_eqb _ _ g) refl

  -- the extent's records lie at different places of the drive
  pub distinct : (m : ℕ) → open_file_block d es user x m ≢ 0 → m ≢ n → drive_record d (open_file_block d es user x m) m ≢ drive_record d (block_number x (map_place d n)) n
  distinct m h other e =
      let same = same_drive_record d _ _ m n e in
      elim (cases_eq (group_of d (m / 128)) (group_of d (extent_number x))) [
        | inl g ↦
            let below = block_if_below _ _ _ _ (λ z. h (was_in_group m g ∙ z)) in
            let number = was_in_group m g ∙ block_if_in _ _ _ _ below in
            let places = kept.once (map_place d m) (map_place d n) (λ z. h (number ∙ z)) (sym number ∙ same.0) in
            other (same_record d m n format (g ∙ ap (group_of d) (sym inside)) places same.1)
        | inr g ↦
            let f : open_file_block d es user x m ≡ file_block d es user x.name m = by_directory m g in
            let entry = file_entry d es user x.name m user_ok (λ z. h (f ∙ z)) in
            kept.apart entry.0 (map_place d n) (map_place d m) entry.1 (λ i. g (sym (is_of_parts d user x.name _ _ entry.2).2 ∙ rw i own_parts.2)) there (sym same.0 ∙ (f ∙ entry.3))
      ]

  -- and not where another file's are
  pub others_distinct : (v : ℕ) (name : List ℕ) (m : ℕ) → v ≢ deleted → (v ≡ user → same_name name x.name ≡ true → ⊥) → file_block d es v name m ≢ 0 → drive_record d (file_block d es v name m) m ≢ drive_record d (block_number x (map_place d n)) n
  others_distinct v name m ok other h e =
      let same = same_drive_record d _ _ m n e in
      let entry = file_entry d es v name m ok h in
      let parts = is_of_parts d v name _ _ entry.2 in
      kept.apart entry.0 (map_place d n) (map_place d m) entry.1 (λ i. other (sym parts.0 ∙ rw i own_parts.0) (same_name-trans _ _ _ (rw i at parts.1) own_parts.1)) there (sym same.0 ∙ entry.3)

  -- nor in the directory
  pub outside_directory : directory_records d ≤ drive_record d (block_number x (map_place d n)) n
  unfolding drive_record
  outside_directory = let h = (kept.stored (map_place d n) there).outside in omega arith

  -- ---- with the record's bytes on the drive
  pub written_record : (records : List (List ℕ)) (bytes : List ℕ) → drive_record d (block_number x (map_place d n)) n < length records → open_file_record d es (set records (drive_record d (block_number x (map_place d n)) n) bytes) user (counting x (n % 128)) n ≡ Some bytes
  unfolding open_file_record record_in
  written_record records bytes h =
      rw (written_block, ne_eqb _ _ there) (ap Some (get_or-set_same records _ bytes [] h))

  pub other_records : (records : List (List ℕ)) (bytes : List ℕ) (m : ℕ) → m ≢ n → open_file_block d es user x m ≢ 0 → open_file_record d es (set records (drive_record d (block_number x (map_place d n)) n) bytes) user (counting x (n % 128)) m ≡ open_file_record d es records user x m
  unfolding open_file_record record_in
  other_records records bytes m other h =
      rw (other_blocks m h, ne_eqb _ _ h) (ap Some (get_or-set_other records _ _ bytes [] (distinct m h other)))

  pub other_files : (records : List (List ℕ)) (bytes : List ℕ) (v : ℕ) (name : List ℕ) (m : ℕ) → v ≢ deleted → (v ≡ user → same_name name x.name ≡ true → ⊥) → file_record d es (set records (drive_record d (block_number x (map_place d n)) n) bytes) v name m ≡ file_record d es records v name m
  unfolding file_record record_in
  other_files records bytes v name m ok other =
      elim (cases_eq (file_block d es v name m) 0) [
        | inl z ↦ rw z refl
        | inr h ↦ rw (ne_eqb _ _ h) (ap Some (get_or-set_other records _ _ bytes [] (others_distinct v name m ok other h)))
      ]
