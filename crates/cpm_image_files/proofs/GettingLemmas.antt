-- The records of a file, by the entries of its groups.
use Rattle.std.proofs.Common.{◌≡◌, ◌≢◌, ℕ, ◌+◌, ◌-◌, ◌*◌, ◌/◌, ◌%◌, ◌<◌, ◌≤◌, true, false, List, [], ◌++◌, Option, Some, None, length, replicate, take, drop, get_or, sym, subst, refl, ap, ◌∙◌, inl, inr, arith}
use Rattle.std.specs.Prelude.{IfSome}
use Rattle.std.proofs.lemmas.List.{get_or_past, length-append, length-drop, drop_at, take_all, drop-append-le, take-append-le}
use Rattle.std.proofs.lemmas.List.Sums.{position_or_len_is}
use Rattle.std.proofs.lemmas.Bool.{lt-ltb, le-ltb, eq-eqb, ne_eqb, cases_lt, cases_eq}
use Rattle.cpm_geom.specs.declared.dpb.Dpb.{Dpb}
use Rattle.cpm_geom.specs.declared.format.Format.{Format}
use Rattle.cpm_geom.specs.declared.format.Format.TheVariants.{Ibm3740, Large}
use Rattle.cpm_geom.specs.Geometry.{dpb_of}
use Rattle.cpm_geom.specs.Disk.{Disk, records_of}
use Rattle.cpm_volume.specs.declared.extent.Entry.{Entry}
use Rattle.cpm_volume.specs.Files.{deleted, extent_number, group_of, no_entry, entry_at, InUse, block_number, is_of, first_of, record_count_of, map_place, block_if, entry_block, file_block, drive_record, record_in, file_record}
use Rattle.cpm_volume.proofs.Entries.{is_of_parts, first_of_passes}
use Rattle.cpm_directory.specs.Directory.{entries_of}
use Rattle.cpm_directory.proofs.CheckedLemmas.{checked}
use Rattle.cpm_image_files.specs.ImageFiles.{record_on, IsSoundDisk}
use Rattle.cpm_image_files.specs.Taken.{taken_record}
use Rattle.cpm_image_files.specs.Reach.{first_for, IsEntryOf, block_by, IsOnDrive}

-- ---- numbers

pub entry_records : (f : Format) → 128 * ((dpb_of f).extent_mask + 1) ≤ 256
unfolding dpb_of
entry_records Ibm3740 = omega arith
entry_records Large = omega arith

pub same_group : (f : Format) (n : ℕ) → n % (128 * ((dpb_of f).extent_mask + 1)) ≢ 0 → group_of (dpb_of f) ((n - 1) / 128) ≡ group_of (dpb_of f) (n / 128)
unfolding dpb_of group_of
same_group Ibm3740 n h = omega arith
same_group Large n h = omega arith

pub not_first : (f : Format) (n : ℕ) → n % (128 * ((dpb_of f).extent_mask + 1)) ≢ 0 → 0 < n
not_first f n h = elim (cases_eq n 0) [ inl z ↦ absurd (h (rw z (omega arith))) | inr some ↦ omega arith ]

-- ---- the block of a record

pub block_counted : (d : Dpb) (e : Entry) (n count : ℕ) → count ≡ record_count_of (n / 128) (extent_number e.extent) e.extent.record_count → n % 128 < count → get_or e.extent.blocks (map_place d n) 0 ≡ entry_block d e n
unfolding entry_block block_if block_number
block_counted d e n count is below = rw (sym is, lt-ltb _ _ below) refl

pub block_past : (d : Dpb) (e : Entry) (n count : ℕ) → count ≡ record_count_of (n / 128) (extent_number e.extent) e.extent.record_count → count ≤ n % 128 → 0 ≡ entry_block d e n
unfolding entry_block block_if
block_past d e n count is past = rw (sym is, le-ltb _ _ past) refl

pub on_drive : (d : Dpb) (e : Entry) (n : ℕ) → IsOnDrive d e → entry_block d e n ≤ d.last_block
unfolding entry_block block_if
on_drive d e n within =
    elim (cases_lt (n % 128) (record_count_of (n / 128) (extent_number e.extent) e.extent.record_count)) [
      | inl lt ↦ rw (lt-ltb _ _ lt) (within (map_place d n))
      | inr ge ↦ rw (le-ltb _ _ ge) (omega arith)
    ]

pub taken_some : (d : Dpb) (records : List (List ℕ)) (b n : ℕ) → b ≢ 0 → get_or records (drive_record d b n) [] ≡ taken_record (record_in d records b n)
unfolding record_in
taken_some d records b n some = rw (ne_eqb _ _ some) refl

pub taken_none : (d : Dpb) (records : List (List ℕ)) (b n : ℕ) → b ≡ 0 → replicate 128 0 ≡ taken_record (record_in d records b n)
unfolding record_in
taken_none d records b n none = rw (eq-eqb _ _ none) refl

-- ---- the entry of a record

pub first_is : (d : Dpb) (es : List Entry) (user : ℕ) (name : List ℕ) (group i : ℕ) → i ≤ length es → ((k : ℕ) → k < i → is_of d user name group (entry_at es k) ≡ false) → (i < length es → is_of d user name group (entry_at es i) ≡ true) → first_of d es user name group ≡ i
unfolding first_of entry_at
first_is d es user name group i within before here = position_or_len_is (is_of d user name group) es i no_entry within before here

pub same_entry : (disk : Disk) (user : ℕ) (name : List ℕ) (n : ℕ) (entry : Option Entry) → n % (128 * ((dpb_of disk.format).extent_mask + 1)) ≢ 0 → (0 < n → IsEntryOf disk user name (n - 1) entry) → IsEntryOf disk user name n entry
same_entry disk user name n None h known =
    subst (λ (g : ℕ). length (entries_of disk) ≤ first_of (dpb_of disk.format) (entries_of disk) user name g) (same_group disk.format n h) (known (not_first disk.format n h))
same_entry disk user name n (Some e) h known =
    subst (λ (g : ℕ). (e ≡ entry_at (entries_of disk) (first_of (dpb_of disk.format) (entries_of disk) user name g)) × (first_of (dpb_of disk.format) (entries_of disk) user name g < length (entries_of disk))) (same_group disk.format n h) (known (not_first disk.format n h))

no_entry_block : (d : Dpb) (n : ℕ) → entry_block d no_entry n ≡ 0
unfolding entry_block block_if block_number no_entry
no_entry_block d n =
    elim (cases_lt (n % 128) (record_count_of (n / 128) (extent_number no_entry.extent) 0)) [
      | inl lt ↦ rw (lt-ltb _ _ lt) refl
      | inr ge ↦ rw (le-ltb _ _ ge) refl
    ]

-- the block by the entry is the file's
pub block_is : (disk : Disk) (user : ℕ) (name : List ℕ) (n : ℕ) (entry : Option Entry) → IsEntryOf disk user name n entry → block_by (dpb_of disk.format) entry n ≡ file_block (dpb_of disk.format) (entries_of disk) user name n
unfolding file_block entry_at
block_is disk user name n None past = rw (get_or_past (entries_of disk) (first_for disk user name n) no_entry past) (sym (no_entry_block (dpb_of disk.format) n))
block_is disk user name n (Some e) is = ap (λ (e : Entry). entry_block (dpb_of disk.format) e n) is.0

pub record_is : (disk : Disk) (user : ℕ) (name : List ℕ) (n : ℕ) (entry : Option Entry) → IsEntryOf disk user name n entry → record_in (dpb_of disk.format) (records_of disk) (block_by (dpb_of disk.format) entry n) n ≡ record_on disk user name n
unfolding file_record
record_is disk user name n entry is = ap (λ b. record_in (dpb_of disk.format) (records_of disk) b n) (block_is disk user name n entry is)

-- the numbers in an entry of a sound disk are of the drive's blocks
pub entry_on_drive : (disk : Disk) (i : ℕ) → IsSoundDisk disk → InUse (entries_of disk) i → IsOnDrive (dpb_of disk.format) (entry_at (entries_of disk) i)
entry_on_drive disk i sound used place =
    elim (cases_eq (block_number (entry_at (entries_of disk) i).extent place) 0) [
      | inl none ↦ rw none (omega arith)
      | inr some ↦ (((checked disk).0 sound).stored i place used some).within
    ]

pub known_on_drive : (disk : Disk) (user : ℕ) (name : List ℕ) (n : ℕ) (entry : Option Entry) → user ≢ deleted → IsSoundDisk disk → IsEntryOf disk user name n entry → IfSome entry (λ e. IsOnDrive (dpb_of disk.format) e)
known_on_drive disk user name n None live sound is = tt
known_on_drive disk user name n (Some e) live sound is =
    let passes = first_of_passes (dpb_of disk.format) (entries_of disk) user name (group_of (dpb_of disk.format) (n / 128)) is.1 in
    let owner = is_of_parts (dpb_of disk.format) user name (group_of (dpb_of disk.format) (n / 128)) (entry_at (entries_of disk) (first_for disk user name n)) passes in
    subst (λ (x : Entry). IsOnDrive (dpb_of disk.format) x) (sym is.0) (entry_on_drive disk (first_for disk user name n) sound (record { used = λ z. live (sym owner.0 ∙ z) }))

-- ---- records behind one another

pub more_records : (record_at : ℕ → List ℕ) (bytes bytes' one : List ℕ) (n : ℕ) → length bytes ≡ 128 * n → ((m : ℕ) → m < n → take 128 (drop (128 * m) bytes) ≡ record_at m) → bytes' ≡ bytes ++ one → length one ≡ 128 → one ≡ record_at n → (length bytes' ≡ 128 * (n + 1)) × ((m : ℕ) → m < n + 1 → take 128 (drop (128 * m) bytes') ≡ record_at m)
more_records record_at bytes bytes' one n size each is whole here = (
  ap length is ∙ (length-append bytes one ∙ omega arith),
  λ m below. elim (cases_eq m n) [
    | inl e ↦
        let start : length bytes ≡ 128 * m = size ∙ ap (λ k. 128 * k) (sym e) in
        rw is (ap (take 128) (drop_at bytes one (128 * m) start) ∙ (take_all 128 one (omega arith) ∙ (here ∙ ap record_at (sym e))))
    | inr other ↦
        let before : m < n = omega arith in
        let front : 128 * m ≤ length bytes = omega arith in
        let rest : 128 ≤ length (drop (128 * m) bytes) = rw (length-drop (128 * m) bytes) (omega arith) in
        rw is (ap (take 128) (drop-append-le (128 * m) bytes one front) ∙ (take-append-le 128 (drop (128 * m) bytes) one rest ∙ each m before))
  ],
)
