-- The list of a disk's files, an entry on.
use Rattle.std.proofs.Common.{◌≡◌, ℕ, ◌+◌, ◌<◌, ◌≤◌, true, false, List, [], ◌∷◌, ◌++◌, length, sym, subst, refl, ap, ◌∙◌, inl, inr, arith}
use Rattle.std.specs.List.{list_any}
use Rattle.std.proofs.lemmas.List.{length_push, get_or_push, get_or_append_left}
use Rattle.std.proofs.lemmas.List.Folds.{list_any_at}
use Rattle.std.proofs.lemmas.List.Sums.{position_or_len_is}
use Rattle.std.proofs.lemmas.Bool.{false≢true, cases_eq, and_from, eq-eqb, false_from_ne_true}
use Rattle.cpm_geom.specs.Disk.{Disk}
use Rattle.cpm_volume.specs.declared.extent.Entry.{Entry}
use Rattle.cpm_volume.specs.Files.{deleted, same_name, no_entry, entry_at, InUse}
use Rattle.cpm_volume.proofs.Entries.{any_index, in_use_within}
use Rattle.cpm_volume.proofs.NameLemmas.{same_name-refl, same_name-trans}
use Rattle.cpm_directory.specs.Directory.{entries_of}
use Rattle.cpm_image_files.specs.declared.listing.DiskFile.{DiskFile}
use Rattle.cpm_image_files.specs.ImageFiles.{entry_on}
use Rattle.cpm_image_files.specs.Taken.{HasRecords}
use Rattle.cpm_image_files.specs.Reach.{is_of_file}
use Rattle.cpm_image_files.specs.Listing.{lists, listed_file_at, first_listed, IsListedFile, AreListed}
use Rattle.cpm_image_files.proofs.CountLemmas.{is_of_file_parts}

no_file : DiskFile
no_file = record { user = deleted; name = []; records = 0 }

is_of_file_from : (user : ℕ) (name : List ℕ) (e : Entry) → e.user ≡ user → same_name name e.extent.name ≡ true → is_of_file user name e ≡ true
unfolding is_of_file
is_of_file_from user name e a b = and_from _ _ (eq-eqb _ _ a) b

later : (index i : ℕ) → i < index → i < index + 1
later index i h = omega arith

first_listed_is : (disk : Disk) (file : DiskFile) (i : ℕ) → i ≤ length (entries_of disk) → ((k : ℕ) → k < i → lists (entry_on disk k) file ≡ false) → (i < length (entries_of disk) → lists (entry_on disk i) file ≡ true) → first_listed disk file ≡ i
unfolding entry_at
first_listed_is disk file i within fails passes = position_or_len_is (λ e. lists e file) (entries_of disk) i no_entry within fails passes

pub none_listed : (disk : Disk) → AreListed disk 0 []
none_listed disk = record {
  each = λ k h. absurd (omega arith);
  before = λ k h. absurd (omega arith);
  order = λ j k g h. absurd (omega arith);
  found = λ i h used. absurd (omega arith);
  once = λ e j k h g. absurd (omega arith);
}

-- an entry that is in no need of a file of its own
pub unused_entry : (disk : Disk) (index : ℕ) (files : List DiskFile) → AreListed disk index files → (entry_on disk index).user ≡ deleted → AreListed disk (index + 1) files
unused_entry disk index files so_far unused = record {
  each = so_far.each;
  before = λ k h. later index (first_listed disk (listed_file_at files k)) (so_far.before k h);
  order = so_far.order;
  found = λ i h used. elim (cases_eq i index) [
    | inl e ↦ absurd (used.used (ap (λ k. (entry_on disk k).user) e ∙ unused))
    | inr other ↦ so_far.found i (omega arith) used
  ];
  once = so_far.once;
}

pub listed_entry : (disk : Disk) (index : ℕ) (files : List DiskFile) → AreListed disk index files → list_any (lists (entry_on disk index)) files ≡ true → AreListed disk (index + 1) files
unfolding no_file
listed_entry disk index files so_far there = record {
  each = so_far.each;
  before = λ k h. later index (first_listed disk (listed_file_at files k)) (so_far.before k h);
  order = so_far.order;
  found = λ i h used. elim (cases_eq i index) [
    | inl e ↦ rw e (any_index (lists (entry_on disk index)) files no_file there)
    | inr other ↦ so_far.found i (omega arith) used
  ];
  once = so_far.once;
}

-- the file of an entry that none of the others is of
module _ (disk : Disk) (index : ℕ) (files : List DiskFile) (file : DiskFile) (so_far : AreListed disk index files) (used : InUse (entries_of disk) index) (apart : list_any (lists (entry_on disk index)) files ≡ false) (user_is : file.user ≡ (entry_on disk index).user) (name_is : file.name ≡ (entry_on disk index).extent.name) (records : HasRecords disk file.user file.name file.records) where
  size : length (files ++ file ∷ []) ≡ length files + 1
  size = length_push files file

  old_file : (k : ℕ) → k < length files → listed_file_at (files ++ file ∷ []) k ≡ listed_file_at files k
  old_file k h = get_or_append_left files (file ∷ []) (record { user = deleted; name = []; records = 0 }) k h

  last_file : (k : ℕ) → k ≡ length files → listed_file_at (files ++ file ∷ []) k ≡ file
  last_file k e = get_or_push files file (record { user = deleted; name = []; records = 0 }) k (sym e)

  own : lists (entry_on disk index) file ≡ true
  own =
      is_of_file_from file.user file.name (entry_on disk index) (sym user_is) (rw name_is (same_name-refl (entry_on disk index).extent.name))

  -- no entry is of the new file and of one before it
  not_both : (e : Entry) (k : ℕ) → k < length files → lists e file ≡ true → lists e (listed_file_at files k) ≡ true → ⊥
  unfolding no_file
  not_both e k h a b =
      let p = is_of_file_parts file.user file.name e a in
      let q = is_of_file_parts (listed_file_at files k).user (listed_file_at files k).name e b in
      let user : (entry_on disk index).user ≡ (listed_file_at files k).user = sym user_is ∙ (sym p.0 ∙ q.0) in
      let name : same_name (listed_file_at files k).name (entry_on disk index).extent.name ≡ true = rw (sym name_is) (same_name-trans (listed_file_at files k).name file.name e.extent.name q.1 p.1) in
      false≢true (sym apart ∙ list_any_at (lists (entry_on disk index)) files k no_file h (is_of_file_from (listed_file_at files k).user (listed_file_at files k).name (entry_on disk index) user name))

  -- no entry before is of the new file
  not_before : (k : ℕ) → k < index → lists (entry_on disk k) file ≡ false
  not_before k h =
      false_from_ne_true _ (λ t.
      let p = is_of_file_parts file.user file.name (entry_on disk k) t in
      let was = so_far.found k h (record { used = λ z. used.used (sym user_is ∙ (sym p.0 ∙ z)) }) in
      not_both (entry_on disk k) was.0 was.1 t was.2)

  first_is : first_listed disk file ≡ index
  first_is =
      let within = in_use_within (entries_of disk) index used.used in
      first_listed_is disk file index (omega arith) not_before (λ h. own)

  first_old : (k : ℕ) → k < length files → first_listed disk (listed_file_at (files ++ file ∷ []) k) ≡ first_listed disk (listed_file_at files k)
  first_old k h = ap (first_listed disk) (old_file k h)

  first_last : (k : ℕ) → k ≡ length files → first_listed disk (listed_file_at (files ++ file ∷ []) k) ≡ index
  first_last k e = ap (first_listed disk) (last_file k e) ∙ first_is

  listed_here : IsListedFile disk file
  listed_here = record {
    used = subst (λ i. InUse (entries_of disk) i) (sym first_is) used;
    user_is = subst (λ i. file.user ≡ (entry_on disk i).user) (sym first_is) user_is;
    name_is = subst (λ i. file.name ≡ (entry_on disk i).extent.name) (sym first_is) name_is;
    records = records;
  }

  new_each : (k : ℕ) → k < length (files ++ file ∷ []) → IsListedFile disk (listed_file_at (files ++ file ∷ []) k)
  new_each k h =
      let below : k < length files + 1 = rw (sym size) h in
      elim (cases_eq k (length files)) [
        | inl e ↦ rw (last_file k e) listed_here
        | inr other ↦ rw (old_file k (omega arith)) (so_far.each k (omega arith))
      ]

  new_before : (k : ℕ) → k < length (files ++ file ∷ []) → first_listed disk (listed_file_at (files ++ file ∷ []) k) < index + 1
  new_before k h =
      let below : k < length files + 1 = rw (sym size) h in
      elim (cases_eq k (length files)) [
        | inl e ↦ rw (first_last k e) (omega arith)
        | inr other ↦ rw (first_old k (omega arith)) (later index _ (so_far.before k (omega arith)))
      ]

  new_order : (j k : ℕ) → j < k → k < length (files ++ file ∷ []) → first_listed disk (listed_file_at (files ++ file ∷ []) j) < first_listed disk (listed_file_at (files ++ file ∷ []) k)
  new_order j k g h =
      let below : k < length files + 1 = rw (sym size) h in
      elim (cases_eq k (length files)) [
        | inl e ↦ rw (first_old j (omega arith), first_last k e) (so_far.before j (omega arith))
        | inr other ↦ rw (first_old j (omega arith), first_old k (omega arith)) (so_far.order j k g (omega arith))
      ]

  new_found : (i : ℕ) → i < index + 1 → InUse (entries_of disk) i → (k : ℕ) × (k < length (files ++ file ∷ [])) × (lists (entry_on disk i) (listed_file_at (files ++ file ∷ []) k) ≡ true)
  new_found i h is_used =
      elim (cases_eq i index) [
        | inl e ↦
            let here : lists (entry_on disk i) (listed_file_at (files ++ file ∷ []) (length files)) ≡ true = rw (e, last_file (length files) refl) own in
            (length files, rw size (omega arith), here)
        | inr other ↦
            let was = so_far.found i (omega arith) is_used in
            let here : lists (entry_on disk i) (listed_file_at (files ++ file ∷ []) was.0) ≡ true = rw (old_file was.0 was.1) was.2 in
            (was.0, rw size (omega (arith, was.1)), here)
      ]

  new_once : (e : Entry) (j k : ℕ) → j < length (files ++ file ∷ []) → k < length (files ++ file ∷ []) → lists e (listed_file_at (files ++ file ∷ []) j) ≡ true → lists e (listed_file_at (files ++ file ∷ []) k) ≡ true → j ≡ k
  new_once e j k h g a b =
      let below : j < length files + 1 = rw (sym size) h in
      let under : k < length files + 1 = rw (sym size) g in
      elim (cases_eq j (length files)) [
        | inl x ↦ elim (cases_eq k (length files)) [
          | inl y ↦ x ∙ sym y
          | inr y ↦ absurd (not_both e k (omega arith) (rw (last_file j x) at a) (rw (old_file k (omega arith)) at b))
        ]
        | inr x ↦ elim (cases_eq k (length files)) [
          | inl y ↦ absurd (not_both e j (omega arith) (rw (last_file k y) at b) (rw (old_file j (omega arith)) at a))
          | inr y ↦ so_far.once e j k (omega arith) (omega arith) (rw (old_file j (omega arith)) at a) (rw (old_file k (omega arith)) at b)
        ]
      ]

  pub new_entry : AreListed disk (index + 1) (files ++ file ∷ [])
  new_entry = record { each = new_each; before = new_before; order = new_order; found = new_found; once = new_once }
