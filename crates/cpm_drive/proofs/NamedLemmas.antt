-- Calls on all entries of a name.
use Rattle.std.proofs.Common.{◌≡◌, ℕ, zero, suc, ◌+◌, ◌*◌, ◌/◌, ◌%◌, ◌<◌, ◌≤◌, Bool, true, false, ◌&&◌, eqb, List, [], ◌∷◌, ◌++◌, Option, Some, None, MatchOption, max, map, length, get_or, take, drop, append-nil, sym, Ok, Err, refl, ap, ◌∙◌, arith}
use Rattle.std.specs.List.{position_or_len, filter, reduce, list_any}
use Rattle.std.proofs.lemmas.List.Elements.{filter_more}
use Rattle.std.proofs.lemmas.Grind.{same_number_lists}
use Rattle.std.proofs.lemmas.List.{map-append, drop_more, drop_all}
use Rattle.std.proofs.lemmas.List.Sums.{fold-append}
use Rattle.std.proofs.lemmas.Bool.{lt-ltb, le-ltb}
use Rattle.cpm_geom.specs.declared.dpb.Dpb.{Dpb}
use Rattle.cpm_volume.specs.declared.extent.Entry.{Entry}
use Rattle.cpm_volume.specs.declared.answer.Fault.TheVariants.{FileReadOnly}
use Rattle.cpm_volume.specs.Files.{name_matches, entry_at, no_entry, DiskWrite, entry_put, Volume}
use Rattle.cpm_volume.specs.Names.{is_named, first_named, with_attributes, records_to, compute_size_on_volume, protects, change_named, named_writes, deletion, renaming, marking, reserved_after, erase_files_on_volume, rename_files_on_volume, set_attributes_on_volume}
use Rattle.cpm_geom.specs.Geometry.{dpb_of}
use Rattle.cpm_geom.specs.Disk.{Disk, records_of}
use Rattle.cpm_directory.specs.Directory.{entries_of, PutsEntry}
use Rattle.cpm_directory.specs.declared.pattern.Pattern.{Pattern}
use Rattle.cpm_drive.specs.declared.drive.Drive.{Drive}
use Rattle.cpm_drive.specs.Drive.{directory_code, volume_of, after_write, after_writes, drive_after}
use Rattle.cpm_drive.specs.Writes.{drive_written}
use Rattle.cpm_drive.specs.Named.{after_named, searched}
use Rattle.cpm_directory.specs.Matching.{is_match, match_from}
use Rattle.cpm_directory.specs.declared.pattern.Pattern.TheVariants.{Files}

-- ---- attributes
marked_length : (xs ys : List ℕ) → length xs ≡ length ys → length (with_attributes xs ys) ≡ length xs
unfolding with_attributes
marked_length [] ys h = refl
marked_length (x ∷ xs) [] h = absurd (omega arith)
marked_length (x ∷ xs) (y ∷ ys) h = ap suc (marked_length xs ys (omega arith))

marked_at : (xs ys : List ℕ) (k : ℕ) → length xs ≡ length ys → k < length xs → get_or (with_attributes xs ys) k 0 ≡ get_or xs k 0 % 128 + get_or ys k 0 / 128 * 128
unfolding with_attributes
marked_at [] ys k h l = absurd (omega arith)
marked_at (x ∷ xs) [] k h l = absurd (omega arith)
marked_at (x ∷ xs) (y ∷ ys) zero h l = refl
marked_at (x ∷ xs) (y ∷ ys) (suc k) h l = marked_at xs ys k (omega arith) (omega arith)

pub marked_is : (xs ys zs : List ℕ) → length xs ≡ length ys → length zs ≡ length xs → ((k : ℕ) → k < length xs → get_or zs k 0 ≡ get_or xs k 0 % 128 + get_or ys k 0 / 128 * 128) → zs ≡ with_attributes xs ys
marked_is xs ys zs h l at =
    same_number_lists zs (with_attributes xs ys) (l ∙ sym (marked_length xs ys h)) (λ k below. at k (omega arith) ∙ sym (marked_at xs ys k h (omega arith)))

-- ---- the first of a name
and_true : (b : Bool) → (b && true) ≡ b
and_true true = refl
and_true false = refl

named_is : (d : Dpb) (user : ℕ) (name : List ℕ) (e : Entry) → is_match d (Files user name None) e ≡ is_named user name e
unfolding is_match is_named
named_is d user name e = ap (λ (b : Bool). eqb e.user user && b) (and_true (name_matches name e.extent.name))

zero_more : (n : ℕ) → 0 + n ≡ n
zero_more n = omega arith

pub first_is : (d : Dpb) (es : List Entry) (user : ℕ) (name : List ℕ) → 0 < length es → match_from d (Files user name None) es 0 ≡ first_named es user name
unfolding match_from first_named
first_is d es user name h =
    rw (lt-ltb _ _ h) (zero_more _ ∙ ap (λ (p : Entry → Bool). position_or_len p es) (λ i e. named_is d user name e i))

-- ---- a search
module _ (disk : Disk) (pattern : Pattern) (from : ℕ) (buffer : List ℕ) where
  pub finds : (i : ℕ) (bytes : List ℕ) → i ≡ match_from (dpb_of disk.format) pattern (entries_of disk) from → i < length (entries_of disk) → bytes ≡ get_or (records_of disk) (i / 4) [] → (Some i, bytes) ≡ searched disk pattern from buffer
  unfolding searched
  finds i bytes is h at = rw (← is, lt-ltb _ _ h, at) refl

  pub finds_none : match_from (dpb_of disk.format) pattern (entries_of disk) from ≡ length (entries_of disk) → (None, buffer) ≡ searched disk pattern from buffer
  unfolding searched
  finds_none is = rw (is, le-ltb (length (entries_of disk)) (length (entries_of disk)) (omega arith)) refl

-- ---- the size of a file
size_more : (r n : ℕ) (xs : List ℕ) → MatchOption (reduce max xs) (r ≡ n) (λ s. r ≡ max s n) → Some r ≡ reduce max (xs ++ n ∷ [])
size_more r n [] h = ap Some h
size_more r n (x ∷ xs) h = ap Some (h ∙ sym (fold-append max x xs (n ∷ [])))

module _ (es : List Entry) (user : ℕ) (name : List ℕ) (i : ℕ) (d : Entry) (h : i < length es) where
  pub size_named : (size : Option ℕ) (r : ℕ) → size ≡ compute_size_on_volume (take i es) user name → is_named user name (get_or es i d) ≡ true → MatchOption size (r ≡ records_to (get_or es i d)) (λ s. r ≡ max s (records_to (get_or es i d))) → Some r ≡ compute_size_on_volume (take (i + 1) es) user name
  unfolding compute_size_on_volume
  size_named size r is named greater =
      rw (filter_more (is_named user name) es i d h, named, map-append) (size_more r (records_to (get_or es i d)) (map records_to (filter (is_named user name) (take i es))) (rw is at greater))

  pub size_other : is_named user name (get_or es i d) ≡ false → compute_size_on_volume (take i es) user name ≡ compute_size_on_volume (take (i + 1) es) user name
  unfolding compute_size_on_volume
  size_other other = rw (filter_more (is_named user name) es i d h, other, append-nil) refl

-- ---- the entries of a name that are still to be written
abbrev pub left : ℕ → List ℕ → (Entry → Entry) → ℕ → List Entry → List DiskWrite
left user name f i es = named_writes user name i (drop i es) (change_named user name f (drop i es))

module _ (user : ℕ) (name : List ℕ) (f : Entry → Entry) (es : List Entry) (i : ℕ) where
  pub left_named : i < length es → is_named user name (entry_at es i) ≡ true → left user name f i es ≡ entry_put i (f (entry_at es i)) ∷ left user name f (i + 1) es
  unfolding named_writes change_named entry_at
  left_named h named = rw (drop_more es i no_entry h, named) refl

  pub left_other : i < length es → is_named user name (entry_at es i) ≡ false → left user name f i es ≡ left user name f (i + 1) es
  unfolding named_writes change_named entry_at
  left_other h other = rw (drop_more es i no_entry h, other) refl

  pub left_none : length es ≤ i → left user name f i es ≡ []
  unfolding named_writes change_named
  left_none h = rw (drop_all i es h) refl

pub one_put : (drive : Drive) (disk : Disk) (i : ℕ) (e : Entry) (rest : List DiskWrite) → PutsEntry drive.image i e disk → drive_written (record drive { image = disk }) rest ≡ drive_written drive (entry_put i e ∷ rest)
unfolding after_writes after_write
one_put drive disk i e rest puts = rw puts.bytes refl

pub none_put : (drive : Drive) → drive_written drive [] ≡ drive
unfolding after_writes
none_put drive = refl

-- ---- the calls
module _ (drive : Drive) (user : ℕ) (name : List ℕ) where
  named_after : (v : Volume) → drive.marks.is_protected ≡ false → drive_written (record drive { marks = record drive.marks { reserved = v.reserved } }) v.written ≡ drive_after drive v
  unfolding drive_after
  named_after v free = rw free refl

  pub attributes_none : length (entries_of drive.image) ≤ first_named (entries_of drive.image) user name → (Ok None, drive) ≡ after_named drive (set_attributes_on_volume (volume_of drive.image drive.marks.reserved) user name)
  unfolding set_attributes_on_volume volume_of after_named
  attributes_none h = rw (le-ltb _ _ h) refl

  pub erase_none : length (entries_of drive.image) ≤ first_named (entries_of drive.image) user name → (Ok None, drive) ≡ after_named drive (erase_files_on_volume (dpb_of drive.image.format) (volume_of drive.image drive.marks.reserved) user name)
  unfolding erase_files_on_volume volume_of after_named
  erase_none h = rw (le-ltb _ _ h) refl

  pub rename_none : (new : List ℕ) → length (entries_of drive.image) ≤ first_named (entries_of drive.image) user name → (Ok None, drive) ≡ after_named drive (rename_files_on_volume (volume_of drive.image drive.marks.reserved) user name new)
  unfolding rename_files_on_volume volume_of after_named
  rename_none new h = rw (le-ltb _ _ h) refl

  module _ (i : ℕ) (is : i ≡ first_named (entries_of drive.image) user name) (h : i < length (entries_of drive.image)) where
    pub erase_refused : list_any (protects user name) (entries_of drive.image) ≡ true → (Err FileReadOnly, drive) ≡ after_named drive (erase_files_on_volume (dpb_of drive.image.format) (volume_of drive.image drive.marks.reserved) user name)
    unfolding erase_files_on_volume volume_of after_named
    erase_refused stays = rw (← is, lt-ltb _ _ h, stays) refl

    pub rename_refused : (new : List ℕ) → list_any (protects user name) (entries_of drive.image) ≡ true → (Err FileReadOnly, drive) ≡ after_named drive (rename_files_on_volume (volume_of drive.image drive.marks.reserved) user name new)
    unfolding rename_files_on_volume volume_of after_named
    rename_refused new stays = rw (← is, lt-ltb _ _ h, stays) refl

    pub erases : drive.marks.is_protected ≡ false → list_any (protects user name) (entries_of drive.image) ≡ false → (Ok (Some (directory_code i)), drive_written (record drive { marks = record drive.marks { reserved = reserved_after (dpb_of drive.image.format) user name (entries_of drive.image) drive.marks.reserved } }) (named_writes user name 0 (entries_of drive.image) (change_named user name deletion (entries_of drive.image)))) ≡ after_named drive (erase_files_on_volume (dpb_of drive.image.format) (volume_of drive.image drive.marks.reserved) user name)
    unfolding erase_files_on_volume volume_of after_named
    erases free goes = rw (← is, lt-ltb _ _ h, goes) (ap (λ it. (Ok (Some (directory_code i)), it)) (named_after _ free))

    pub renames : (new : List ℕ) → drive.marks.is_protected ≡ false → list_any (protects user name) (entries_of drive.image) ≡ false → (Ok (Some (directory_code i)), drive_written drive (named_writes user name 0 (entries_of drive.image) (change_named user name (renaming new) (entries_of drive.image)))) ≡ after_named drive (rename_files_on_volume (volume_of drive.image drive.marks.reserved) user name new)
    unfolding rename_files_on_volume volume_of after_named
    renames new free goes = rw (← is, lt-ltb _ _ h, goes) (ap (λ it. (Ok (Some (directory_code i)), it)) (named_after _ free))

    pub marks : drive.marks.is_protected ≡ false → (Ok (Some (directory_code i)), drive_written drive (named_writes user name 0 (entries_of drive.image) (change_named user name (marking name) (entries_of drive.image)))) ≡ after_named drive (set_attributes_on_volume (volume_of drive.image drive.marks.reserved) user name)
    unfolding set_attributes_on_volume volume_of after_named
    marks free = rw (← is, lt-ltb _ _ h) (ap (λ it. (Ok (Some (directory_code i)), it)) (named_after _ free))
