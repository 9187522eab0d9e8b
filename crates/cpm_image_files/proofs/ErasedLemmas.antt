-- The file that is replaced is erased.
use Rattle.std.proofs.Common.{◌≡◌, ◌≢◌, ℕ, suc, ◌+◌, ◌<◌, ◌≤◌, Bool, true, false, not, ◌&&◌, ◌||◌, cond, eqb, ltb, List, [], ◌∷◌, ◌++◌, Option, Some, None, Result, Ok, length, get_or, map, sym, subst, refl, ap, ap₂, ◌∙◌, inl, inr, arith}
use Rattle.std.specs.List.{list_any, count_by}
use Rattle.std.proofs.lemmas.List.{get_or_past, get_or-map, length-map, same_lists, get_or_default}
use Rattle.std.proofs.lemmas.List.Folds.{list_any_at}
use Rattle.std.proofs.lemmas.List.FromFn.{get_or-map-range_with_len}
use Rattle.std.proofs.lemmas.List.Sums.{sum_by-cons}
use Rattle.std.proofs.lemmas.Bool.{false≢true, ne_eqb, and_parts, and_from, and_left, cases_Bool, cases_lt, lt-ltb, le-ltb, false_from_ne_true}
use Rattle.cpm_geom.specs.declared.dpb.Dpb.{Dpb}
use Rattle.cpm_geom.specs.Geometry.{dpb_of}
use Rattle.cpm_geom.specs.Disk.{records_of}
use Rattle.cpm_volume.specs.declared.extent.Entry.{Entry}
use Rattle.cpm_volume.specs.declared.answer.Fault.{Fault}
use Rattle.cpm_volume.specs.Reserved.{is_reserved, is_directory_block}
use Rattle.cpm_volume.specs.Files.{deleted, has_wildcard, same_name, no_entry, entry_at, InUse, file_record, Volume, IsSoundDrive}
use Rattle.cpm_volume.specs.Names.{is_named, first_named, is_read_only, change_named, named_writes, NameOutcome, none_named, file_read_only, named, protects, deletion, is_erased, reserved_after, erase_files_on_volume}
use Rattle.cpm_volume.specs.NameLaws.{ErasesFiles}
use Rattle.cpm_volume.proofs.Entries.{in_use_within, any_index}
use Rattle.cpm_volume.proofs.Formats.{each_format}
use Rattle.cpm_volume.proofs.NameLemmas.{name_matches_plain, same_name-sym}
use Rattle.cpm_volume.proofs.Erasing.{erases}
use Rattle.cpm_directory.specs.Directory.{entries_of}
use Rattle.cpm_directory.specs.Login.{reserved_at_login}
use Rattle.cpm_directory.proofs.CheckedLemmas.{checked}
use Rattle.cpm_drive.specs.declared.drive.Drive.{Drive}
use Rattle.cpm_drive.specs.Drive.{volume_of, drive_after, directory_code}
use Rattle.cpm_drive.specs.Named.{after_named}
use Rattle.cpm_drive.specs.Laws.{IsWritable}
use Rattle.cpm_drive.proofs.DiskLemmas.{disk_is_volume}
use Rattle.cpm_drive.proofs.DiskReach.{calls_reach}
use Rattle.cpm_image_files.specs.ImageFiles.{IsSoundDisk, is_free_for, free_entries, free_blocks}
use Rattle.cpm_image_files.specs.Appending.{unused, unreserved, KeepsEntries}
use Rattle.cpm_image_files.specs.Writing.{IsCleared}
use Rattle.cpm_image_files.proofs.FreeLemmas.{login_length, after_length}
use Rattle.cpm_image_files.proofs.EndLemmas.{keeps-refl, named_parts}
use Rattle.cpm_image_files.proofs.DiskLemmas.{HasVolume, has_volume, keeps_on}

-- ---- counts
count_by-cons : {X : Type 0} (p : X → Bool) (x : X) (xs : List X) → count_by p (x ∷ xs) ≡ cond (p x) 1 0 + count_by p xs
count_by-cons p x xs = sum_by-cons (λ x. cond (p x) 1 0) x xs

-- a change that makes one test another makes one count the other
count_by-map : {X : Type 0} (p q : X → Bool) (f : X → X) (xs : List X) → ((x : X) → p (f x) ≡ q x) → count_by p (map f xs) ≡ count_by q xs
count_by-map p q f [] h = refl
count_by-map p q f (x ∷ xs) h =
    count_by-cons p (f x) (map f xs) ∙ (ap₂ (λ (b : Bool) (n : ℕ). cond {A = ℕ} b 1 0 + n) (h x) (count_by-map p q f xs h) ∙ sym (count_by-cons q x xs))

-- so do two tests that agree at each place
count_by-same : {X : Type 0} (p q : X → Bool) (xs : List X) (other : X) → ((i : ℕ) → p (get_or xs i other) ≡ q (get_or xs i other)) → count_by p xs ≡ count_by q xs
count_by-same p q [] other h = refl
count_by-same p q (x ∷ xs) other h =
    count_by-cons p x xs ∙ (ap₂ (λ (b : Bool) (n : ℕ). cond {A = ℕ} b 1 0 + n) (h 0) (count_by-same p q xs other (λ i. h (suc i))) ∙ sym (count_by-cons q x xs))

or-false : (b : Bool) → (b || false) ≡ b
or-false true = refl
or-false false = refl

or-true : (b : Bool) → (b || true) ≡ true
or-true true = refl
or-true false = refl

and-true : (b : Bool) → (b && true) ≡ b
and-true true = refl
and-true false = refl

-- ---- entries of a name that become free
change : ℕ → List ℕ → Entry → Entry
change user name e = cond (is_named user name e) (deletion e) e

change_test : (user : ℕ) (name : List ℕ) (e : Entry) → eqb (change user name e).user deleted ≡ is_free_for user name e
unfolding change deletion
change_test user name e =
    elim (cases_Bool (is_named user name e)) [
      | inl t ↦ rw t (sym (or-true (eqb e.user deleted)))
      | inr f ↦ rw f (sym (or-false (eqb e.user deleted)))
    ]

changed_named : (user : ℕ) (name : List ℕ) (e : Entry) → user ≢ deleted → is_named user name (change user name e) ≡ false
unfolding change deletion is_named
changed_named user name e ok =
    elim (cases_Bool (is_named user name e)) [
      | inl t ↦ rw t (and_left _ _ (ne_eqb _ _ (λ z. ok (sym z))))
      | inr f ↦ rw f f
    ]

no_entry_user : no_entry.user ≡ deleted
unfolding no_entry
no_entry_user = refl

module _ (user : ℕ) (name : List ℕ) (es : List Entry) (user_ok : user ≢ deleted) where
  entries_after : List Entry
  entries_after = change_named user name deletion es

  after_is : entries_after ≡ map (change user name) es
  unfolding entries_after change_named change
  after_is = refl

  inside : (i : ℕ) → i < length es → entry_at entries_after i ≡ change user name (entry_at es i)
  unfolding entry_at
  inside i h = rw after_is (get_or-map (change user name) es i no_entry no_entry h)

  outside : (i : ℕ) → length es ≤ i → entry_at entries_after i ≡ no_entry
  unfolding entry_at
  outside i h = rw after_is (get_or_past (map (change user name) es) i no_entry (rw (length-map es) h))

  was_outside : (i : ℕ) → length es ≤ i → entry_at es i ≡ no_entry
  unfolding entry_at
  was_outside i h = get_or_past es i no_entry h

  stays_other : (i : ℕ) → is_named user name (entry_at es i) ≡ false → entry_at entries_after i ≡ entry_at es i
  unfolding change
  stays_other i other =
      elim (cases_lt i (length es)) [
        | inl lt ↦ inside i lt ∙ rw other refl
        | inr ge ↦ outside i ge ∙ sym (was_outside i ge)
      ]

  free_named : (i : ℕ) → is_named user name (entry_at es i) ≡ true → InUse entries_after i → ⊥
  unfolding change deletion
  free_named i t used =
      elim (cases_lt i (length es)) [
        | inl lt ↦ used.used (ap (λ (e : Entry). e.user) (inside i lt) ∙ rw t refl)
        | inr ge ↦ used.used (ap (λ (e : Entry). e.user) (outside i ge) ∙ no_entry_user)
      ]

  erase_keeps : KeepsEntries user name es (change_named user name deletion es)
  unfolding entries_after
  erase_keeps = record {
    stay = λ i used other. stays_other i other;
    no_more = λ i used other. elim (cases_Bool (is_named user name (entry_at es i))) [
      | inl t ↦ absurd (free_named i t used)
      | inr f ↦ sym (stays_other i f)
    ];
  }

  none_named_after : (i : ℕ) → is_named user name (entry_at (change_named user name deletion es) i) ≡ false
  unfolding entries_after is_named no_entry
  none_named_after i =
      elim (cases_lt i (length es)) [
        | inl lt ↦ rw (inside i lt) (changed_named user name (entry_at es i) user_ok)
        | inr ge ↦ rw (outside i ge) (and_left _ _ (ne_eqb _ _ (λ z. user_ok (sym z))))
      ]

  unused_after : unused (change_named user name deletion es) ≡ free_entries user name es
  unfolding unused free_entries entries_after
  unused_after =
      ap (count_by (λ (e : Entry). eqb e.user deleted)) after_is ∙ count_by-map (λ (e : Entry). eqb e.user deleted) (is_free_for user name) (change user name) es (change_test user name)

  -- ---- where there is none
  module _ (none : (i : ℕ) → is_named user name (entry_at es i) ≡ false) where
    unused_none : unused es ≡ free_entries user name es
    unfolding unused free_entries entry_at
    unused_none =
        count_by-same (λ (e : Entry). eqb e.user deleted) (is_free_for user name) es no_entry (λ i. sym (ap (λ (b : Bool). eqb (get_or es i no_entry).user deleted || b) (none i) ∙ or-false (eqb (get_or es i no_entry).user deleted)))

    not_erased : (b : ℕ) → is_erased user name es b ≡ false
    unfolding is_erased entry_at
    not_erased b =
        false_from_ne_true _ (λ t.
        let found = any_index (λ e. is_named user name e && list_any (λ number. eqb number b) e.extent.blocks) es no_entry (and_parts (ltb 0 b) _ t).1 in
        false≢true (sym (none found.0) ∙ (and_parts (is_named user name (get_or es found.0 no_entry)) _ found.2).0))

    reserved_same : (d : Dpb) (reserved : List Bool) → reserved_after d user name es reserved ≡ reserved
    unfolding reserved_after is_reserved
    reserved_same d reserved =
        same_lists (reserved_after d user name es reserved) reserved (after_length d user name es reserved) (λ k other h.
        let low : k < length reserved = rw (after_length d user name es reserved) at h in
        get_or-map-range_with_len (λ b. get_or reserved b true && (is_directory_block d b || not (is_erased user name es b))) 0 (length reserved) k k other low (omega arith) ∙ (ap (λ (e : Bool). get_or reserved k true && (is_directory_block d k || not e)) (not_erased k) ∙ (ap (λ (e : Bool). get_or reserved k true && e) (or-true (is_directory_block d k)) ∙ (and-true (get_or reserved k true) ∙ get_or_default reserved k true other low))))

-- ---- the call
-- the volume that a call leaves
volume_in : Volume → NameOutcome → Volume
volume_in v none_named = v
volume_in v file_read_only = v
volume_in v (named first v') = v'

not_none : (first : ℕ) (v : Volume) → none_named ≢ named first v
not_none first v e = cc

module _ (drive : Drive) (user : ℕ) (name : List ℕ) (user_ok : user < 16) (plain : has_wildcard name ≡ false) (writable : IsWritable drive) (sound : IsSoundDisk drive.image) (fresh : drive.marks.reserved ≡ reserved_at_login (dpb_of drive.image.format) (entries_of drive.image)) (unprotected : list_any (protects user name) (entries_of drive.image) ≡ false) where
  live : user ≢ deleted
  live e = absurd (omega arith)

  d : Dpb
  d = dpb_of drive.image.format

  v : Volume
  v = volume_of drive.image drive.marks.reserved

  sound_drive : IsSoundDrive (dpb_of drive.image.format) (volume_of drive.image drive.marks.reserved)
  unfolding volume_of
  sound_drive = record {
    volume = disk_is_volume drive.image drive.marks.reserved (ap length fresh ∙ login_length (dpb_of drive.image.format) (entries_of drive.image));
    well_formed = rw fresh ((checked drive.image).0 sound);
  }

  blocks_free : unreserved (reserved_after (dpb_of drive.image.format) user name (entries_of drive.image) drive.marks.reserved) ≡ free_blocks (dpb_of drive.image.format) user name (entries_of drive.image)
  unfolding unreserved free_blocks
  blocks_free = ap (λ r. count_by not (reserved_after (dpb_of drive.image.format) user name (entries_of drive.image) r)) fresh

  -- ---- no file of the name
  none_cleared : ((i : ℕ) → is_named user name (entry_at (entries_of drive.image) i) ≡ false) → IsCleared drive.image user name drive
  none_cleared none = record {
    keeps = record { format = refl; writable = writable; entries = keeps-refl user name (entries_of drive.image); records = λ other other_name m ok apart. refl; system = λ place h. refl };
    sound = sound_drive;
    records = λ n h. refl;
    gone = none;
    entries_left = unused_none user name (entries_of drive.image) live none;
    blocks_left = ap unreserved (sym (reserved_same user name (entries_of drive.image) live none (dpb_of drive.image.format) drive.marks.reserved)) ∙ blocks_free;
  }

  -- ---- one that may be erased
  volume_now : Volume
  volume_now =
      record v { entries = change_named user name deletion v.entries; reserved = reserved_after (dpb_of drive.image.format) user name v.entries v.reserved; written = v.written ++ named_writes user name 0 v.entries (change_named user name deletion v.entries) }

  erase_is : (first : ℕ) (v' : Volume) → erase_files_on_volume (dpb_of drive.image.format) v user name ≡ named first v' → v' ≡ volume_now
  unfolding erase_files_on_volume v volume_of volume_in volume_now
  erase_is first v' e =
      elim (cases_lt (first_named (entries_of drive.image) user name) (length (entries_of drive.image))) [
        | inl there ↦ sym (ap (volume_in (volume_of drive.image drive.marks.reserved)) (rw (lt-ltb _ _ there, unprotected) at e))
        | inr past ↦ absurd (not_none first v' (rw (le-ltb _ _ past) at e))
      ]

  module _ (first : ℕ) (v' : Volume) (answer : erase_files_on_volume (dpb_of drive.image.format) v user name ≡ named first v') (erasing : ErasesFiles (dpb_of drive.image.format) user v name v') where
    has : HasVolume drive.image.format (drive_after drive v') v'
    unfolding v
    has = has_volume drive.image.format drive v' refl writable.free (((calls_reach drive writable).1 user name).erase first v' answer)

    entries_is : v'.entries ≡ change_named user name deletion (entries_of drive.image)
    unfolding volume_now v volume_of
    entries_is = ap (λ (w : Volume). w.entries) (erase_is first v' answer)

    reserved_is : v'.reserved ≡ reserved_after (dpb_of drive.image.format) user name (entries_of drive.image) drive.marks.reserved
    unfolding volume_now v volume_of
    reserved_is = ap (λ (w : Volume). w.reserved) (erase_is first v' answer)

    records_are : (n : ℕ) → get_or v'.records n [] ≡ get_or (records_of drive.image) n []
    unfolding volume_now v volume_of
    records_are n = ap (λ (w : Volume). get_or w.records n []) (erase_is first v' answer)

    others : (other : ℕ) (other_name : List ℕ) (m : ℕ) → other ≢ deleted → (other ≡ user → same_name other_name name ≡ true → ⊥) → file_record (dpb_of drive.image.format) v'.entries v'.records other other_name m ≡ file_record (dpb_of drive.image.format) (entries_of drive.image) (records_of drive.image) other other_name m
    unfolding v volume_of
    others other other_name m ok apart =
        erasing.others other other_name m ok (λ u matches. apart u (same_name-sym _ _ (sym (name_matches_plain name other_name plain) ∙ matches)))

    erased_cleared : IsCleared drive.image user name (drive_after drive v')
    erased_cleared = record {
      keeps = keeps_on drive.image user name drive v' (record { format = refl; writable = writable; entries = keeps-refl user name (entries_of drive.image); records = λ other other_name m ok apart. refl; system = λ place h. refl }) has (subst (λ es. KeepsEntries user name (entries_of drive.image) es) (sym entries_is) (erase_keeps user name (entries_of drive.image) live)) erasing.sound others;
      sound = has.sound_drive erasing.sound;
      records = λ n h. has.records n h ∙ records_are n;
      gone = λ i. ap (λ es. is_named user name (entry_at es i)) (has.entries ∙ entries_is) ∙ none_named_after user name (entries_of drive.image) live i;
      entries_left = ap unused (has.entries ∙ entries_is) ∙ unused_after user name (entries_of drive.image) live;
      blocks_left = ap unreserved (has.reserved ∙ reserved_is) ∙ blocks_free;
    }

  read_only_none : (i : ℕ) → is_named user name (entry_at (entries_of drive.image) i) ≡ true → is_read_only (entry_at (entries_of drive.image) i).extent.name ≡ true → ⊥
  unfolding protects entry_at
  read_only_none i t w =
      let within = in_use_within (entries_of drive.image) i (λ z. live (sym (named_parts user name (entry_at (entries_of drive.image) i) plain t).0 ∙ z)) in
      false≢true (sym unprotected ∙ list_any_at (protects user name) (entries_of drive.image) i no_entry within (and_from _ _ t w))

  pub erased : (result : Result (Option ℕ) Fault) (drive' : Drive) → (result, drive') ≡ after_named drive (erase_files_on_volume (dpb_of drive.image.format) (volume_of drive.image drive.marks.reserved) user name) → ((code : Option ℕ) × (result ≡ Ok code)) × IsCleared drive.image user name drive'
  unfolding after_named v volume_of
  erased result drive' e =
      elim (erases (dpb_of drive.image.format) user (volume_of drive.image drive.marks.reserved) name live (each_format drive.image.format) sound_drive) [
        | inl none ↦
            let is : (result, drive') ≡ (Ok None, drive) = rw none.0 at e in
            ((None, ap (λ p. p.0) is), subst (λ (p : Result (Option ℕ) Fault × Drive). IsCleared drive.image user name p.1) (sym is) (none_cleared none.1))
        | inr some ↦ elim some [
          | inl locked ↦ absurd (read_only_none locked.1.0 locked.1.1 locked.1.2)
          | inr there ↦
              let is : (result, drive') ≡ (Ok (Some (directory_code there.0)), drive_after drive there.1) = rw there.2 at e in
              ((Some (directory_code there.0), ap (λ p. p.0) is), subst (λ (p : Result (Option ℕ) Fault × Drive). IsCleared drive.image user name p.1) (sym is) (erased_cleared there.0 there.1 there.2 there.3))
        ]
      ]
