-- An empty file is made.
use Rattle.std.proofs.Common.{◌≡◌, ◌≢◌, ℕ, ◌+◌, ◌<◌, ◌≤◌, true, false, List, [], Option, Some, length, get_or, set, sym, subst, refl, ap, ◌∙◌, inl, inr, arith}
use Rattle.std.proofs.lemmas.List.{get_or-replicate, length-replicate}
use Rattle.std.proofs.lemmas.Bool.{false≢true, cases_lt, lt-ltb, le-ltb, false_from_ne_true}
use Rattle.cpm_geom.specs.declared.dpb.Dpb.{Dpb}
use Rattle.cpm_geom.specs.declared.format.Format.{Format}
use Rattle.cpm_geom.specs.Geometry.{dpb_of}
use Rattle.cpm_geom.specs.Disk.{Disk, records_of}
use Rattle.cpm_volume.specs.declared.extent.Extent.{Extent}
use Rattle.cpm_volume.specs.declared.extent.Entry.{Entry}
use Rattle.cpm_volume.specs.declared.fcb.Fcb.{Fcb}
use Rattle.cpm_volume.specs.Files.{deleted, directory_records, extent_number, group_of, has_wildcard, same_name, entry_at, is_of, first_free, file_block, file_record, IsWellFormed, record_in, Volume, IsSound}
use Rattle.cpm_volume.specs.Names.{is_named}
use Rattle.cpm_volume.specs.Encoding.{AreBytes, place_limit}
use Rattle.cpm_volume.specs.Operations.{with_entry, made_extent, make_extent, make_file_on_volume}
use Rattle.cpm_volume.specs.Laws.{position}
use Rattle.cpm_volume.proofs.Making as making
use Rattle.cpm_volume.proofs.Making.{made_number, made_name, made_blocks, after as entries_made}
use Rattle.cpm_directory.specs.Directory.{entries_of}
use Rattle.cpm_drive.specs.declared.drive.Drive.{Drive}
use Rattle.cpm_drive.specs.Drive.{volume_of, drive_after, directory_code}
use Rattle.cpm_drive.specs.Calls.{MadeFile, made_file, after_make}
use Rattle.cpm_drive.specs.Laws.{IsOfBytes, CallsReach, Reaches}
use Rattle.cpm_drive.proofs.DiskReach.{calls_reach}
use Rattle.cpm_image_files.specs.ImageFiles.{entries_for, blocks_for, free_entries, free_blocks}
use Rattle.cpm_image_files.specs.Appending.{unused, unreserved, IsAppending, KeepsEntries}
use Rattle.cpm_image_files.specs.Writing.{new_fcb, KeepsDisk, IsCleared, IsWriting}
use Rattle.cpm_image_files.proofs.Counting.{unused-none, unused-taken, free_user}
use Rattle.cpm_image_files.proofs.Amounts.{entries_none, blocks_none}
use Rattle.cpm_image_files.proofs.EndLemmas.{named_of, named_from, keeps_entries, names_after, last_after}
use Rattle.cpm_image_files.proofs.DiskLemmas.{HasVolume, has_volume, keeps_on, volume_entries}
use Rattle.cpm_image_files.proofs.StepLemmas.{appending_on}

-- a file control block of a name has room in its bytes
limit_some : (d : Dpb) (place : ℕ) → 0 < place_limit d place
unfolding place_limit
limit_some d place =
    elim (cases_lt d.last_block 256) [
      | inl small ↦ rw (lt-ltb _ _ small) (omega arith)
      | inr large ↦ rw (le-ltb _ _ large) (elim (cases_lt place 8) [ inl word ↦ rw (lt-ltb _ _ word) (omega arith) | inr past ↦ rw (le-ltb _ _ past) (omega arith) ])
    ]

new_fits : (d : Dpb) (name : List ℕ) → AreBytes 11 name → IsOfBytes d (new_fcb name).extent
new_fits d name are = record {
  storable = record {
    name = are.count;
    map = length-replicate {A = ℕ} 16 0;
    numbers = λ place below. rw (get_or-replicate {A = ℕ} 16 place 0 0 below) (limit_some d place);
  };
  name = are.bytes_fit;
  ex = omega arith;
  s1 = omega arith;
  s2 = omega arith;
  records = omega arith;
}

module _ (old : Disk) (user : ℕ) (name : List ℕ) (drive : Drive) (user_ok : user < 16) (plain : has_wildcard name ≡ false) (are : AreBytes 11 name) (cleared : IsCleared old user name drive) (room : 1 ≤ free_entries user name (entries_of old)) where
  live : user ≢ deleted
  live e = absurd (omega arith)

  x : Extent
  x = (new_fcb name).extent

  es : List Entry
  es = entries_of drive.image

  free : first_free (entries_of drive.image) < length (entries_of drive.image)
  free =
      elim (cases_lt (first_free (entries_of drive.image)) (length (entries_of drive.image))) [
        | inl lt ↦ lt
        | inr past ↦ absurd (let none = unused-none (entries_of drive.image) past in let left = cleared.entries_left in omega arith)
      ]

  new_entry : Entry
  new_entry = record { user = user; extent = made_extent (new_fcb name).extent 0 }

  new_entries : List Entry
  new_entries = set (entries_of drive.image) (first_free (entries_of drive.image)) (record { user = user; extent = made_extent (new_fcb name).extent 0 })

  new_volume : Volume
  new_volume = with_entry (volume_of drive.image drive.marks.reserved) (first_free (entries_of drive.image)) new_entries

  answer : make_file_on_volume (entries_of drive.image) user (new_fcb name).extent ≡ Some (new_entries, made_extent (new_fcb name).extent 0)
  unfolding make_file_on_volume make_extent new_entries
  answer = rw (lt-ltb _ _ free) refl

  none : (j : ℕ) → is_of (dpb_of old.format) user name (group_of (dpb_of old.format) 0) (entry_at (entries_of drive.image) j) ≡ false
  none j =
      false_from_ne_true _ (λ t. false≢true (sym (cleared.gone j) ∙ named_of (dpb_of old.format) user name (group_of (dpb_of old.format) 0) (entry_at (entries_of drive.image) j) plain t))

  well_formed : IsWellFormed (dpb_of old.format) (entries_of drive.image) drive.marks.reserved
  unfolding volume_of
  well_formed = cleared.sound.well_formed

  sound : IsSound (dpb_of old.format) new_volume user (made_extent (new_fcb name).extent 0)
  unfolding new_volume with_entry volume_of new_entries entries_made made_extent
  sound = record {
    volume = record {
      blocks = cleared.sound.volume.blocks;
      space = cleared.sound.volume.space;
      maps = making.make_maps (dpb_of old.format) (entries_of drive.image) drive.marks.reserved user (new_fcb name).extent 0 live plain (omega arith) well_formed none free cleared.sound.volume.maps;
    };
    well_formed = making.make_well_formed (dpb_of old.format) (entries_of drive.image) drive.marks.reserved user (new_fcb name).extent 0 live plain (omega arith) well_formed none free;
    kept = making.make_kept (dpb_of old.format) (entries_of drive.image) drive.marks.reserved user (new_fcb name).extent 0 live plain (omega arith) well_formed none free;
    map = length-replicate {A = ℕ} 16 0;
  }

  same_files : (other : ℕ) (other_name : List ℕ) (m : ℕ) → other ≢ deleted → file_block (dpb_of old.format) new_entries other other_name m ≡ file_block (dpb_of old.format) (entries_of drive.image) other other_name m
  unfolding new_entries entries_made
  same_files other other_name m ok = making.make_files (dpb_of old.format) (entries_of drive.image) drive.marks.reserved user (new_fcb name).extent 0 live plain (omega arith) well_formed none free other other_name m ok

  -- ---- the entries
  number : extent_number (made_extent (new_fcb name).extent 0) ≡ 0
  number = made_number (new_fcb name).extent 0 (omega arith)

  named_new : is_named user name (record { user = user; extent = made_extent (new_fcb name).extent 0 }) ≡ true
  named_new = named_from user name (record { user = user; extent = made_extent (new_fcb name).extent 0 }) plain refl (made_name (new_fcb name).extent 0)

  keeps_new : KeepsEntries user name (entries_of drive.image) new_entries
  unfolding new_entries
  keeps_new =
      keeps_entries user name (entries_of drive.image) (first_free (entries_of drive.image)) (record { user = user; extent = made_extent (new_fcb name).extent 0 }) free named_new (λ used. absurd (used.used (free_user (entries_of drive.image) free)))

  unused_new : unused new_entries + 1 ≡ unused (entries_of drive.image)
  unfolding new_entries
  unused_new =
      unused-taken (entries_of drive.image) (first_free (entries_of drive.image)) (record { user = user; extent = made_extent (new_fcb name).extent 0 }) free (free_user (entries_of drive.image) free) live

  names_new : (j : ℕ) → is_named user name (entry_at new_entries j) ≡ true → (entry_at new_entries j).extent.name ≡ name
  unfolding new_entries
  names_new =
      names_after user name (entries_of drive.image) (first_free (entries_of drive.image)) (record { user = user; extent = made_extent (new_fcb name).extent 0 }) free named_new (made_name (new_fcb name).extent 0) (λ j t. absurd (false≢true (sym (cleared.gone j) ∙ t)))

  last_new : (j : ℕ) → is_named user name (entry_at new_entries j) ≡ true → extent_number (entry_at new_entries j).extent ≤ 0
  unfolding new_entries
  last_new =
      last_after user name (entries_of drive.image) (first_free (entries_of drive.image)) (record { user = user; extent = made_extent (new_fcb name).extent 0 }) free named_new 0 (let zero = number in omega arith) (λ j t. absurd (false≢true (sym (cleared.gone j) ∙ t)))

  count : (made_extent (new_fcb name).extent 0).record_count ≡ 0
  unfolding made_extent
  count = refl

  appending : IsAppending (dpb_of old.format) user name new_volume (made_extent (new_fcb name).extent 0) 0
  unfolding new_volume with_entry
  appending = record {
    at_end = record {
      name_is = made_name (new_fcb name).extent 0;
      names = names_new;
      last = rw number last_new;
      count = count;
      small = omega arith;
      taken = λ s h. absurd (let low = rw number at h in omega arith);
      rest = λ s h. made_blocks (new_fcb name).extent 0 s;
    };
    begun = λ _. number;
  }

  -- ---- the disk has it
  reaches : Reaches drive new_volume × IsOfBytes (dpb_of old.format) (made_extent (new_fcb name).extent 0)
  unfolding new_volume volume_of
  reaches =
      let calls : CallsReach drive (dpb_of old.format) (volume_of drive.image drive.marks.reserved) user (new_fcb name).extent = subst (λ (g : Format). CallsReach drive (dpb_of g) (volume_of drive.image drive.marks.reserved) user (new_fcb name).extent) cleared.keeps.format ((calls_reach drive cleared.keeps.writable).0 user (new_fcb name).extent (omega arith) (new_fits (dpb_of drive.image.format) name are)) in
      calls.make new_entries (made_extent (new_fcb name).extent 0) answer

  has : HasVolume old.format (drive_after drive new_volume) new_volume
  has = has_volume old.format drive new_volume cleared.keeps.format cleared.keeps.writable.free reaches.0

  others : (other : ℕ) (other_name : List ℕ) (m : ℕ) → other ≢ deleted → (other ≡ user → same_name other_name name ≡ true → ⊥) → file_record (dpb_of old.format) new_volume.entries new_volume.records other other_name m ≡ file_record (dpb_of old.format) (entries_of drive.image) (records_of drive.image) other other_name m
  unfolding new_volume with_entry volume_of file_record
  others other other_name m ok apart =
      ap (λ b. record_in (dpb_of old.format) (records_of drive.image) b m) (same_files other other_name m ok)

  made_fcb : Fcb
  made_fcb = record (new_fcb name) { extent = made_extent (new_fcb name).extent 0 }

  starts_at : position (made_extent (new_fcb name).extent 0) 0 ≡ 0
  unfolding position
  starts_at = let zero = number in omega arith

  keeps : KeepsDisk old user name (drive_after drive new_volume)
  unfolding new_volume with_entry
  keeps = keeps_on old user name drive new_volume cleared.keeps has keeps_new (record { volume = sound.volume; well_formed = sound.well_formed }) others

  entries_left : unused (entries_of (drive_after drive new_volume).image) + entries_for (dpb_of old.format) 0 ≡ free_entries user name (entries_of old)
  unfolding new_volume with_entry
  entries_left =
      let now = ap unused has.entries in
      let due = unused_new in
      let one = entries_none old.format in
      let left = cleared.entries_left in
      omega arith

  blocks_left : unreserved (drive_after drive new_volume).marks.reserved + blocks_for (dpb_of old.format) 0 ≡ free_blocks (dpb_of old.format) user name (entries_of old)
  unfolding new_volume with_entry volume_of
  blocks_left =
      let now = ap unreserved has.reserved in
      let none = blocks_none old.format in
      let left = cleared.blocks_left in
      omega arith

  has_records : (n : ℕ) → directory_records (dpb_of old.format) ≤ n → get_or (records_of (drive_after drive new_volume).image) n [] ≡ get_or (records_of old) n []
  unfolding new_volume with_entry volume_of
  has_records n h = has.records n h ∙ cleared.records n h

  begins : (bytes : List ℕ) → IsWriting old user name bytes 0 (drive_after drive new_volume) made_fcb
  unfolding made_fcb
  begins bytes = record {
    keeps = keeps;
    fits = reaches.1;
    sound = has.sound user (made_extent (new_fcb name).extent 0) sound;
    appending = appending_on (dpb_of old.format) user name new_volume (volume_of (drive_after drive new_volume).image (drive_after drive new_volume).marks.reserved) (made_extent (new_fcb name).extent 0) 0 (volume_entries (drive_after drive new_volume).image (drive_after drive new_volume).marks.reserved ∙ has.entries) appending;
    count_is = starts_at;
    records = λ m h. absurd (omega arith);
    own = λ n h. inl (has_records n h);
    entries_left = entries_left;
    blocks_left = blocks_left;
  }

  pub makes : (code : Option ℕ) (drive' : Drive) (fcb' : Fcb) → made_file code drive' fcb' ≡ after_make drive (new_fcb name) (first_free (entries_of drive.image)) (make_file_on_volume (entries_of drive.image) user (new_fcb name).extent) → ((k : ℕ) × (code ≡ Some k)) × ((bytes : List ℕ) → IsWriting old user name bytes 0 drive' fcb')
  unfolding after_make made_fcb new_volume
  makes code drive' fcb' e =
      let is : made_file code drive' fcb' ≡ made_file (Some (directory_code (first_free (entries_of drive.image)))) (drive_after drive new_volume) made_fcb = rw answer at e in
      ((directory_code (first_free (entries_of drive.image)), ap (λ (m : MadeFile). m.code) is), λ bytes. subst (λ (m : MadeFile). IsWriting old user name bytes 0 m.drive m.fcb) (sym is) (begins bytes))
