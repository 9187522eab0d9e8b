-- The file is closed, and is on the disk.
use Rattle.std.proofs.Common.{◌≡◌, ◌≢◌, ◌⊎◌, ℕ, ◌<◌, ◌≤◌, Bool, true, false, List, [], get_or, Option, Some, None, Result, Ok, length, sym, subst, ap, ◌∙◌, inl, inr, arith}
use Rattle.std.specs.Result.{is_ok}
use Rattle.std.proofs.lemmas.Bool.{cases_lt}
use Rattle.cpm_geom.specs.declared.dpb.Dpb.{Dpb}
use Rattle.cpm_geom.specs.declared.format.Format.{Format}
use Rattle.cpm_geom.specs.Geometry.{dpb_of}
use Rattle.cpm_geom.specs.Disk.{Disk, records_of}
use Rattle.cpm_volume.specs.declared.extent.Entry.{Entry}
use Rattle.cpm_volume.specs.declared.fcb.Fcb.{Fcb}
use Rattle.cpm_volume.specs.declared.answer.Fault.{Fault}
use Rattle.cpm_volume.specs.Files.{deleted, directory_records, same_name, entry_at, file_block, file_record, open_file_block, open_file_record, record_in, IsFormat, IsWellFormed, IsSoundDrive, Volume}
use Rattle.cpm_volume.specs.Names.{is_named}
use Rattle.cpm_volume.specs.Operations.{with_entry, closed, close_file_on_volume}
use Rattle.cpm_volume.proofs.Formats.{each_format}
use Rattle.cpm_volume.proofs.Closing as closing
use Rattle.cpm_volume.proofs.Closing.{after as entries_closed}
use Rattle.cpm_directory.specs.Directory.{entries_of}
use Rattle.cpm_directory.specs.Login.{reserved_at_login}
use Rattle.cpm_directory.proofs.CheckedLemmas.{checked}
use Rattle.cpm_directory.proofs.LawLemmas.{reserves}
use Rattle.cpm_drive.specs.declared.drive.Drive.{Drive}
use Rattle.cpm_drive.specs.Drive.{volume_of, drive_after, directory_code}
use Rattle.cpm_drive.specs.Calls.{ClosedFile, closed_file, close_answer, drive_closed, after_close}
use Rattle.cpm_drive.specs.Laws.{IsOfBytes, CallsReach, Reaches}
use Rattle.cpm_drive.proofs.DiskReach.{calls_reach}
use Rattle.cpm_image_files.specs.ImageFiles.{record_of_bytes, block_of_record, records_for, record_on, file_refusal_of, IsBlockOf, IsSoundDisk, IsPut}
use Rattle.cpm_image_files.specs.Appending.{IsOpenBlockOf, KeepsEntries}
use Rattle.cpm_image_files.specs.Writing.{KeepsDisk, IsWriting}
use Rattle.cpm_image_files.proofs.RecordLemmas.{no_record_of}
use Rattle.cpm_image_files.proofs.EndLemmas.{no_more_records}
use Rattle.cpm_image_files.proofs.Crossing as crossing
use Rattle.cpm_image_files.proofs.Crossing.{entries_now, now}
use Rattle.cpm_image_files.proofs.DiskLemmas.{HasVolume, has_volume, keeps_on}

-- a directory that agrees with some reserved blocks agrees with those of a login
pub logged_in_sound : (d : Dpb) (es : List Entry) (reserved : List Bool) → IsFormat d → IsWellFormed d es reserved → IsWellFormed d es (reserved_at_login d es)
logged_in_sound d es reserved format wf =
    let login = reserves d es format in
    record {
      once = wf.once;
      stored = λ i s used h. (let was = wf.stored i s used h in record { within = was.within; outside = was.outside; kept = login.numbers i s used h });
      directory = login.directory;
      apart = wf.apart;
    }

module _ (old : Disk) (user : ℕ) (name bytes : List ℕ) (drive : Drive) (fcb : Fcb) (user_ok : user < 16) (writing : IsWriting old user name bytes (records_for (length bytes)) drive fcb) (sound_before : IsSoundDisk old) (allowed : file_refusal_of (dpb_of old.format) (entries_of old) user name (records_for (length bytes)) ≡ None) where
  live : user ≢ deleted
  live e = absurd (omega arith)

  v : Volume
  v = volume_of drive.image drive.marks.reserved

  after : List Entry
  after = entries_now (dpb_of old.format) user name (volume_of drive.image drive.marks.reserved) fcb.extent fcb.current_record live writing.sound writing.appending.at_end

  volume_now : Volume
  volume_now = with_entry (volume_of drive.image drive.marks.reserved) writing.sound.kept.index after

  answer : close_file_on_volume (dpb_of old.format) false (entries_of drive.image) user fcb.extent ≡ closed writing.sound.kept.index after fcb.extent
  unfolding close_file_on_volume after volume_of
  answer = crossing.closes (dpb_of old.format) user name (volume_of drive.image drive.marks.reserved) fcb.extent fcb.current_record live writing.sound writing.appending.at_end

  keeps_now : KeepsEntries user name (entries_of drive.image) after
  unfolding after volume_of
  keeps_now = crossing.keeps_now (dpb_of old.format) user name (volume_of drive.image drive.marks.reserved) fcb.extent fcb.current_record live writing.sound writing.appending.at_end

  names_now : (j : ℕ) → is_named user name (entry_at after j) ≡ true → (entry_at after j).extent.name ≡ name
  unfolding after
  names_now = crossing.names_now (dpb_of old.format) user name (volume_of drive.image drive.marks.reserved) fcb.extent fcb.current_record live writing.sound writing.appending.at_end

  named_now : is_named user name (entry_at after writing.sound.kept.index) ≡ true
  unfolding after
  named_now =
      ap (is_named user name) (crossing.at_now (dpb_of old.format) user name (volume_of drive.image drive.marks.reserved) fcb.extent fcb.current_record live writing.sound writing.appending.at_end) ∙ crossing.now_named (dpb_of old.format) user name (volume_of drive.image drive.marks.reserved) fcb.extent fcb.current_record live writing.sound writing.appending.at_end

  sound_now : IsSoundDrive (dpb_of old.format) volume_now
  unfolding volume_now with_entry after entries_now now entries_closed v volume_of
  sound_now = record {
    volume = record {
      blocks = writing.sound.volume.blocks;
      space = writing.sound.volume.space;
      maps = closing.maps_after (dpb_of old.format) v.entries v.reserved user fcb.extent live writing.sound.well_formed writing.sound.kept writing.sound.map writing.sound.volume.maps;
    };
    well_formed = closing.well_formed_after (dpb_of old.format) v.entries v.reserved user fcb.extent live writing.sound.well_formed writing.sound.kept;
  }

  -- ---- the files of the directory
  own_block : (m : ℕ) → file_block (dpb_of old.format) after user fcb.extent.name m ≡ open_file_block (dpb_of old.format) (entries_of drive.image) user fcb.extent m
  unfolding volume_of after entries_now now entries_closed
  own_block m = closing.same_file (dpb_of old.format) (volume_of drive.image drive.marks.reserved).entries (volume_of drive.image drive.marks.reserved).reserved user fcb.extent live writing.sound.well_formed writing.sound.kept m

  other_block : (other : ℕ) (other_name : List ℕ) (m : ℕ) → (other ≡ user → same_name other_name name ≡ true → ⊥) → file_block (dpb_of old.format) after other other_name m ≡ file_block (dpb_of old.format) (entries_of drive.image) other other_name m
  unfolding volume_of after entries_now now entries_closed
  other_block other other_name m apart =
      closing.others (dpb_of old.format) (volume_of drive.image drive.marks.reserved).entries (volume_of drive.image drive.marks.reserved).reserved user fcb.extent live writing.sound.well_formed writing.sound.kept other other_name (λ u same. apart u (ap (same_name other_name) (sym writing.appending.at_end.name_is) ∙ same)) m

  own_record : (m : ℕ) → file_record (dpb_of old.format) after (records_of drive.image) user name m ≡ open_file_record (dpb_of old.format) (entries_of drive.image) (records_of drive.image) user fcb.extent m
  unfolding file_record open_file_record
  own_record m =
      ap (λ n. record_in (dpb_of old.format) (records_of drive.image) (file_block (dpb_of old.format) after user n m) m) (sym writing.appending.at_end.name_is) ∙ ap (λ b. record_in (dpb_of old.format) (records_of drive.image) b m) (own_block m)

  others : (other : ℕ) (other_name : List ℕ) (m : ℕ) → other ≢ deleted → (other ≡ user → same_name other_name name ≡ true → ⊥) → file_record (dpb_of old.format) volume_now.entries volume_now.records other other_name m ≡ file_record (dpb_of old.format) (entries_of drive.image) (records_of drive.image) other other_name m
  unfolding volume_now with_entry volume_of file_record
  others other other_name m ok apart =
      ap (λ b. record_in (dpb_of old.format) (records_of drive.image) b m) (other_block other other_name m apart)

  no_more : (m : ℕ) → records_for (length bytes) ≤ m → open_file_record (dpb_of old.format) (entries_of drive.image) (records_of drive.image) user fcb.extent m ≡ None
  unfolding volume_of
  no_more m past =
      no_more_records (dpb_of old.format) user name (volume_of drive.image drive.marks.reserved) fcb.extent fcb.current_record live writing.sound.kept.plain writing.appending.at_end m (let at = writing.count_is in omega arith)

  its_record : (m : ℕ) → open_file_record (dpb_of old.format) (entries_of drive.image) (records_of drive.image) user fcb.extent m ≡ record_of_bytes bytes m
  its_record m =
      elim (cases_lt m (records_for (length bytes))) [
        | inl lt ↦ writing.records m lt
        | inr past ↦ no_more m past ∙ sym (no_record_of bytes m past)
      ]

  -- ---- the disk has them
  reaches : Reaches drive volume_now
  unfolding volume_now volume_of
  reaches =
      let fits : IsOfBytes (dpb_of drive.image.format) fcb.extent = subst (λ (g : Format). IsOfBytes (dpb_of g) fcb.extent) (sym writing.keeps.format) writing.fits in
      let calls : CallsReach drive (dpb_of old.format) (volume_of drive.image drive.marks.reserved) user fcb.extent = subst (λ (g : Format). CallsReach drive (dpb_of g) (volume_of drive.image drive.marks.reserved) user fcb.extent) writing.keeps.format ((calls_reach drive writing.keeps.writable).0 user fcb.extent (omega arith) fits) in
      (calls.close writing.sound.kept.index after fcb.extent answer).0

  has : HasVolume old.format (drive_after drive volume_now) volume_now
  has = has_volume old.format drive volume_now writing.keeps.format writing.keeps.writable.free reaches

  entries_are : entries_of (drive_after drive volume_now).image ≡ after
  unfolding volume_now with_entry
  entries_are = has.entries

  keeps : KeepsDisk old user name (drive_after drive volume_now)
  unfolding volume_now with_entry
  keeps = keeps_on old user name drive volume_now writing.keeps has keeps_now sound_now others

  on_disk : (m : ℕ) → record_on (drive_after drive volume_now).image user name m ≡ record_of_bytes bytes m
  unfolding volume_now with_entry volume_of
  on_disk m = has.listed user name m live sound_now ∙ (own_record m ∙ its_record m)

  sound_after : IsSoundDisk (drive_after drive volume_now).image
  unfolding volume_of
  sound_after =
      let wf : IsWellFormed (dpb_of old.format) (entries_of (drive_after drive volume_now).image) (reserved_at_login (dpb_of old.format) (entries_of (drive_after drive volume_now).image)) = logged_in_sound (dpb_of old.format) (entries_of (drive_after drive volume_now).image) (drive_after drive volume_now).marks.reserved (each_format old.format) (has.sound_drive sound_now).well_formed in
      (checked (drive_after drive volume_now).image).1 (subst (λ (g : Format). IsWellFormed (dpb_of g) (entries_of (drive_after drive volume_now).image) (reserved_at_login (dpb_of g) (entries_of (drive_after drive volume_now).image))) (sym has.format) wf)

  -- ---- no record has changed but in the file's blocks
  on_entries : (b : ℕ) → IsOpenBlockOf (entries_of drive.image) user name fcb.extent b → IsBlockOf (entries_of (drive_after drive volume_now).image) user name b
  unfolding after volume_of
  on_entries b own =
      subst (λ es. IsBlockOf es user name b) (sym entries_are) (crossing.block_now (dpb_of old.format) user name (volume_of drive.image drive.marks.reserved) fcb.extent fcb.current_record live writing.sound writing.appending.at_end b own)

  own : (n : ℕ) → directory_records (dpb_of old.format) ≤ n → (get_or (records_of (drive_after drive volume_now).image) n [] ≡ get_or (records_of old) n []) ⊎ IsBlockOf (entries_of (drive_after drive volume_now).image) user name (block_of_record (dpb_of old.format) n)
  unfolding volume_now with_entry volume_of
  own n h =
      elim (writing.own n h) [ inl was ↦ inl (has.records n h ∙ was) | inr block ↦ inr (on_entries _ block) ]

  put : IsPut old user name bytes (drive_after drive volume_now).image
  put = record {
    sound_before = sound_before;
    allowed = allowed;
    file = record {
      there = (writing.sound.kept.index, ap (λ es. is_named user name (entry_at es writing.sound.kept.index)) entries_are ∙ named_now);
      attributes = rw entries_are names_now;
      records = on_disk;
    };
    others = record {
      format = keeps.format;
      entries = keeps.entries.stay;
      no_more = keeps.entries.no_more;
      records = keeps.records;
      system = keeps.system;
    };
    blocks = record { records = own };
    sound = sound_after;
  }

  pub closes_put : (code : Result (Option ℕ) Fault) (drive' : Drive) (fcb' : Fcb) → closed_file code drive' fcb' ≡ after_close drive fcb (close_file_on_volume (dpb_of drive.image.format) drive.marks.is_protected (entries_of drive.image) user fcb.extent) → (is_ok code ≡ true) × IsPut old user name bytes drive'.image
  unfolding after_close close_answer drive_closed volume_now
  closes_put code drive' fcb' e =
      let answered : close_file_on_volume (dpb_of drive.image.format) drive.marks.is_protected (entries_of drive.image) user fcb.extent ≡ closed writing.sound.kept.index after fcb.extent = subst (λ (g : Format). close_file_on_volume (dpb_of g) drive.marks.is_protected (entries_of drive.image) user fcb.extent ≡ closed writing.sound.kept.index after fcb.extent) (sym writing.keeps.format) (ap (λ p. close_file_on_volume (dpb_of old.format) p (entries_of drive.image) user fcb.extent) writing.keeps.writable.free ∙ answer) in
      let is : closed_file code drive' fcb' ≡ closed_file (Ok (Some (directory_code writing.sound.kept.index))) (drive_after drive volume_now) (record fcb { extent = fcb.extent }) = rw answered at e in
      (ap (λ (c : ClosedFile). is_ok c.code) is, subst (λ (c : ClosedFile). IsPut old user name bytes c.drive.image) (sym is) put)
