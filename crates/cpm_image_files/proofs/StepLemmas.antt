-- A record is written at the end of the file that is put on a disk.
use Rattle.std.proofs.Common.{◌≡◌, ◌≢◌, ℕ, ◌⊎◌, ◌+◌, ◌<◌, ◌≤◌, true, List, [], Some, get_or, length, sym, subst, ap, ◌∙◌, inl, inr, arith}
use Rattle.std.proofs.lemmas.Bool.{cases_eq}
use Rattle.cpm_geom.specs.declared.dpb.Dpb.{Dpb}
use Rattle.cpm_geom.specs.declared.format.Format.{Format}
use Rattle.cpm_geom.specs.Geometry.{dpb_of}
use Rattle.cpm_geom.specs.Disk.{Disk, records_of}
use Rattle.cpm_volume.specs.declared.extent.Extent.{Extent}
use Rattle.cpm_volume.specs.declared.fcb.Fcb.{Fcb}
use Rattle.cpm_volume.specs.declared.answer.Answer.{Answer}
use Rattle.cpm_volume.specs.declared.answer.Answer.TheVariants.{Done as done, NoRecord as no_record, NoBlock as no_block}
use Rattle.cpm_volume.specs.Files.{deleted, directory_records, same_name, file_record, open_file_record, Volume}
use Rattle.cpm_volume.specs.Encoding.{AreBytes}
use Rattle.cpm_volume.specs.Operations.{VolumeOutcome, write_next_on_volume}
use Rattle.cpm_volume.specs.Laws.{position, HasDone, StaysSound}
use Rattle.cpm_volume.proofs.Formats.{each_format}
use Rattle.cpm_volume.proofs.Sequential.{writes_next}
use Rattle.cpm_directory.specs.Directory.{entries_of}
use Rattle.cpm_drive.specs.declared.drive.Drive.{Drive}
use Rattle.cpm_drive.specs.Drive.{volume_of, drive_after, CallResult, call_result, after_call}
use Rattle.cpm_drive.specs.Laws.{IsOfBytes, CallsReach, OutcomeReaches}
use Rattle.cpm_drive.proofs.DiskReach.{calls_reach}
use Rattle.cpm_image_files.specs.ImageFiles.{record_of_bytes, block_of_record, records_for, entries_for, blocks_for, free_entries, free_blocks}
use Rattle.cpm_image_files.specs.Appending.{unused, unreserved, entries_begun, blocks_begun, IsAppending, IsAppended, IsOpenBlockOf}
use Rattle.cpm_image_files.specs.Writing.{HasRoomForFile, IsWriting}
use Rattle.cpm_image_files.proofs.Amounts.{entries_grow, blocks_grow, entries_less, blocks_less, room_small}
use Rattle.cpm_image_files.proofs.RecordLemmas.{is_record}
use Rattle.cpm_image_files.proofs.DiskLemmas.{HasVolume, has_volume, keeps_on}
use Rattle.cpm_image_files.proofs.AppendingLemmas.{appends}

-- where a file control block stands depends on the entries alone
pub appending_on : (d : Dpb) (user : ℕ) (name : List ℕ) (v v' : Volume) (x : Extent) (current : ℕ) → v'.entries ≡ v.entries → IsAppending d user name v x current → IsAppending d user name v' x current
appending_on d user name v v' x current e a = record {
  at_end = record {
    name_is = a.at_end.name_is;
    names = rw e a.at_end.names;
    last = rw e a.at_end.last;
    count = a.at_end.count;
    small = a.at_end.small;
    taken = a.at_end.taken;
    rest = a.at_end.rest;
  };
  begun = a.begun;
}

not_no_record : done ≢ no_record
not_no_record e = cc

not_no_block : done ≢ no_block
not_no_block e = cc

module _ (old : Disk) (user : ℕ) (name bytes : List ℕ) (count : ℕ) (drive : Drive) (fcb : Fcb) (record_bytes : List ℕ) (user_ok : user < 16) (writing : IsWriting old user name bytes count drive fcb) (room : HasRoomForFile (dpb_of old.format) (entries_of old) user name (records_for (length bytes))) (more : count < records_for (length bytes)) (is : Some record_bytes ≡ record_of_bytes bytes count) (are : AreBytes 128 record_bytes) where
  live : user ≢ deleted
  live e = absurd (omega arith)

  v : Volume
  v = volume_of drive.image drive.marks.reserved

  o : VolumeOutcome
  o = write_next_on_volume (dpb_of old.format) v user fcb.extent fcb.current_record record_bytes

  -- ---- it is done
  entries_due : entries_for (dpb_of old.format) count + entries_begun (dpb_of old.format) count ≤ free_entries user name (entries_of old)
  entries_due =
      let grow = entries_grow old.format count in
      let less = entries_less old.format (count + 1) (records_for (length bytes)) (omega arith) in
      let need = room.entries in
      omega arith

  blocks_due : blocks_for (dpb_of old.format) count + blocks_begun (dpb_of old.format) count ≤ free_blocks (dpb_of old.format) user name (entries_of old)
  blocks_due =
      let grow = blocks_grow old.format count in
      let less = blocks_less old.format (count + 1) (records_for (length bytes)) (omega arith) in
      let need = room.blocks in
      omega arith

  appended : IsAppended (dpb_of old.format) user name v fcb.extent (position fcb.extent fcb.current_record) o
  unfolding v o volume_of
  appended =
      let at = writing.count_is in
      let high = room_small old.format (entries_of old) user name (records_for (length bytes)) room in
      let entries = writing.entries_left in
      let blocks = writing.blocks_left in
      let begun = ap (entries_begun (dpb_of old.format)) at in
      let begun_block = ap (blocks_begun (dpb_of old.format)) at in
      elim ((appends (dpb_of old.format) user name (volume_of drive.image drive.marks.reserved) fcb.extent fcb.current_record record_bytes live (each_format old.format) writing.sound writing.appending).1 (omega arith)) [
        | inl there ↦ there
        | inr lacks ↦ elim lacks [
          | inl entry ↦ absurd (let due = entry.due in let none = entry.none in let need = entries_due in omega arith)
          | inr block ↦ absurd (let due = block.due in let none = block.none in let need = blocks_due in omega arith)
        ]
      ]

  written : StaysSound (dpb_of old.format) user v fcb.extent o × HasDone (dpb_of old.format) user v fcb.extent (position fcb.extent fcb.current_record) record_bytes (position fcb.extent fcb.current_record + 1) o
  unfolding v o
  written =
      let w = writes_next (dpb_of old.format) user (volume_of drive.image drive.marks.reserved) fcb.extent fcb.current_record record_bytes live (each_format old.format) writing.sound writing.appending.at_end.small in
      let answer = appended.answer in
      elim w.1 [
        | inl there ↦ (w.0, there)
        | inr rest ↦ elim rest [ inl entry ↦ absurd (not_no_record (sym answer ∙ entry.0)) | inr block ↦ absurd (not_no_block (sym answer ∙ block.0)) ]
      ]

  -- ---- the disk has it
  reaches : OutcomeReaches drive o
  unfolding v o
  reaches =
      let fits : IsOfBytes (dpb_of drive.image.format) fcb.extent = subst (λ (g : Format). IsOfBytes (dpb_of g) fcb.extent) (sym writing.keeps.format) writing.fits in
      let calls : CallsReach drive (dpb_of old.format) (volume_of drive.image drive.marks.reserved) user fcb.extent = subst (λ (g : Format). CallsReach drive (dpb_of g) (volume_of drive.image drive.marks.reserved) user fcb.extent) writing.keeps.format ((calls_reach drive writing.keeps.writable).0 user fcb.extent (omega arith) fits) in
      calls.sequential_write fcb.current_record record_bytes live writing.sound are

  has : HasVolume old.format (drive_after drive o.volume) o.volume
  has =
      has_volume old.format drive o.volume writing.keeps.format writing.keeps.writable.free reaches.disk

  others : (other : ℕ) (other_name : List ℕ) (m : ℕ) → other ≢ deleted → (other ≡ user → same_name other_name name ≡ true → ⊥) → file_record (dpb_of old.format) o.volume.entries o.volume.records other other_name m ≡ file_record (dpb_of old.format) (entries_of drive.image) (records_of drive.image) other other_name m
  unfolding v volume_of
  others other other_name m ok apart =
      written.0.others.stay other other_name m ok (λ u same. apart u (ap (same_name other_name) (sym writing.appending.at_end.name_is) ∙ same))

  old_record : (m : ℕ) → m < count → open_file_record (dpb_of old.format) v.entries v.records user fcb.extent m ≡ record_of_bytes bytes m
  unfolding v volume_of
  old_record m h = writing.records m h

  new_record : (m : ℕ) → m < count + 1 → open_file_record (dpb_of old.format) o.volume.entries o.volume.records user o.extent m ≡ record_of_bytes bytes m
  new_record m h =
      elim (cases_eq m count) [
        | inl same ↦
            let at : m ≡ position fcb.extent fcb.current_record = same ∙ sym writing.count_is in
            ap (λ k. open_file_record (dpb_of old.format) o.volume.entries o.volume.records user o.extent k) at ∙ (written.1.written.there ∙ (is ∙ ap (record_of_bytes bytes) (sym same)))
        | inr other ↦
            let before : m < count = omega arith in
            let was = old_record m before in
            written.1.written.others m (λ at. other (at ∙ writing.count_is)) (λ none. is_record bytes m (omega arith) (sym was ∙ none)) ∙ was
      ]

  -- ---- no record has changed but in the file's blocks
  on_disk : (b : ℕ) → IsOpenBlockOf o.volume.entries user name o.extent b → IsOpenBlockOf (entries_of (drive_after drive o.volume).image) user name o.extent b
  on_disk b own = subst (λ es. IsOpenBlockOf es user name o.extent b) (sym has.entries) own

  own : (n : ℕ) → directory_records (dpb_of old.format) ≤ n → (get_or (records_of (drive_after drive o.volume).image) n [] ≡ get_or (records_of old) n []) ⊎ IsOpenBlockOf (entries_of (drive_after drive o.volume).image) user name o.extent (block_of_record (dpb_of old.format) n)
  unfolding v volume_of
  own n h =
      elim (appended.own.records n) [
        | inr block ↦ inr (on_disk _ block)
        | inl same ↦ elim (writing.own n h) [
          | inl was ↦ inl (has.records n h ∙ (same ∙ was))
          | inr block ↦ inr (on_disk _ (appended.own.blocks _ block))
        ]
      ]

  after_fcb : Fcb
  after_fcb = record fcb { extent = o.extent; current_record = o.current }

  next : IsWriting old user name bytes (count + 1) (drive_after drive o.volume) after_fcb
  unfolding after_fcb v volume_of
  next = record {
    keeps = keeps_on old user name drive o.volume writing.keeps has appended.others (record { volume = written.0.sound.volume; well_formed = written.0.sound.well_formed }) others;
    fits = subst (λ (g : Format). IsOfBytes (dpb_of g) o.extent) writing.keeps.format reaches.extent;
    sound = has.sound user o.extent written.0.sound;
    appending = appending_on (dpb_of old.format) user name o.volume (volume_of (drive_after drive o.volume).image (drive_after drive o.volume).marks.reserved) o.extent o.current has.entries appended.appending;
    count_is = written.1.position_is ∙ ap (λ n. n + 1) writing.count_is;
    records = λ m h. has.opened user o.extent m live written.0.sound ∙ new_record m h;
    own = own;
    entries_left = (
        let now = ap unused has.entries in
        let due = appended.entries in
        let begun = ap (entries_begun (dpb_of old.format)) writing.count_is in
        let grow = entries_grow old.format count in
        let left = writing.entries_left in
        omega arith);
    blocks_left = (
        let now = ap unreserved has.reserved in
        let due = appended.blocks in
        let begun = ap (blocks_begun (dpb_of old.format)) writing.count_is in
        let grow = blocks_grow old.format count in
        let left = writing.blocks_left in
        omega arith);
  }

  pub wrote : (answer : Answer) (drive' : Drive) (fcb' : Fcb) → call_result answer drive' fcb' record_bytes ≡ after_call drive fcb record_bytes (write_next_on_volume (dpb_of drive.image.format) (volume_of drive.image drive.marks.reserved) user fcb.extent fcb.current_record record_bytes) → (answer ≡ done) × IsWriting old user name bytes (count + 1) drive' fcb'
  unfolding after_call after_fcb v o
  wrote answer drive' fcb' e =
      let same : call_result answer drive' fcb' record_bytes ≡ after_call drive fcb record_bytes (write_next_on_volume (dpb_of old.format) (volume_of drive.image drive.marks.reserved) user fcb.extent fcb.current_record record_bytes) = subst (λ (g : Format). call_result answer drive' fcb' record_bytes ≡ after_call drive fcb record_bytes (write_next_on_volume (dpb_of g) (volume_of drive.image drive.marks.reserved) user fcb.extent fcb.current_record record_bytes)) writing.keeps.format e in
      (ap (λ (c : CallResult). c.answer) same ∙ appended.answer, subst (λ (c : CallResult). IsWriting old user name bytes (count + 1) c.drive c.fcb) (sym same) next)
