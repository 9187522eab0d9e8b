-- What a read gives, and what it comes to before anything is written.
use Rattle.std.specs.Prelude.{◌≡◌, ◌≢◌, ◌≤◌, ℕ, List, [], Option, Some, None, Result, Ok, Err, slice_index_or}
use Rattle.cpm_geom.specs.Geometry.{dpb_of}
use Rattle.cpm_geom.specs.Disk.{Disk, records_of}
use Rattle.cpm_volume.specs.declared.fcb.Fcb.{Fcb}
use Rattle.cpm_volume.specs.declared.answer.Answer.{Answer}
use Rattle.cpm_volume.specs.declared.answer.Answer.TheVariants.{Done as done}
use Rattle.cpm_volume.specs.Files.{deleted, IsSound, open_file_record}
use Rattle.cpm_volume.specs.Operations.{VolumeOutcome, read_next_on_volume}
use Rattle.cpm_directory.specs.Directory.{entries_of}
use Rattle.cpm_drive.specs.declared.drive.Drive.{Drive}
use Rattle.cpm_drive.specs.declared.drive.Marks.{Marks}
use Rattle.cpm_drive.specs.declared.reading.Reading.{Reading}
use Rattle.cpm_drive.specs.Drive.{volume_of, drive_after, CallResult, call_result, buffer_after}
use Rattle.cpm_drive.specs.Judged.{with_change}

-- a read that is done on a drive and a file control block that agree with each other gives record n of the file
abbrev pub GivesRecord : Drive → ℕ → Fcb → ℕ → Answer → List ℕ → Type 0
GivesRecord drive user fcb n answer buffer =
    user ≢ deleted → IsSound (dpb_of drive.image.format) (volume_of drive.image drive.marks.reserved) user fcb.extent → fcb.current_record ≤ 128
    → answer ≡ done → open_file_record (dpb_of drive.image.format) (entries_of drive.image) (records_of drive.image) user fcb.extent n ≡ Some buffer

-- what a read comes to beside the drive: its answer, the file control block and the number of its record
pub record RecordRead : Type 0 where
  pub answer : Answer
  pub fcb : Fcb
  pub read : Option ℕ

unfoldable pub after_record : Fcb → VolumeOutcome → RecordRead
after_record fcb o =
    record { answer = o.answer; fcb = record fcb { extent = o.extent; current_record = o.current }; read = o.read }

-- the number of a record that is found, or an answer without one
abbrev pub read_answer_of : Result ℕ Answer → Answer
read_answer_of (Ok number) = done
read_answer_of (Err answer) = answer

abbrev pub read_of : Result ℕ Answer → Option ℕ
read_of (Ok number) = Some number
read_of (Err answer) = None

abbrev pub record_found : Result ℕ Answer → Fcb → RecordRead
record_found found fcb = record { answer = read_answer_of found; fcb = fcb; read = read_of found }

-- what a sequential read would give now: the record as it lies on the disk, or the answer without one
abbrev pub record_ahead : Disk → Answer → Option ℕ → Result (List ℕ) Answer
record_ahead disk answer None = Err answer
record_ahead disk answer (Some n) = Ok (slice_index_or (records_of disk) n [])

unfoldable pub ahead : Drive → ℕ → Fcb → Result (List ℕ) Answer
ahead drive user fcb =
    let o = read_next_on_volume (dpb_of drive.image.format) drive.marks.is_protected
    (volume_of drive.image drive.marks.reserved) user fcb.extent fcb.current_record in
    record_ahead drive.image o.answer o.read

-- a drive of an image and marks that are lent
abbrev pub lent_drive : Disk → Marks → Drive
lent_drive image marks = record { image = image; marks = marks }

-- the drive once the entry that a read closed is written
abbrev pub drive_read : Drive → Reading → Drive
drive_read drive reading =
    drive_after drive (with_change (volume_of drive.image drive.marks.reserved) reading.closed)

-- what a read leaves then
unfoldable pub after_reading : Drive → Reading → Fcb → List ℕ → CallResult
after_reading drive reading fcb buffer =
    call_result (read_answer_of reading.found) (drive_read drive reading) fcb (buffer_after (drive_read drive reading).image (read_of reading.found) buffer)
