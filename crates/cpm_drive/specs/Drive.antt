-- A drive with its marks, and what the calls on files leave of it.
use Rattle.std.specs.Prelude.{ℕ, ◌+◌, ◌/◌, ◌%◌, Bool, false, if◌then◌else◌, List, [], ◌∷◌, Option, Some, None, replicate, slice_index_or}
use Rattle.cpm_geom.specs.declared.format.Format.{Format}
use Rattle.cpm_geom.specs.Geometry.{dpb_of, record_index}
use Rattle.cpm_geom.specs.Disk.{Disk, records_of, sector_at, with_sector}
use Rattle.cpm_volume.specs.declared.fcb.Fcb.{Fcb}
use Rattle.cpm_volume.specs.declared.answer.Answer.{Answer}
use Rattle.cpm_volume.specs.Encoding.{entry_bytes}
use Rattle.cpm_volume.specs.Files.{Volume, DiskWrite, entry_put, record_put}
use Rattle.cpm_volume.specs.Operations.{VolumeOutcome}
use Rattle.cpm_directory.specs.Directory.{entries_of, record_with_entry}
use Rattle.cpm_drive.specs.declared.drive.Drive.{Drive}
use Rattle.cpm_drive.specs.declared.drive.Marks.{Marks}

-- CP/M 2.2 Operating System Manual, section 5.2, Operating System Call Conventions: the code of an entry is its place in its record of four
abbrev pub directory_code : ℕ → ℕ
directory_code index = index % 4

-- own: before the first login no block is reserved
abbrev pub new_marks : Format → Bool → Marks
new_marks f protected =
    record { reserved = replicate ((dpb_of f).last_block + 1) false; is_logged_in = false; is_protected = protected }

-- what lies on a disk, by its directory, its records and the blocks that are reserved
unfoldable pub volume_of : Disk → List Bool → Volume
volume_of disk reserved = record { entries = entries_of disk; reserved = reserved; records = records_of disk; written = [] }

-- one entry of the directory, or one record, written to a disk
unfoldable pub after_write : DiskWrite → Disk → Disk
after_write (entry_put index e) disk =
    with_sector disk (record_index disk.format (index / 4))
    (record_with_entry (sector_at disk (record_index disk.format (index / 4))) (index % 4) (entry_bytes (dpb_of disk.format) e))
after_write (record_put n bytes) disk = with_sector disk (record_index disk.format n) bytes

-- one after the other
unfoldable pub after_writes : List DiskWrite → Disk → Disk
after_writes [] disk = disk
after_writes (w ∷ ws) disk = after_writes ws (after_write w disk)

-- own: a protected drive is never written
unfoldable pub drive_after : Drive → Volume → Drive
drive_after drive v =
    record drive {
      image = if drive.marks.is_protected then drive.image else after_writes v.written drive.image;
      marks = record drive.marks { reserved = v.reserved };
    }

-- what a call on a record of a file leaves: its answer, the drive, the file control block and the buffer of a record
pub record CallResult : Type 0 where
  pub answer : Answer
  pub drive : Drive
  pub fcb : Fcb
  pub buffer : List ℕ

abbrev pub call_result : Answer → Drive → Fcb → List ℕ → CallResult
call_result answer drive fcb buffer = record { answer = answer; drive = drive; fcb = fcb; buffer = buffer }

-- a record that was read lies in the buffer, as the disk has it
abbrev pub buffer_after : Disk → Option ℕ → List ℕ → List ℕ
buffer_after disk None buffer = buffer
buffer_after disk (Some n) buffer = slice_index_or (records_of disk) n []

-- by the outcome on the drive's volume: what is written reaches the disk before a record is read
unfoldable pub after_call : Drive → Fcb → List ℕ → VolumeOutcome → CallResult
after_call drive fcb buffer o =
    call_result o.answer (drive_after drive o.volume) (record fcb { extent = o.extent; current_record = o.current })
    (buffer_after (drive_after drive o.volume).image o.read buffer)
