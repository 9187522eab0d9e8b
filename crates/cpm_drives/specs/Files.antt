-- The calls on files. Each is a call of its drive's.
-- CP/M 2.2 Operating System Manual, section 5.2, Operating System Call Conventions, functions 15, 16, 19 to 23, 30, 33 to 36 and 40;
-- own: what the manual leaves open.
use Rattle.std.specs.Prelude.{ℕ, ◌+◌, ◌*◌, ◌/◌, ◌%◌, ◌==◌, List, [], ◌∷◌, Option, Result, Ok, Err, if◌then◌else◌, slice_index, unwrap_or, is_some}
use Rattle.cpm_geom.specs.Disk.{Disk}
use Rattle.cpm_geom.specs.Geometry.{dpb_of}
use Rattle.cpm_volume.specs.declared.fcb.Fcb.{Fcb}
use Rattle.cpm_volume.specs.declared.answer.Fault.TheVariants.{FileReadOnly, Select}
use Rattle.cpm_volume.specs.declared.answer.Answer.{Answer}
use Rattle.cpm_volume.specs.declared.answer.Answer.TheVariants as answer
use Rattle.cpm_volume.specs.Files.{extent_number, first_free}
use Rattle.cpm_volume.specs.Operations as operations
use Rattle.cpm_volume.specs.Names.{NameOutcome, none_named, file_read_only, named}
use Rattle.cpm_volume.specs.Names as names
use Rattle.cpm_directory.specs.Directory.{entries_of}
use Rattle.cpm_drive.specs.declared.drive.Drive.{Drive}
use Rattle.cpm_drive.specs.Drive.{volume_of, drive_after, CallResult, after_call}
use Rattle.cpm_drive.specs.Calls.{ClosedFile, after_close, after_open, open_index, MadeFile, after_make}
use Rattle.cpm_drive.specs.Reads.{ahead, lent_drive}
use Rattle.cpm_drives.specs.declared.disks.Disks.{Disks}
use Rattle.cpm_drives.specs.Disks.{is_there, own_drive, drive_or}
use Rattle.cpm_drives.specs.Calls.{code_of_answer, code_or_none, code_or_fault, OnDrive, on_drive}
use Rattle.cpm_drives.specs.Calls.{unless_protected, unless_read_only, FileCall, drive_named, on_named_drive}

-- ---- on a drive

abbrev pub by_open : Drive → List ℕ → Option ℕ × Fcb → OnDrive
by_open drive buffer o = on_drive (code_or_none o.0) drive o.1 buffer

-- OPEN FILE
unfoldable pub open_file_on : ℕ → Fcb → List ℕ → Drive → OnDrive
open_file_on user fcb buffer drive =
    by_open drive buffer (after_open fcb (open_index (dpb_of drive.image.format) (entries_of drive.image) user fcb.extent)
    (operations.open_file_on_volume (dpb_of drive.image.format) (entries_of drive.image) user fcb.extent))

abbrev pub by_close : List ℕ → ClosedFile → OnDrive
by_close buffer c = on_drive (code_or_fault c.code) c.drive c.fcb buffer

-- CLOSE FILE
unfoldable pub close_file_on : ℕ → Fcb → List ℕ → Drive → OnDrive
close_file_on user fcb buffer drive =
    by_close buffer (after_close drive fcb
    (operations.close_file_on_volume (dpb_of drive.image.format) drive.marks.is_protected (entries_of drive.image) user fcb.extent))

abbrev pub by_make : List ℕ → MadeFile → OnDrive
by_make buffer m = on_drive (code_or_none m.code) m.drive m.fcb buffer

-- MAKE FILE
unfoldable pub make_file_on : ℕ → Fcb → List ℕ → Drive → OnDrive
make_file_on user fcb buffer drive =
    unless_protected drive fcb buffer
    (by_make buffer (after_make drive fcb (first_free (entries_of drive.image)) (operations.make_file_on_volume (entries_of drive.image) user fcb.extent)))

-- a call on all entries of a name
abbrev pub by_named : Drive → Fcb → List ℕ → NameOutcome → OnDrive
by_named drive fcb buffer none_named = on_drive (Ok 0xFF) drive fcb buffer
by_named drive fcb buffer file_read_only = on_drive (Err FileReadOnly) drive fcb buffer
by_named drive fcb buffer (named first volume) = on_drive (Ok (first % 4)) (drive_after drive volume) fcb buffer

-- DELETE FILE
unfoldable pub erase_files_on : ℕ → Fcb → List ℕ → Drive → OnDrive
erase_files_on user fcb buffer drive =
    unless_protected drive fcb buffer
    (by_named drive fcb buffer (names.erase_files_on_volume (dpb_of drive.image.format) (volume_of drive.image drive.marks.reserved) user fcb.extent.name))

-- RENAME FILE
unfoldable pub rename_files_on : List ℕ → ℕ → Fcb → List ℕ → Drive → OnDrive
rename_files_on new_name user fcb buffer drive =
    unless_protected drive fcb buffer
    (by_named drive fcb buffer (names.rename_files_on_volume (volume_of drive.image drive.marks.reserved) user fcb.extent.name new_name))

-- SET FILE ATTRIBUTES
unfoldable pub set_attributes_on : ℕ → Fcb → List ℕ → Drive → OnDrive
set_attributes_on user fcb buffer drive =
    unless_protected drive fcb buffer
    (by_named drive fcb buffer (names.set_attributes_on_volume (volume_of drive.image drive.marks.reserved) user fcb.extent.name))

-- a call on a record
abbrev pub by_record : CallResult → OnDrive
by_record c = on_drive (code_of_answer c.answer) c.drive c.fcb c.buffer

-- READ SEQUENTIAL
unfoldable pub read_next_on : ℕ → Fcb → List ℕ → Drive → OnDrive
read_next_on user fcb buffer drive =
    by_record (after_call drive fcb buffer (operations.read_next_on_volume (dpb_of drive.image.format) drive.marks.is_protected
    (volume_of drive.image drive.marks.reserved) user fcb.extent fcb.current_record))

-- WRITE SEQUENTIAL
unfoldable pub write_next_on : ℕ → Fcb → List ℕ → Drive → OnDrive
write_next_on user fcb buffer drive =
    unless_protected drive fcb buffer (unless_read_only drive fcb buffer (by_record (after_call drive fcb buffer
    (operations.write_next_on_volume (dpb_of drive.image.format) (volume_of drive.image drive.marks.reserved) user fcb.extent fcb.current_record buffer))))

-- the random record's number, of r0 and r1
unfoldable pub random_number : Fcb → ℕ
random_number fcb = slice_index fcb.random_record 0 + 256 * slice_index fcb.random_record 1

-- with r2 it is past the end of any disk
abbrev pub unless_past : Drive → Fcb → List ℕ → OnDrive → OnDrive
unless_past drive fcb buffer call = if slice_index fcb.random_record 2 == 0 then call else on_drive (Ok 6) drive fcb buffer

-- READ RANDOM
unfoldable pub read_random_on : ℕ → Fcb → List ℕ → Drive → OnDrive
read_random_on user fcb buffer drive =
    unless_past drive fcb buffer (by_record (after_call drive fcb buffer (operations.read_random_on_volume (dpb_of drive.image.format) drive.marks.is_protected
    (volume_of drive.image drive.marks.reserved) user fcb.extent fcb.current_record (random_number fcb))))

-- WRITE RANDOM
unfoldable pub write_random_on : ℕ → Fcb → List ℕ → Drive → OnDrive
write_random_on user fcb buffer drive =
    unless_protected drive fcb buffer (unless_read_only drive fcb buffer
    (unless_past drive fcb buffer (by_record (after_call drive fcb buffer (operations.write_random_on_volume (dpb_of drive.image.format)
    (volume_of drive.image drive.marks.reserved) user fcb.extent fcb.current_record (random_number fcb) buffer)))))

-- WRITE RANDOM WITH ZERO FILL
unfoldable pub write_random_cleared_on : ℕ → Fcb → List ℕ → Drive → OnDrive
write_random_cleared_on user fcb buffer drive =
    unless_protected drive fcb buffer (unless_read_only drive fcb buffer
    (unless_past drive fcb buffer (by_record (after_call drive fcb buffer (operations.write_random_cleared_on_volume (dpb_of drive.image.format)
    (volume_of drive.image drive.marks.reserved) user fcb.extent fcb.current_record (random_number fcb) buffer)))))

-- the random record of a number, low byte first
unfoldable pub with_random : Fcb → ℕ → Fcb
with_random fcb n =
    record fcb { random_record = n % 256 ∷ n / 256 % 256 ∷ n / 65536 ∷ [] }

-- COMPUTE FILE SIZE; own: 0 and the code FFh where there is no such file
unfoldable pub compute_size_on : ℕ → Fcb → List ℕ → Drive → OnDrive
compute_size_on user fcb buffer drive =
    let size = names.compute_size_on_volume (entries_of drive.image) user fcb.extent.name in
    on_drive (Ok (if is_some size then 0 else 0xFF)) drive (with_random fcb (unwrap_or size 0)) buffer

-- SET RANDOM RECORD: the record that the file control block stands at
unfoldable pub set_random_record_on : Fcb → List ℕ → Drive → OnDrive
set_random_record_on fcb buffer drive =
    on_drive (Ok 0) drive (with_random fcb (128 * extent_number fcb.extent + fcb.current_record)) buffer

-- ---- in a session

-- a drive with the marks that it has now
unfoldable pub marked_drive : Disks → Disk → ℕ → Drive
marked_drive disks system n = drive_or (lent_drive system disks.system) (own_drive disks n)

-- what READ SEQUENTIAL would give now, on a drive that was used before; one that is not there gives its fault
unfoldable pub next_ahead : Disks → Disk → Fcb → Result (List ℕ) Answer
next_ahead disks system fcb =
    let n = drive_named disks fcb.drive in
    if is_there disks n then ahead (marked_drive disks system n) disks.user fcb else Err (answer.Fault Select)

unfoldable pub open_file : Disks → Disk → Fcb → List ℕ → FileCall
open_file disks system fcb buffer = on_named_drive (open_file_on disks.user fcb buffer) disks system fcb buffer

unfoldable pub close_file : Disks → Disk → Fcb → List ℕ → FileCall
close_file disks system fcb buffer = on_named_drive (close_file_on disks.user fcb buffer) disks system fcb buffer

unfoldable pub make_file : Disks → Disk → Fcb → List ℕ → FileCall
make_file disks system fcb buffer = on_named_drive (make_file_on disks.user fcb buffer) disks system fcb buffer

unfoldable pub erase_files : Disks → Disk → Fcb → List ℕ → FileCall
erase_files disks system fcb buffer = on_named_drive (erase_files_on disks.user fcb buffer) disks system fcb buffer

unfoldable pub rename_files : List ℕ → Disks → Disk → Fcb → List ℕ → FileCall
rename_files new_name disks system fcb buffer = on_named_drive (rename_files_on new_name disks.user fcb buffer) disks system fcb buffer

unfoldable pub set_attributes : Disks → Disk → Fcb → List ℕ → FileCall
set_attributes disks system fcb buffer = on_named_drive (set_attributes_on disks.user fcb buffer) disks system fcb buffer

unfoldable pub read_next : Disks → Disk → Fcb → List ℕ → FileCall
read_next disks system fcb buffer = on_named_drive (read_next_on disks.user fcb buffer) disks system fcb buffer

unfoldable pub write_next : Disks → Disk → Fcb → List ℕ → FileCall
write_next disks system fcb buffer = on_named_drive (write_next_on disks.user fcb buffer) disks system fcb buffer

unfoldable pub read_random : Disks → Disk → Fcb → List ℕ → FileCall
read_random disks system fcb buffer = on_named_drive (read_random_on disks.user fcb buffer) disks system fcb buffer

unfoldable pub write_random : Disks → Disk → Fcb → List ℕ → FileCall
write_random disks system fcb buffer = on_named_drive (write_random_on disks.user fcb buffer) disks system fcb buffer

unfoldable pub write_random_cleared : Disks → Disk → Fcb → List ℕ → FileCall
write_random_cleared disks system fcb buffer = on_named_drive (write_random_cleared_on disks.user fcb buffer) disks system fcb buffer

unfoldable pub compute_size : Disks → Disk → Fcb → List ℕ → FileCall
compute_size disks system fcb buffer = on_named_drive (compute_size_on disks.user fcb buffer) disks system fcb buffer

unfoldable pub set_random_record : Disks → Disk → Fcb → List ℕ → FileCall
set_random_record disks system fcb buffer = on_named_drive (set_random_record_on fcb buffer) disks system fcb buffer
