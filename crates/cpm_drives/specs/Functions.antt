-- The functions on a file control block as bytes of memory.
use Rattle.std.specs.Prelude.{ℕ, List, Result, slice_index, slice_range}
use Rattle.cpm_geom.specs.Disk.{Disk}
use Rattle.cpm_geom.specs.Geometry.{dpb_of}
use Rattle.cpm_geom.specs.declared.dpb.Dpb.{Dpb}
use Rattle.cpm_volume.specs.declared.fcb.Fcb.{Fcb}
use Rattle.cpm_volume.specs.declared.answer.Fault.{Fault}
use Rattle.cpm_volume.specs.Encoding.{fcb_of, fcb_bytes}
use Rattle.cpm_drives.specs.declared.disks.Disks.{Disks}
use Rattle.cpm_drives.specs.declared.function.FileFunction.{FileFunction}
use Rattle.cpm_drives.specs.declared.function.FileFunction.TheVariants.{OpenFile, CloseFile, SearchFirst, SearchNext, EraseFiles, ReadNext}
use Rattle.cpm_drives.specs.declared.function.FileFunction.TheVariants.{WriteNext, MakeFile, RenameFiles, SetAttributes, ReadRandom}
use Rattle.cpm_drives.specs.declared.function.FileFunction.TheVariants.{WriteRandom, ComputeSize, SetRandomRecord, WriteRandomCleared}
use Rattle.cpm_drives.specs.Disks.{drive_at}
use Rattle.cpm_drives.specs.Calls.{FileCall, drive_named}
use Rattle.cpm_drives.specs.Files.{open_file, close_file, make_file, erase_files, rename_files, set_attributes, read_next}
use Rattle.cpm_drives.specs.Files.{write_next, read_random, write_random, write_random_cleared, compute_size, set_random_record}
use Rattle.cpm_drives.specs.Search.{search_first, search_next}

-- CP/M 2.2 Operating System Manual, section 6.10, Disk Parameter Tables: the block numbers in a file control block are those of the drive that it names,
-- bytes or words; own: where there is no such drive they are read as the system drive's, and stay as they are
unfoldable pub dpb_named : Disks → Disk → ℕ → Dpb
dpb_named disks system dr = dpb_of (drive_at disks system (drive_named disks dr)).image.format

-- RENAME FILE: the new name is that of a second block, 16 bytes after the first
abbrev pub new_name : List ℕ → List ℕ
new_name bytes = slice_range bytes 17 28

-- CP/M 2.2 Operating System Manual, section 5.2, Operating System Call Conventions: each function, over the 36 bytes of a file control block
unfoldable pub file_function : FileFunction → List ℕ → Disks → Disk → Fcb → List ℕ → FileCall
file_function OpenFile bytes = open_file
file_function CloseFile bytes = close_file
file_function SearchFirst bytes = search_first
file_function SearchNext bytes = search_next
file_function EraseFiles bytes = erase_files
file_function ReadNext bytes = read_next
file_function WriteNext bytes = write_next
file_function MakeFile bytes = make_file
file_function RenameFiles bytes = rename_files (new_name bytes)
file_function SetAttributes bytes = set_attributes
file_function ReadRandom bytes = read_random
file_function WriteRandom bytes = write_random
file_function ComputeSize bytes = compute_size
file_function SetRandomRecord bytes = set_random_record
file_function WriteRandomCleared bytes = write_random_cleared

-- what it leaves: its code or its fault, the drives, the bytes of the file control block, and the buffer of a record
pub record BytesCall : Type 0 where
  pub answer : Result ℕ Fault
  pub disks : Disks
  pub bytes : List ℕ
  pub buffer : List ℕ

abbrev pub bytes_call : Result ℕ Fault → Disks → List ℕ → List ℕ → BytesCall
bytes_call answer disks bytes buffer = record { answer = answer; disks = disks; bytes = bytes; buffer = buffer }

abbrev pub in_bytes : Dpb → FileCall → BytesCall
in_bytes d c = bytes_call c.answer c.disks (fcb_bytes d c.fcb) c.buffer

unfoldable pub file_function_bytes : FileFunction → Disks → Disk → List ℕ → List ℕ → BytesCall
file_function_bytes f disks system bytes buffer =
    let d = dpb_named disks system (slice_index bytes 0) in
    in_bytes d (file_function f bytes disks system (fcb_of d bytes) buffer)
