-- The functions on the drives of a session.
-- CP/M 2.2 Operating System Manual, section 5.2, Operating System Call Conventions, functions 13 to 37 and 40.
use Rattle.std.specs.Prelude.{ℕ, ◌%◌, ◌==◌, List, [], ◌∷◌, Result, Ok, Err, if◌then◌else◌, slice_index, take}
use Rattle.cpm_geom.specs.Disk.{Disk}
use Rattle.cpm_geom.specs.declared.format.Format.{Format}
use Rattle.cpm_volume.specs.declared.answer.Fault.{Fault}
use Rattle.cpm_memory.specs.Contents.{Contents, run_at, after_run}
use Rattle.cpm_memory.specs.Layout.{default_buffer_address}
use Rattle.cpm_memory.specs.DiskTables.{allocation_vector_address, header_address}
use Rattle.cpm_drives.specs.declared.disks.Disks.{Disks}
use Rattle.cpm_drives.specs.declared.function.FileFunction.{FileFunction}
use Rattle.cpm_drives.specs.Disks.{drive_at}
use Rattle.cpm_drives.specs.Selecting.{drive_in_use, DriveChoice, select, reset}
use Rattle.cpm_drives.specs.Calls.{drive_named}
use Rattle.cpm_drives.specs.Functions.{BytesCall, file_function_bytes}
use Rattle.cpm_drives.specs.Vectors.{allocation_of}
use Rattle.cpm_bdos.specs.Registers.{pair_de}
use Rattle.cpm_bdos.specs.StepResult.{StepResult, answered}
use Rattle.cpm_bdos.specs.Faults.{faulted}
use Rattle.cpm_bdos.specs.declared.session.Session.{Session}

abbrev pub with_disks : Session → Disks → Session
with_disks s disks = record s { disks = disks }

-- a call ends with its code, or in its fault on a drive
abbrev pub by_answer : Result ℕ Fault → ℕ → Session → Contents → StepResult
by_answer (Ok code) drive s m = answered s m code
by_answer (Err which) drive s m = faulted s m which drive

-- a file control block in memory has 36 bytes, and a record 128
abbrev pub fcb_size : ℕ
fcb_size = 36

abbrev pub record_size : ℕ
record_size = 128

-- own: of a file control block only the bytes that the call changed are stored
abbrev pub changed_bytes : List ℕ → List ℕ → List ℕ → List ℕ
changed_bytes (was ∷ old) (is ∷ new) (there ∷ now) = (if was == is then there else is) ∷ changed_bytes old new now
changed_bytes _ _ _ = []

abbrev pub fcb_stored : Contents → ℕ → List ℕ → List ℕ → Contents
fcb_stored m at old new = after_run m at (changed_bytes old new (run_at m at fcb_size))

-- of a record its 128 bytes, each where it changes
abbrev pub record_stored : Contents → ℕ → List ℕ → Contents
record_stored m at bytes = after_run m at (take record_size bytes)

-- own: the record is stored first, and then the file control block
abbrev pub call_stored : Contents → ℕ → ℕ → List ℕ → BytesCall → Contents
call_stored m buffer at old c = fcb_stored (record_stored m buffer c.buffer) at old c.bytes

abbrev pub called_on : Session → Contents → ℕ → List ℕ → BytesCall → StepResult
called_on s m at old c =
    by_answer c.answer (drive_named s.disks (slice_index old 0)) (with_disks s c.disks) (call_stored m s.buffer at old c)

-- a function on the file control block at DE and the record at the buffer
unfoldable pub call_file_function : FileFunction → Disk → Session → Contents → StepResult
call_file_function f system s m =
    let at = pair_de s.regs in
    called_on s m at (run_at m at fcb_size) (file_function_bytes f s.disks system (run_at m at fcb_size) (run_at m s.buffer record_size))

-- own: where the BIOS keeps its tables of a drive, A to D and then P
abbrev pub bios_table_of : ℕ → ℕ
bios_table_of drive = if drive == 15 then 4 else drive

-- where the allocation vector of a drive lies
abbrev pub vector_of : ℕ → ℕ
vector_of drive = allocation_vector_address (bios_table_of drive) % 65536

-- where the disk parameter header of a drive lies, by the format of its disk
abbrev pub header_of : Format → ℕ → ℕ
header_of f drive = header_address f (bios_table_of drive) % 65536

-- the format of the disk in a drive that is there
abbrev pub format_in : Disks → Disk → ℕ → Format
format_in disks system drive = (drive_at disks system drive).image.format

-- RESET DISK SYSTEM: the buffer is again at 0080h
abbrev pub reset_disks : Disk → Session → Contents → StepResult
reset_disks system s m = answered (record s { disks = reset s.disks system; buffer = default_buffer_address }) m 0

-- SELECT DISK: the drive in E
abbrev pub disk_selected : ℕ → Session → Contents → DriveChoice → StepResult
disk_selected drive s m c = by_answer c.answer drive (with_disks s c.disks) m

unfoldable pub select_disk : Disk → Session → Contents → StepResult
select_disk system s m = disk_selected s.regs.e s m (select s.disks system s.regs.e)

-- GET ADDR(ALLOC): the current drive is used, and its vector stored where HL then points
unfoldable pub give_allocation : Disk → Session → Contents → StepResult
give_allocation system s m =
    let at = vector_of s.disks.current in
    let disks = drive_in_use s.disks system s.disks.current in
    answered (with_disks s disks) (after_run m at (allocation_of (drive_at disks system s.disks.current))) at

-- SET/GET USER CODE: FFh asks for it
unfoldable pub user_code : Session → Contents → StepResult
user_code s m =
    if s.regs.e == 0xFF then answered s m s.disks.user else answered (with_disks s (record s.disks { user = s.regs.e % 32 })) m 0
