-- What a call on a file leaves, on a drive and in a session.
use Rattle.std.specs.Prelude.{◌≡◌, ℕ, ◌-◌, ◌<◌, ◌==◌, true, List, is_some, Option, Some, None, Result, Ok, Err, if◌then◌else◌}
use Rattle.cpm_geom.specs.Disk.{Disk}
use Rattle.cpm_volume.specs.declared.fcb.Fcb.{Fcb}
use Rattle.cpm_volume.specs.declared.answer.Fault.{Fault}
use Rattle.cpm_volume.specs.declared.answer.Fault.TheVariants.{Select, FileReadOnly, ReadOnly}
use Rattle.cpm_volume.specs.declared.answer.Answer.{Answer}
use Rattle.cpm_volume.specs.declared.answer.Answer.TheVariants as answer
use Rattle.cpm_volume.specs.Names.{is_read_only}
use Rattle.cpm_drive.specs.declared.drive.Drive.{Drive}
use Rattle.cpm_drives.specs.declared.disks.Disks.{Disks}
use Rattle.cpm_drives.specs.Disks.{own_drive, is_there, drive_at, with_drive}
use Rattle.cpm_drives.specs.Selecting.{ready, drive_in_use}

-- CP/M 2.2 Operating System Manual, section 5.2, Operating System Call Conventions: the code of a record's call; own: where the manual leaves them open
abbrev pub code_of_answer : Answer → Result ℕ Fault
code_of_answer answer.Done = Ok 0
code_of_answer answer.NoRecord = Ok 1
code_of_answer answer.NoBlock = Ok 2
code_of_answer answer.CannotClose = Ok 3
code_of_answer answer.NoExtent = Ok 4
code_of_answer answer.NoEntryFree = Ok 5
code_of_answer (answer.Fault which) = Err which

-- a directory code, FFh for none
abbrev pub code_or_none : Option ℕ → Result ℕ Fault
code_or_none None = Ok 0xFF
code_or_none (Some code) = Ok code

abbrev pub code_or_fault : Result (Option ℕ) Fault → Result ℕ Fault
code_or_fault (Ok code) = code_or_none code
code_or_fault (Err which) = Err which

-- what a call leaves of the drive that it is on: its code or its fault, the drive, the file control block and the buffer of a record
pub record OnDrive : Type 0 where
  pub answer : Result ℕ Fault
  pub drive : Drive
  pub fcb : Fcb
  pub buffer : List ℕ

abbrev pub on_drive : Result ℕ Fault → Drive → Fcb → List ℕ → OnDrive
on_drive answer drive fcb buffer = record { answer = answer; drive = drive; fcb = fcb; buffer = buffer }

-- own: a call that writes is refused by a protected drive, and after that by a read-only file
abbrev pub unless_protected : Drive → Fcb → List ℕ → OnDrive → OnDrive
unless_protected drive fcb buffer call = if drive.marks.is_protected then on_drive (Err ReadOnly) drive fcb buffer else call

abbrev pub unless_read_only : Drive → Fcb → List ℕ → OnDrive → OnDrive
unless_read_only drive fcb buffer call =
    if is_read_only fcb.extent.name then on_drive (Err FileReadOnly) drive fcb buffer else call

-- and in a session
pub record FileCall : Type 0 where
  pub answer : Result ℕ Fault
  pub disks : Disks
  pub fcb : Fcb
  pub buffer : List ℕ

abbrev pub file_call : Result ℕ Fault → Disks → Fcb → List ℕ → FileCall
file_call answer disks fcb buffer = record { answer = answer; disks = disks; fcb = fcb; buffer = buffer }

-- the drive that a file control block names: 0 for the current one, 1 for A and so on
unfoldable pub drive_named : Disks → ℕ → ℕ
drive_named disks dr = if dr == 0 then disks.current else dr - 1

-- a call on the drive that the file control block names, which is used by that
unfoldable pub on_named_drive : (Drive → OnDrive) → Disks → Disk → Fcb → List ℕ → FileCall
on_named_drive call disks system fcb buffer =
    let n = drive_named disks fcb.drive in
    let c = call (ready (drive_at disks system n)) in
    if is_there disks n then file_call c.answer (with_drive disks n c.drive) c.fcb c.buffer else file_call (Err Select) disks fcb buffer

-- a call that a protected drive refuses
abbrev pub RefusesProtected : (Drive → OnDrive) → Fcb → List ℕ → Type 0
RefusesProtected call fcb buffer =
    (drive : Drive) → drive.marks.is_protected ≡ true → on_drive (Err ReadOnly) drive fcb buffer ≡ call drive

-- the number of the drive that the file control block names, which is there, once it is used
abbrev pub IsNamed : Disks → Disks → Disk → Fcb → ℕ → Type 0
IsNamed disks now system fcb n = (n ≡ drive_named disks fcb.drive) × (is_there disks n ≡ true) × (now ≡ drive_in_use disks system n)

-- the same of an own drive, whose number is its place among A to D
abbrev pub IsOwnPlace : Disks → Disks → Disk → Fcb → ℕ → Type 0
IsOwnPlace disks now system fcb n = IsNamed disks now system fcb n × (is_some (own_drive now n) ≡ true) × (n < 4)
