-- Selecting drives, and the marks of all drives.
-- CP/M 2.2 Operating System Manual, section 5.2, Operating System Call Conventions, functions 13, 14, 24, 25, 28, 29 and 37.
use Rattle.std.specs.Prelude.{ℕ, ◌+◌, ◌/◌, ◌%◌, ◌^◌, ◌==◌, Bool, true, false, List, [], ◌∷◌, Option, Some, None, Result, Ok, Err, if◌then◌else◌, map}
use Rattle.cpm_geom.specs.Disk.{Disk}
use Rattle.cpm_volume.specs.declared.answer.Fault.{Fault}
use Rattle.cpm_volume.specs.declared.answer.Fault.TheVariants.{Select}
use Rattle.cpm_drive.specs.declared.drive.Drive.{Drive}
use Rattle.cpm_drive.specs.declared.drive.Marks.{Marks}
use Rattle.cpm_drive.specs.Calls.{logged_in}
use Rattle.cpm_drives.specs.declared.disks.Disks.{Disks}
use Rattle.cpm_drives.specs.Disks.{is_there, drive_at, with_drive}

-- a drive that is used is logged in, unless it was before
abbrev pub ready : Drive → Drive
ready drive = if drive.marks.is_logged_in then drive else logged_in drive

unfoldable pub drive_in_use : Disks → Disk → ℕ → Disks
drive_in_use disks system n = with_drive disks n (ready (drive_at disks system n))

-- what a call on the drives leaves: its code or its fault, and the drives
pub record DriveChoice : Type 0 where
  pub answer : Result ℕ Fault
  pub disks : Disks

abbrev pub choice : Result ℕ Fault → Disks → DriveChoice
choice answer disks = record { answer = answer; disks = disks }

-- SELECT DISK: a drive that is there is used, and current from now on
unfoldable pub select : Disks → Disk → ℕ → DriveChoice
select disks system n =
    if is_there disks n then choice (Ok 0) (record (drive_in_use disks system n) { current = n }) else choice (Err Select) disks

-- the marks of a drive without its login and its protection
abbrev pub unmarked : Marks → Marks
unmarked marks = record marks { is_logged_in = false; is_protected = false }

abbrev pub drive_unmarked : Option Drive → Option Drive
drive_unmarked None = None
drive_unmarked (Some drive) = Some (record drive { marks = unmarked drive.marks })

-- all drives lose both marks
unfoldable pub all_unmarked : Disks → Disks
all_unmarked disks = record disks { drives = map drive_unmarked disks.drives; system = unmarked disks.system }

-- RESET DISK SYSTEM: no drive is logged in or protected; A is current, and used; own: the search stays
unfoldable pub reset : Disks → Disk → Disks
reset disks system = record (drive_in_use (all_unmarked disks) system 0) { current = 0 }

-- a warm boot: no drive is logged in or protected, and no search is under way
unfoldable pub rebooted_disks : Disks → Disks
rebooted_disks disks = record (all_unmarked disks) { sought = None }

-- the bit of a drive in a vector
abbrev pub has_drive_bit : ℕ → ℕ → Bool
has_drive_bit vector n = vector / 2 ^ n % 2 == 1

-- RESET DRIVE: the drives of a vector lose both marks
unfoldable pub reset_from : ℕ → ℕ → List (Option Drive) → List (Option Drive)
reset_from vector n [] = []
reset_from vector n (drive ∷ drives) =
    (if has_drive_bit vector n then drive_unmarked drive else drive) ∷ reset_from vector (n + 1) drives

unfoldable pub drives_reset : Disks → ℕ → Disks
drives_reset disks vector =
    record disks { drives = reset_from vector 0 disks.drives; system = if has_drive_bit vector 15 then unmarked disks.system else disks.system }

-- WRITE PROTECT DISK: the current drive; own: it isn't logged in by this
unfoldable pub protect : Disks → Disk → Disks
protect disks system =
    with_drive disks disks.current
    (record (drive_at disks system disks.current) { marks = record (drive_at disks system disks.current).marks { is_protected = true } })
