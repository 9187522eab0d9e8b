-- The drives of open slots, and what an opening is refused for before its drives are there. (own)
use Rattle.std.specs.Prelude.{ℕ, ◌||◌, nat_lt, Option, Some, None, if◌then◌else◌}
use Rattle.cpm_geom.specs.Disk.{Disk}
use Rattle.cpm_drives.specs.Disks.{image_of, own_drive}
use Rattle.cpm_machine.specs.MachineState.{MachineState}
use Rattle.cpm_machine.specs.Opening.{drives_fault, fault_else}
use Rattle.cpm_machine.specs.declared.opening.OpenError.{OpenError}
use Rattle.cpm_machine.specs.declared.opening.OpenError.TheVariants.{BadQuota}
use Rattle.cpm_slots.specs.Host.{Host, room_fault}

-- the image of a drive of a slot, the first being 0: none where the slot is not open, or has no such drive
abbrev pub drive_image : ℕ → Option MachineState → Option Disk
drive_image drive None = None
drive_image drive (Some s) = image_of (own_drive s.session.disks drive)

-- why no session is opened with this quota and so many drives, memory aside
abbrev pub open_fault : Host → (quota drives : ℕ) → Option OpenError
open_fault h quota drives =
    fault_else (if nat_lt quota 16 || nat_lt 256 quota then Some BadQuota else drives_fault drives) (room_fault h quota)
