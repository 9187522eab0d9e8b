use Rattle.std.proofs.Common.{refl}
use Rattle.cpm_drives.specs.Selecting.{drives_reset}
use Rattle.cpm_drives.proofs.disks.Disks.reset_drives.Goals as goal

pub returns-then-has_drive_bit : goal.returns-then-has_drive_bit
unfolding drives_reset
returns-then-has_drive_bit c =
    rw (c.unmark_drives.ensures, c.unmark.ensures, ← c.has_drive_bit.ensures, c.if-has_drive_bit.true) refl

pub returns-else-has_drive_bit : goal.returns-else-has_drive_bit
unfolding drives_reset
returns-else-has_drive_bit c =
    rw (c.unmark_drives.ensures, ← c.has_drive_bit.ensures, c.if-has_drive_bit.false) refl
