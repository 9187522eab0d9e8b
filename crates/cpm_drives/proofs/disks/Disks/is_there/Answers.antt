use Rattle.std.proofs.Common.{refl}
use Rattle.cpm_drives.specs.Disks.{is_there}
use Rattle.cpm_drives.proofs.disks.Disks.is_there.Goals as goal

pub returns-then-is_own : goal.returns-then-is_own
unfolding is_there
returns-then-is_own c =
    rw (← c.is_own.ensures.value, c.if-is_own.true) refl

pub returns-else-is_own : goal.returns-else-is_own
unfolding is_there
returns-else-is_own c =
    rw (← c.is_own.ensures.value, c.if-is_own.false) refl
