use Rattle.std.proofs.Common.{refl}
use Rattle.cpm_drives.specs.Selecting.{select}
use Rattle.cpm_drives.proofs.disks.Disks.select.Goals as goal

pub returns-then-not-is_there : goal.returns-then-not-is_there
unfolding select
returns-then-not-is_there c =
    rw (← c.is_there.ensures, c.if-not-is_there.true) refl

pub returns : goal.returns
unfolding select
returns c =
    rw (← c.is_there.ensures, c.if-not-is_there.false, c.use_drive.ensures) refl
