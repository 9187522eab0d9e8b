use Rattle.cpm_drives.specs.Disks.{own_drive}
use Rattle.cpm_drives.proofs.disks.Disks.is_own.Goals as goal

pub returns-clause-value : goal.returns-clause-value
unfolding own_drive
returns-clause-value c = c.is_in.ensures.value
