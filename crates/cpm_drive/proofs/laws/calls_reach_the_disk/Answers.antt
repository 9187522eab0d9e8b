use Rattle.cpm_drive.proofs.DiskReach.{calls_reach}
use Rattle.cpm_drive.proofs.laws.calls_reach_the_disk.Goals as goal

pub returns : goal.returns
returns c = calls_reach
