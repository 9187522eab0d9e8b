use Rattle.cpm_drive.proofs.DiskLemmas.{log_reaches}
use Rattle.cpm_drive.proofs.laws.a_log_reaches_the_disk.Goals as goal

pub returns : goal.returns
returns c = log_reaches
