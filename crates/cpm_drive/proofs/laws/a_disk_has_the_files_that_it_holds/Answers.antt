use Rattle.cpm_drive.proofs.DiskFiles.{reads_the_same}
use Rattle.cpm_drive.proofs.laws.a_disk_has_the_files_that_it_holds.Goals as goal

pub returns : goal.returns
returns c = reads_the_same
