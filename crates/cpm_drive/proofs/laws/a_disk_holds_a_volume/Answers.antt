use Rattle.cpm_drive.proofs.DiskLemmas.{disk_is_volume}
use Rattle.cpm_drive.proofs.laws.a_disk_holds_a_volume.Goals as goal

pub returns : goal.returns
returns c = disk_is_volume
