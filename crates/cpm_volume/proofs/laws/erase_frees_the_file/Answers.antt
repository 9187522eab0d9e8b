use Rattle.cpm_volume.proofs.Erasing.{erases}
use Rattle.cpm_volume.proofs.laws.erase_frees_the_file.Goals as goal

pub returns : goal.returns
returns c = erases
