use Rattle.cpm_volume.proofs.Functions.{opens_file}
use Rattle.cpm_volume.proofs.laws.open_knows_the_file.Goals as goal

pub returns : goal.returns
returns c = opens_file
