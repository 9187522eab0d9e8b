use Rattle.cpm_volume.proofs.Functions.{makes_file}
use Rattle.cpm_volume.proofs.laws.make_changes_no_file.Goals as goal

pub returns : goal.returns
returns c = makes_file
