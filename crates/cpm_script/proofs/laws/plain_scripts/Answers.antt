use Rattle.cpm_script.proofs.CueLaws.{plain-same}
use Rattle.cpm_script.proofs.laws.plain_scripts.Goals as goal

pub returns : goal.returns
returns c = plain-same
