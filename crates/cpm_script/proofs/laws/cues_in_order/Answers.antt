use Rattle.cpm_script.proofs.CueLaws.{cues-ordered}
use Rattle.cpm_script.proofs.laws.cues_in_order.Goals as goal

pub returns : goal.returns
returns c = cues-ordered
