use Rattle.cpm_play.proofs.ScriptLemmas.{script-order}
use Rattle.cpm_play.proofs.laws.scripts_in_order.Goals as goal

pub returns : goal.returns
returns c = script-order
