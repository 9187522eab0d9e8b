use Rattle.cpm_run.proofs.RestPressableLemmas.{rest-pressable}
use Rattle.cpm_run.proofs.laws.rest_can_be_played.Goals as goal

pub returns : goal.returns
returns c = rest-pressable
