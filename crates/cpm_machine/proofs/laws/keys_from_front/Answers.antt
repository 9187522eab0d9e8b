use Rattle.cpm_machine.proofs.KeyLaws.{keys_from_front-step}
use Rattle.cpm_machine.proofs.laws.keys_from_front.Goals as goal

pub returns : goal.returns
returns c system s = keys_from_front-step system s
