use Rattle.cpm_machine.proofs.KeyLaws.{keys_leave-step}
use Rattle.cpm_machine.proofs.laws.keys_leave.Goals as goal

pub returns : goal.returns
returns c system s = keys_leave-step system s
