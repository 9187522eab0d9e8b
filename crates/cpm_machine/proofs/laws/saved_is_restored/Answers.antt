use Rattle.cpm_machine.proofs.SavingLaws.{saved_restored}
use Rattle.cpm_machine.proofs.laws.saved_is_restored.Goals as goal

pub returns : goal.returns
returns c = saved_restored
