use Rattle.cpm_machine.proofs.StepBounds.{IsBounded-step}
use Rattle.cpm_machine.proofs.laws.bounded.Goals as goal

pub returns : goal.returns
returns c system s fit = IsBounded-step system s fit
