use Rattle.cpm_machine.proofs.WaitLaws.{step-waits}
use Rattle.cpm_machine.proofs.laws.waiting.Goals as goal

pub returns : goal.returns
returns c system s h = step-waits system s h
