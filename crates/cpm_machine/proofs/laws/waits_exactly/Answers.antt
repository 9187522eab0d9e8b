use Rattle.cpm_machine.proofs.WaitCalls.{waits-exactly}
use Rattle.cpm_machine.proofs.laws.waits_exactly.Goals as goal

pub returns : goal.returns
returns c = waits-exactly
