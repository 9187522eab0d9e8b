use Rattle.cpm_machine.specs.Step.{after}
use Rattle.cpm_machine.specs.ToWait.{can_work, executed_to_wait}
use Rattle.cpm_machine.proofs.GrantLaws.{longest-is}
use Rattle.cpm_machine.proofs.laws.greatest_to_wait.Goals as goal

pub returns : goal.returns
unfolding executed_to_wait
returns c system n s = longest-is (λ k. can_work (after system k s)) n
