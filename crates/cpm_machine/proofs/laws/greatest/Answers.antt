use Rattle.cpm_machine.specs.Step.{after, can_step}
use Rattle.cpm_machine.specs.Serve.{executed}
use Rattle.cpm_machine.proofs.GrantLaws.{longest-is}
use Rattle.cpm_machine.proofs.laws.greatest.Goals as goal

pub returns : goal.returns
unfolding executed
returns c system n s = longest-is (λ k. can_step (after system k s)) n
