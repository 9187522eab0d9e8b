use Rattle.cpm_machine.specs.Step.{after}
use Rattle.cpm_machine.specs.Until.{can_go_on, executed_until}
use Rattle.cpm_machine.proofs.GrantLaws.{longest-is}
use Rattle.cpm_machine.proofs.laws.greatest_until.Goals as goal

pub returns : goal.returns
unfolding executed_until
returns c system pc n s = longest-is (λ k. can_go_on pc k (after system k s)) n
