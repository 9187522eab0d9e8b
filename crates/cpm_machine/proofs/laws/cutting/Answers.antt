use Rattle.cpm_machine.specs.Step.{after}
use Rattle.cpm_machine.specs.Serve.{executed}
use Rattle.cpm_machine.proofs.GrantLaws.{cut, after-add}
use Rattle.cpm_machine.proofs.laws.cutting.Goals as goal

pub returns : goal.returns
returns c system a b s =
    (cut system a b s, after-add system (executed system a s) (executed system b (after system (executed system a s) s)) s)
