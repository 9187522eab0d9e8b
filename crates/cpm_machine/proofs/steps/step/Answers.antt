use Rattle.std.proofs.Common.{sym, ap, ◌∙◌}
use Rattle.cpm_machine.specs.Step.{PartResult, after_part}
use Rattle.cpm_machine.specs.Runner.{state_of}
use Rattle.cpm_machine.proofs.StepLaws.{step-running, runs}
use Rattle.cpm_machine.proofs.steps.step.Goals as goal

pub returns-clause-state : goal.returns-clause-state
returns-clause-state g c =
    let old = state_of c.args.runner.now (g.M.Memory.contents c.args.memory.now) in
    rw (c.end_of-runner.ensures, c.touched.ensures)
    (ap (λ (p : PartResult). after_part old p) c.part-outcome.ensures.part ∙ sym (step-running c.args.system.now old (runs old c.requires.can)))
