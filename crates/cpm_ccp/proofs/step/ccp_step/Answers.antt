use Rattle.std.proofs.Common.{ap, sym, ◌∙◌}
use Rattle.cpm_bdos.specs.StepResult.{StepResult}
use Rattle.cpm_bdos.specs.Behind.{did_behind}
use Rattle.cpm_ccp.proofs.BoundLaws.{IsBounded-ccp}
use Rattle.cpm_ccp.proofs.BehindLaws.{ccp-behind}
use Rattle.cpm_ccp.proofs.step.ccp_step.Goals as goal

pub returns-clause-bounds : goal.returns-clause-bounds
returns-clause-bounds g c = rw c.do_step.ensures.step (IsBounded-ccp c.args.system.now c.args.session.now (g.M.Memory.contents c.args.memory.now) c.numbers_fit.ensures)

pub returns-clause-behind : goal.returns-clause-behind
returns-clause-behind g c p q =
    ccp-behind p q c.args.system.now c.args.session.now (g.M.Memory.contents c.args.memory.now) ∙ ap (λ (d : StepResult). did_behind p q d) (sym c.do_step.ensures.step)
