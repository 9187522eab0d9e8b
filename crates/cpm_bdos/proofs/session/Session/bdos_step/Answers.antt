use Rattle.std.proofs.Common.{ap, sym, ◌∙◌}
use Rattle.cpm_bdos.specs.StepResult.{StepResult}
use Rattle.cpm_bdos.specs.Behind.{did_behind}
use Rattle.cpm_bdos.proofs.Bounded.{IsBounded-bdos}
use Rattle.cpm_bdos.proofs.Waiting.{bdos-behind}
use Rattle.cpm_bdos.proofs.session.Session.bdos_step.Goals as goal

pub returns-clause-bounds : goal.returns-clause-bounds
returns-clause-bounds g c = rw c.call_step.ensures.step (IsBounded-bdos c.args.system.now c.args.self.now (g.M.Memory.contents c.args.memory.now) c.numbers_fit.ensures)

pub returns-clause-behind : goal.returns-clause-behind
returns-clause-behind g c p q =
    bdos-behind p q c.args.system.now c.args.self.now (g.M.Memory.contents c.args.memory.now) ∙ ap (λ (d : StepResult). did_behind p q d) (sym c.call_step.ensures.step)
