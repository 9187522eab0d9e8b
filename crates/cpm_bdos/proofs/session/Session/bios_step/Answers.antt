use Rattle.std.proofs.Common.{ap, sym, ◌∙◌}
use Rattle.cpm_bdos.specs.StepResult.{StepResult}
use Rattle.cpm_bdos.specs.Behind.{did_behind}
use Rattle.cpm_bdos.proofs.Bounded.{IsBounded-bios}
use Rattle.cpm_bdos.proofs.Waiting.{bios-behind}
use Rattle.cpm_bdos.proofs.session.Session.bios_step.Goals as goal

pub returns-clause-bounds : goal.returns-clause-bounds
returns-clause-bounds g c = rw c.bios_call.ensures.step (IsBounded-bios c.args.number c.args.system.now c.args.self.now (g.M.Memory.contents c.args.memory.now) c.numbers_fit.ensures)

pub returns-clause-behind : goal.returns-clause-behind
returns-clause-behind g c p q =
    bios-behind p q c.args.number c.args.system.now c.args.self.now (g.M.Memory.contents c.args.memory.now) ∙ ap (λ (d : StepResult). did_behind p q d) (sym c.bios_call.ensures.step)
