use Rattle.std.proofs.Common.{◌∙◌, ◌==◌, subst}
use Rattle.cpm_bdos.specs.Bounds.{IsFit}
use Rattle.cpm_machine.specs.MachineState.{MachineState}
use Rattle.cpm_machine.proofs.GrantLaws.{one_step}
use Rattle.cpm_machine.proofs.StepBounds.{IsBounded-once}
use Rattle.cpm_machine.proofs.machine.Machine.step.Goals as goal

pub returns-clause-stepped : goal.returns-clause-stepped
returns-clause-stepped c = (one_step c.args.system.now c.grant.result.executed c.args.self.now c.grant.ensures.executed).0

pub returns-clause-state : goal.returns-clause-state
returns-clause-state c =
    c.grant.ensures.state ∙ (one_step c.args.system.now c.grant.result.executed c.args.self.now c.grant.ensures.executed).1

pub returns-clause-bounds : goal.returns-clause-bounds
returns-clause-bounds c =
    rw (c.grant.ensures.state, (one_step c.args.system.now c.grant.result.executed c.args.self.now c.grant.ensures.executed).1) (IsBounded-once c.args.system.now (c.grant.result.executed == 1) c.args.self.now (subst (λ (s : MachineState). IsFit s.session) c.self.view_is c.numbers_fit.ensures))
