use Rattle.std.proofs.Common.{◌≡◌, refl, subst, arith}
use Rattle.cpm_memory.specs.Contents.{IsContents}
use Rattle.cpm_machine.specs.Runner.{state_of}
use Rattle.cpm_machine.specs.MachineState.{MachineState}
use Rattle.cpm_machine.proofs.StepLaws.{IsSound-step, IsRun-one}
use Rattle.cpm_machine.proofs.steps.step_or_wait.Goals as goal

pub returns-clause-run : goal.returns-clause-run
returns-clause-run g c =
    let old = state_of c.args.runner.now (g.M.Memory.contents c.args.memory.now) in
    let whole = subst (λ (t : MachineState). IsContents t.memory) c.step.ensures.state (g.met.M.Memory.sound c.step.new.memory) in
    rw c.step.ensures.state (IsRun-one c.args.system.now old c.requires.can (IsSound-step c.args.system.now old c.requires.sound c.requires.can whole))

pub returns-clause-still : goal.returns-clause-still
returns-clause-still g c i below = let first : i ≡ 0 = omega arith in rw first refl

pub returns-then-waits-clause-run : goal.returns-then-waits-clause-run
returns-then-waits-clause-run g c = c.wait.ensures.run c.args.system.now

pub returns-clause-busy : goal.returns-clause-busy
returns-clause-busy g c idle i below = let first : i ≡ 0 = omega arith in rw first idle

pub returns-then-waits-clause-busy : goal.returns-then-waits-clause-busy
returns-then-waits-clause-busy g c idle i below = let same = c.waits.ensures.value in let waits = c.if-waits.true in absurd cc
