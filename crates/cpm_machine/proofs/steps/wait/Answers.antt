use Rattle.std.proofs.Common.{ap, arith}
use Rattle.cpm_machine.specs.MachineState.{MachineState}
use Rattle.cpm_machine.specs.Runner.{state_of}
use Rattle.cpm_machine.proofs.StepLaws.{runs}
use Rattle.cpm_machine.proofs.WaitLaws.{IsRun-waits, after-waits}
use Rattle.cpm_machine.proofs.steps.wait.Goals as goal

pub returns-clause-run : goal.returns-clause-run
returns-clause-run g c system =
    rw (c.end_of-runner.ensures, c.touched.ensures)
    (IsRun-waits system _ (state_of c.args.runner.now (g.M.Memory.contents c.args.memory.now)) c.requires.sound c.requires.can c.requires.waits (omega arith))

pub returns-clause-still : goal.returns-clause-still
returns-clause-still g c system i below =
    let old = state_of c.args.runner.now (g.M.Memory.contents c.args.memory.now) in
    ap (λ (s : MachineState). s.session) (after-waits system i old c.requires.sound (runs old c.requires.can) c.requires.waits (omega arith))
