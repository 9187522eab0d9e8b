use Rattle.std.proofs.Common.{subst, sym}
use Rattle.cpm_decode.specs.Cache.{IsRightFor}
use Rattle.cpm_decode.specs.Cached.{stays-right}
use Rattle.cpm_machine.proofs.steps.run.Goals as goal
use Rattle.cpm_machine.proofs.steps.run.Goals.{in-I8080, in-Z80}

pub returns-then-runner-clause-run : goal.returns-then-runner-clause-run
returns-then-runner-clause-run g c =
    elim c.match-runner.branch [
      | in-I8080 w ↦ rw (w.runner-is, w.memory-is, w.result-is) (w.run_program.ensures.run c.args.system.now)
      | in-Z80 w ↦ rw (w.runner-is, w.memory-is, w.result-is) (w.run_program-in-Z80.ensures.run c.args.system.now)
    ]

pub returns-then-runner-clause-right : goal.returns-then-runner-clause-right
returns-then-runner-clause-right g c =
    elim c.match-runner.branch [
      | in-I8080 w ↦ rw (w.runner-is, w.memory-is) w.run_program.ensures.right
      | in-Z80 w ↦ rw (w.runner-is, w.memory-is) w.run_program-in-Z80.ensures.right
    ]

pub returns-clause-right : goal.returns-clause-right
returns-clause-right g c =
    let m = g.M.Memory in
    let law = g.met.M.Memory in
    let old = c.args.memory.now in
    let new = c.step_or_wait.new.memory in
    subst (IsRightFor (m.contents new) (m.stamps new)) (sym c.step_or_wait.ensures.cache)
    (stays-right (m.contents old) (m.contents new) (m.stamps old) (m.stamps new) (law.stamped old) (law.leads_stamps old new c.step_or_wait.ensures.leads) c.args.runner.now.cache c.requires.right)

pub returns-then-runner-clause-busy : goal.returns-then-runner-clause-busy
returns-then-runner-clause-busy g c idle =
    elim c.match-runner.branch [
      | in-I8080 w ↦ rw w.result-is (w.run_program.ensures.busy c.args.system.now)
      | in-Z80 w ↦ rw w.result-is (w.run_program-in-Z80.ensures.busy c.args.system.now)
    ]
