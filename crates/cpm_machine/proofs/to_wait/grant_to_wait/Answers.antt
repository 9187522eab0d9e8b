use Rattle.std.proofs.Common.{sym, ◌∙◌, arith}
use Rattle.cpm_machine.specs.Runner.{state_of}
use Rattle.cpm_machine.proofs.StepLaws.{IsRun-on}
use Rattle.cpm_machine.proofs.BusyLaws.{IsBusy-on}
use Rattle.cpm_machine.proofs.ToWaitLaws.{can-busy, IsBusy-executed}
use Rattle.cpm_machine.proofs.to_wait.grant_to_wait.Goals as goal

pub loop-executed-preserved : goal.loop-executed-preserved
loop-executed-preserved g c =
    let here = state_of c.loop-executed.runner (g.M.Memory.contents c.loop-executed.memory) in
    record {
      run = IsRun-on _ _ _ _ _ _ c.loop-executed.invariant.run c.run-executed.ensures.run;
      busy = IsBusy-on _ _ _ _ _ c.loop-executed.invariant.busy c.loop-executed.invariant.run.now_is (c.run-executed.ensures.busy (can-busy here (sym c.can_work.ensures ∙ c.if-can_work.true)));
      right = c.run-executed.ensures.right;
      within = omega arith;
      leads = g.met.M.Memory.leads_on _ _ _ c.loop-executed.invariant.leads c.run-executed.ensures.leads;
    }

pub returns-else-can_work-clause-executed : goal.returns-else-can_work-clause-executed
returns-else-can_work-clause-executed g c = IsBusy-executed _ _ _ _ _ c.loop-executed.invariant.run c.loop-executed.invariant.busy c.loop-executed.invariant.within (λ below. sym c.can_work.ensures ∙ c.if-can_work.false)

pub returns-after-loop-executed-clause-executed : goal.returns-after-loop-executed-clause-executed
returns-after-loop-executed-clause-executed g c = IsBusy-executed _ _ _ _ _ c.loop-executed.invariant.run c.loop-executed.invariant.busy c.loop-executed.invariant.within
    (λ below. let past = c.loop-executed-test.false in absurd (omega arith))
