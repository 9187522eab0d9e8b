use Rattle.std.proofs.Common.{sym, ◌∙◌, arith}
use Rattle.cpm_machine.proofs.StepLaws.{IsRun-on, IsRun-executed}
use Rattle.cpm_machine.proofs.steps.grant.Goals as goal
use Rattle.cpm_machine.proofs.steps.grant.Goals.{then-loop-executed-test+else-can_step, else-loop-executed-test}

pub loop-executed-preserved : goal.loop-executed-preserved
loop-executed-preserved g c = record {
  run = IsRun-on _ _ _ _ _ _ c.loop-executed.invariant.run c.run-executed.ensures.run;
  right = c.run-executed.ensures.right;
  within = omega arith;
  leads = g.met.M.Memory.leads_on _ _ _ c.loop-executed.invariant.leads c.run-executed.ensures.leads;
}

pub returns-clause-executed : goal.returns-clause-executed
returns-clause-executed g c = IsRun-executed _ _ _ _ _ c.loop-executed.invariant.run c.loop-executed.invariant.within
    (λ below. elim c.loop-executed-test.branch [
      | then-loop-executed-test+else-can_step w ↦ sym w.can_step.ensures ∙ w.if-can_step.false
      | else-loop-executed-test w ↦ let past = w.loop-executed-test.false in absurd (omega arith)
    ])
