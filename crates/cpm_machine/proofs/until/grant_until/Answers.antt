use Rattle.std.proofs.Common.{ap, sym, subst, ◌∙◌, arith}
use Rattle.cpm_decode.specs.Cache.{IsRightFor}
use Rattle.cpm_decode.specs.Cached.{stays-right}
use Rattle.cpm_machine.specs.Until.{begins_at}
use Rattle.cpm_machine.proofs.UntilLaws.{IsRunUntil-executed, IsRunUntil-on}
use Rattle.cpm_machine.proofs.until.grant_until.Goals as goal
use Rattle.cpm_machine.proofs.until.grant_until.Goals.{then-begins_at, else-begins_at, then-loop-executed-test+else-can_go_on, else-loop-executed-test}

-- a step that begins at the address is made alone, and where the steps wait the session doesn't come to it
pub loop-executed-preserved : goal.loop-executed-preserved
loop-executed-preserved g c =
    let within = c.step_or_wait-executed.ensures.within in
    record {
      run = IsRunUntil-on _ _ _ _ _ _ _ c.loop-executed.invariant.run (sym c.can_go_on.ensures ∙ c.if-can_go_on.true) c.step_or_wait-executed.ensures.run
          (λ i some below. elim c.if-begins_at.branch [
            | then-begins_at w ↦ let alone = w.most-is in absurd (omega arith)
            | else-begins_at w ↦ ap (begins_at c.args.pc) (c.step_or_wait-executed.ensures.still i below) ∙ sym c.begins_at.ensures ∙ w.if-begins_at.false
          ]);
      right =
          let m = g.M.Memory in
          let law = g.met.M.Memory in
          let old = c.loop-executed.memory in
          let new = c.step_or_wait-executed.new.memory in
          subst (IsRightFor (m.contents new) (m.stamps new)) (sym c.step_or_wait-executed.ensures.cache)
          (stays-right (m.contents old) (m.contents new) (m.stamps old) (m.stamps new) (law.stamped old) (law.leads_stamps old new c.step_or_wait-executed.ensures.leads) c.loop-executed.runner.cache c.loop-executed.invariant.right);
      within = omega arith;
      leads = g.met.M.Memory.leads_on _ _ _ c.loop-executed.invariant.leads c.step_or_wait-executed.ensures.leads;
    }

pub returns-clause-executed : goal.returns-clause-executed
returns-clause-executed g c = IsRunUntil-executed _ _ _ _ _ _ c.loop-executed.invariant.run c.loop-executed.invariant.within
    (λ below. elim c.loop-executed-test.branch [
      | then-loop-executed-test+else-can_go_on w ↦ sym w.can_go_on.ensures ∙ w.if-can_go_on.false
      | else-loop-executed-test w ↦ let past = w.loop-executed-test.false in absurd (omega arith)
    ])
