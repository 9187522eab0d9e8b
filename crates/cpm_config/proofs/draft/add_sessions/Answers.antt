use Rattle.std.proofs.Common.{◌+◌, ℕ, ap, ◌∙◌}
use Rattle.cpm_config.proofs.StepLemmas.{sessions_step}
use Rattle.cpm_config.proofs.draft.add_sessions.Goals as goal

pub loop-value-preserved : goal.loop-value-preserved
loop-value-preserved c = record {
  same = sessions_step (c.loop-value.number + 1) _ _ c.args.values.now c.loop-value.value-index c.value-item.result c.in_ok-session.session c.loop-value-test.true c.value-item.is
      c.in_ok-session.ensures c.in_ok-push.ensures.items ∙ c.loop-value.invariant.same;
  count = ap (λ (k : ℕ). k + 1) c.loop-value.invariant.count;
}
