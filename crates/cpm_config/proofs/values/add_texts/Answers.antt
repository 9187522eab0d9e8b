use Rattle.std.proofs.Common.{◌∙◌}
use Rattle.cpm_config.proofs.StepLemmas.{texts_step}
use Rattle.cpm_config.proofs.values.add_texts.Goals as goal

pub loop-value-preserved : goal.loop-value-preserved
loop-value-preserved c =
    texts_step c.args.place _ _ c.args.values.now c.loop-value.value-index c.value-item.result c.in-Some.text c.loop-value-test.true c.value-item.is
    c.in-Some.ensures c.in_ok-push.ensures.items ∙ c.loop-value.invariant
