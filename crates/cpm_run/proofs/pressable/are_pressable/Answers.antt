use Rattle.std.specs.Prelude.{map}
use Rattle.cpm_run.proofs.PressableLemmas.{one-there, pressable-all, pressable-more}
use Rattle.cpm_run.specs.Pressable.{HasFewKeys, IsPressableBy}
use Rattle.cpm_run.specs.Settled.{SettledSession, settled_view}
use Rattle.cpm_run.proofs.pressable.are_pressable.Goals as goal

pub loop-input-preserved : goal.loop-input-preserved
loop-input-preserved c =
    pressable-more c.args.inputs.now c.loop-input.input-index c.input-item.result c.loop-input-test.true c.input-item.is (c.in_ok-is_pressable.ensures.can c.if-not-branch.false) c.loop-input.invariant

pub returns-clause-can : goal.returns-clause-can
returns-clause-can c = λ _. pressable-all c.args.inputs.now c.loop-input.input-index c.loop-input-test.false c.loop-input.invariant

pub returns-then-not-branch-clause-other : goal.returns-then-not-branch-clause-other
returns-then-not-branch-clause-other c = λ _ system can few.
    let all = map settled_view c.args.inputs.now in
    let n = c.loop-input.input-index in
    c.in_ok-is_pressable.ensures.other c.if-not-branch.true system
    (one-there (λ (i : SettledSession). IsPressableBy system all i.start i) c.args.inputs.now n c.input-item.result c.loop-input-test.true c.input-item.is can)
    (one-there (HasFewKeys all) c.args.inputs.now n c.input-item.result c.loop-input-test.true c.input-item.is few)
