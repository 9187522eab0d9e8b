use Rattle.std.proofs.Common.{◌∙◌, sym}
use Rattle.cpm_batch.proofs.SourceLemmas.{no_replay, replay_here, replay_later}
use Rattle.cpm_batch.proofs.source.replay_of.Goals as goal

pub returns-then-eq : goal.returns-then-eq
returns-then-eq c =
    sym (replay_here c.args.replays.now c.loop-replay.replay-index _ c.args.name.now c.loop-replay-test.true (sym c.eq.ensures ∙ c.if-eq.true)) ∙ c.loop-replay.invariant

pub loop-replay-preserved : goal.loop-replay-preserved
loop-replay-preserved c =
    replay_later c.args.replays.now c.loop-replay.replay-index _ c.args.name.now c.loop-replay-test.true (sym c.eq.ensures ∙ c.if-eq.false) ∙ c.loop-replay.invariant

pub returns : goal.returns
returns c = sym (no_replay c.args.replays.now c.loop-replay.replay-index c.args.name.now c.loop-replay-test.false) ∙ c.loop-replay.invariant
