use Rattle.std.proofs.Common.{◌∙◌, List, ap}
use Rattle.std.proofs.lemmas.Result.{err_from_is_err_and}
use Rattle.cpm_batch.specs.declared.source.Replay.{Replay}
use Rattle.cpm_commands.proofs.ReplayWordLemmas.{from_here, replay_more, replay_refused, replays_done}
use Rattle.cpm_commands.proofs.replays.replays_of.Goals as goal

pub loop-word-init : goal.loop-word-init
loop-word-init c = ap (λ (rs : List Replay). from_here c.args.config.now.sessions.items rs c.args.words.now 0) c.new-replays.ensures.items

pub returns-in_err-replay-clause-refusal : goal.returns-in_err-replay-clause-refusal
returns-in_err-replay-clause-refusal c =
    let p = err_from_is_err_and c.from_residual.result c.from_residual.ensures.1 in
    let l = c.loop-word in
    rw (p.1, p.2) (replay_refused c.args.config.now.sessions.items l.replays.items c.as_slice.result.now c.args.words.now l.word-index _ c.in_err-replay.field-0.0 c.as_slice.ensures.value
    c.loop-word-test.true l.invariant c.in_err-replay.ensures.refusal)

pub loop-word-preserved : goal.loop-word-preserved
loop-word-preserved c =
    let l = c.loop-word in
    replay_more c.args.config.now.sessions.items l.replays.items c.as_slice.result.now c.push.new.self.items c.in_ok-replay.replay c.args.words.now l.word-index _ c.as_slice.ensures.value
    c.loop-word-test.true c.in_ok-replay.ensures.replay c.in_ok-push.ensures.items
    ∙ l.invariant

pub returns-clause-replays : goal.returns-clause-replays
returns-clause-replays c =
    replays_done c.args.config.now.sessions.items c.loop-word.replays.items c.args.words.now c.loop-word.word-index c.loop-word-test.false c.loop-word.invariant
