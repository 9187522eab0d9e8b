use Rattle.cpm_commands.specs.Replays.{NotParted, NotThere, Repeated}
use Rattle.cpm_commands.proofs.ReplayWordLemmas.{not_parted, not_there, repeated, taken}
use Rattle.cpm_commands.proofs.replays.next_replay.Goals as goal

pub returns-in_default-clause-refusal : goal.returns-in_default-clause-refusal
returns-in_default-clause-refusal c =
    (NotParted c.args.word.now, not_parted c.args.config.now.sessions.items c.args.before.now c.args.word.now c.replay_parts.result c.replay_parts.ensures c.in_default.is, c.shown.ensures)

pub returns-then-not-has_session-clause-refusal : goal.returns-then-not-has_session-clause-refusal
returns-then-not-has_session-clause-refusal c = (
  NotThere c.in-Some.replay.session.now,
  not_there c.args.config.now.sessions.items c.args.before.now c.args.word.now c.replay_parts.result c.in-Some.replay c.replay_parts.ensures c.has_session.result c.in-Some.is c.has_session.ensures
      c.if-not-has_session.true,
  c.shown-then-not-has_session.ensures,
)

pub returns-then-is_replayed-clause-refusal : goal.returns-then-is_replayed-clause-refusal
returns-then-is_replayed-clause-refusal c = (
  Repeated c.in-Some.replay.session.now,
  repeated c.args.config.now.sessions.items c.args.before.now c.args.word.now c.replay_parts.result c.in-Some.replay c.replay_parts.ensures c.has_session.result c.is_replayed.result c.in-Some.is
      c.has_session.ensures c.if-not-has_session.false c.is_replayed.ensures c.if-is_replayed.true,
  c.shown-then-is_replayed.ensures,
)

pub returns-clause-replay : goal.returns-clause-replay
returns-clause-replay c =
    taken c.args.config.now.sessions.items c.args.before.now c.args.word.now c.replay_parts.result c.in-Some.replay c.replay_parts.ensures c.has_session.result c.is_replayed.result c.in-Some.is
    c.has_session.ensures c.if-not-has_session.false c.is_replayed.ensures c.if-is_replayed.false
