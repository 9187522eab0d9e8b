use Rattle.std.proofs.Common.{◌≡◌, ◌++◌, ◌∷◌, []}
use Rattle.std.specs.Prelude.{option_map}
use Rattle.std.proofs.lemmas.Result.{err_from_is_err_and}
use Rattle.std.proofs.lemmas.List.{map_push}
use Rattle.cpm_checkpoint.specs.CheckpointBytes.{session_value, session_values}
use Rattle.cpm_checkpoint.specs.CheckpointReading.{sessions_read}
use Rattle.cpm_checkpoint.proofs.SessionLoop.{ends, goes_on, is_done}
use Rattle.cpm_checkpoint.proofs.reading.read_sessions.Goals as goal

pub returns-in_err-session : goal.returns-in_err-session
returns-in_err-session c =
    let p = err_from_is_err_and c.from_residual.result c.from_residual.ensures.1 in
    rw (p.1, p.2) (ends c.in_err-session.field-0.0 (session_values c.loop.sessions.items) c.args.count c.loop.counter c.loop.reader
    (sessions_read c.args.count c.args.reader.now) c.loop-test.true c.in_err-session.ensures c.loop.invariant)

pub loop-preserved : goal.loop-preserved
loop-preserved c =
    let session = option_map session_value c.in_ok-session.session in
    let before = session_values c.loop.sessions.items in
    let more : session_values c.push.new.self.items ≡ before ++ session ∷ [] =
    rw c.in_ok-push.ensures.items (map_push (option_map session_value) c.loop.sessions.items c.in_ok-session.session) in
    rw more (goes_on before c.args.count c.loop.counter c.loop.reader session c.read_marked.new.reader (sessions_read c.args.count c.args.reader.now)
    c.loop-test.true c.in_ok-session.ensures c.loop.invariant)

pub returns : goal.returns
returns c =
    is_done (session_values c.loop.sessions.items) c.args.count c.loop.counter c.loop.reader (sessions_read c.args.count c.args.reader.now)
    c.loop-test.false c.loop.invariant
