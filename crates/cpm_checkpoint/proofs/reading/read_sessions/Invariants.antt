use Rattle.std.proofs.Common.{◌≡◌, ◌-◌}
use Rattle.cpm_checkpoint.specs.CheckpointBytes.{session_values}
use Rattle.cpm_checkpoint.specs.CheckpointReading.{sessions_read}
use Rattle.cpm_checkpoint.proofs.SessionLoop.{with_front}
use Rattle.cpm_checkpoint.proofs.reading.read_sessions.Given as goal

-- the sessions so far and those that are left are all
abbrev pub invariant-loop : goal.invariant-loop
invariant-loop l = with_front (session_values l.sessions.items) (sessions_read (l.count - l.counter) l.reader) ≡ sessions_read l.count l.fn.reader
