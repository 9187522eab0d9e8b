use Rattle.std.proofs.Common.{◌≡◌, Some, length, take}
use Rattle.cpm_checkpoint.specs.CheckpointBytes.{session_values}
use Rattle.cpm_run.specs.Kept.{standing_view}
use Rattle.cpm_run.specs.Rest.{standing_read}
use Rattle.cpm_run.proofs.written.written_sessions.Given as goal

abbrev pub invariant-loop-session : goal.invariant-loop-session
invariant-loop-session l = record {
  read : standing_read (session_values l.sessions.items) ≡ Some (standing_view (take l.session-index l.kept));
  long : length l.sessions.items ≡ l.session-index;
}
