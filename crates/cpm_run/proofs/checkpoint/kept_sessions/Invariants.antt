use Rattle.std.proofs.Common.{◌≡◌, Some, take}
use Rattle.cpm_checkpoint.specs.CheckpointBytes.{session_values}
use Rattle.cpm_run.specs.Kept.{standing_view}
use Rattle.cpm_run.specs.Rest.{standing_read}
use Rattle.cpm_run.proofs.checkpoint.kept_sessions.Given as goal

abbrev pub invariant-loop-session : goal.invariant-loop-session
invariant-loop-session l = standing_read (session_values (take l.session-index l.checkpoint.sessions.items)) ≡ Some (standing_view l.kept.items)
