use Rattle.std.proofs.Common.{◌≡◌, ◌++◌, take}
use Rattle.std.specs.List.{AllByRecursion, flat_map}
use Rattle.cpm_checkpoint.specs.CheckpointBytes.{IsSessionIfAny, marked_bytes, session_values}
use Rattle.cpm_checkpoint.proofs.writing.append_sessions.Given as goal

-- the sessions so far
abbrev pub invariant-loop-session : goal.invariant-loop-session
invariant-loop-session l =
    record {
      appended : l.out.items ≡ l.initial.out.items ++ flat_map marked_bytes (session_values (take l.session-index l.sessions));
      fits : AllByRecursion IsSessionIfAny (session_values (take l.session-index l.sessions));
    }
