use Rattle.std.proofs.Common.{◌≡◌, ◌++◌, drop, map, string_bytes, Some}
use Rattle.cpm_commands.specs.Run.{script_names}
use Rattle.cpm_commands.proofs.run.script_names.Given as goal

abbrev pub invariant-loop-session : goal.invariant-loop-session
invariant-loop-session l =
    map string_bytes l.names.items ++ script_names (Some l.folder) (drop l.session-index l.config.sessions.items) ≡ script_names (Some l.folder) l.config.sessions.items
