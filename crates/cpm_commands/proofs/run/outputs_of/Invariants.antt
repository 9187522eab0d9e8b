use Rattle.std.proofs.Common.{◌≡◌, ◌++◌, drop}
use Rattle.std.specs.Prelude.{flat_map}
use Rattle.cpm_commands.specs.Plan.{named_files}
use Rattle.cpm_commands.specs.Run.{session_outputs}
use Rattle.cpm_commands.proofs.run.outputs_of.Given as goal

abbrev pub invariant-loop-session : goal.invariant-loop-session
invariant-loop-session l = named_files l.outputs.items ++ flat_map session_outputs (drop l.session-index l.config.sessions.items) ≡ flat_map session_outputs l.config.sessions.items
