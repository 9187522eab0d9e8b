use Rattle.std.proofs.Common.{◌≡◌, ◌++◌, drop}
use Rattle.std.specs.Prelude.{flat_map}
use Rattle.cpm_commands.specs.Plan.{named_files}
use Rattle.cpm_commands.specs.Run.{run_inputs, session_inputs}
use Rattle.cpm_commands.proofs.run.inputs_of.Given as goal

abbrev pub invariant-loop-session : goal.invariant-loop-session
invariant-loop-session l = named_files l.inputs.items ++ flat_map (session_inputs l.replays) (drop l.session-index l.config.sessions.items) ≡ run_inputs l.file l.config l.replays
