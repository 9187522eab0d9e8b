-- The commands so far are there, and none has an argument that its subcommands share.
use Rattle.std.proofs.Common.{◌≡◌, false, drop}
use Rattle.clap.specs.Words.{app_of}
use Rattle.clap.specs.declared.builder.command.Command.TheViews.{out-Command}
use Rattle.cpm_command_line.specs.Arguments.{with_commands}
use Rattle.cpm_command_line.specs.CommandLine.{top_app}
use Rattle.cpm_command_line.proofs.build.command_with.Given as goal

abbrev pub invariant-loop-inner : goal.invariant-loop-inner
invariant-loop-inner l =
    (with_commands (app_of l.command) (drop l.inner-index l.commands) ≡ with_commands (top_app l.name) l.commands)
    × ((out-Command l.command).has_globals ≡ false)
