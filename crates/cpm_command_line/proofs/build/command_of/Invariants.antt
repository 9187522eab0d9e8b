-- The arguments so far are there, and none is shared with subcommands.
use Rattle.std.proofs.Common.{◌≡◌, false, drop}
use Rattle.clap.specs.Words.{app_of, new_app}
use Rattle.clap.specs.declared.builder.command.Command.TheViews.{out-Command}
use Rattle.cpm_command_line.specs.Arguments.{with_arguments}
use Rattle.cpm_command_line.proofs.build.command_of.Given as goal

abbrev pub invariant-loop-argument : goal.invariant-loop-argument
invariant-loop-argument l =
    (with_arguments (app_of l.command) (drop l.argument-index l.arguments) ≡ with_arguments (new_app l.name) l.arguments)
    × ((out-Command l.command).has_globals ≡ false)
