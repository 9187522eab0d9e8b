use Rattle.std.proofs.Common.{◌≡◌, ◌++◌, drop}
use Rattle.cpm_commands.specs.Drives.{files_given}
use Rattle.cpm_commands.specs.Plan.{named_files}
use Rattle.cpm_commands.proofs.drives.add_placed.Given as goal

abbrev pub invariant-loop-file : goal.invariant-loop-file
invariant-loop-file l =
    named_files l.inputs.items ++ files_given (drop l.file-index l.files) ≡ named_files l.fn.inputs.items ++ files_given l.fn.files
