use Rattle.std.proofs.Common.{◌≡◌, ◌++◌, map, take}
use Rattle.cpm_config.specs.Files.{file_view}
use Rattle.cpm_commands.specs.Plan.{named_files}
use Rattle.cpm_commands.specs.Run.{planned_file}
use Rattle.cpm_commands.proofs.run.add_outputs.Given as goal

abbrev pub invariant-loop-file : goal.invariant-loop-file
invariant-loop-file l = named_files l.files.items ≡ named_files l.fn.files.items ++ map planned_file (map file_view (take l.file-index l.file-items))
