use Rattle.std.proofs.Common.{◌≡◌, ◌++◌, drop, map}
use Rattle.cpm_disk_commands.specs.Matching.{meant}
use Rattle.cpm_disk_commands.specs.Refusals.{file_named}
use Rattle.cpm_disk_commands.proofs.matching.files_of.Given as goal

abbrev pub invariant-loop-file : goal.invariant-loop-file
invariant-loop-file l = map file_named l.found.items ++ meant l.user l.pattern (drop l.file-index l.files) ≡ meant l.fn.user l.fn.pattern l.fn.files
