use Rattle.std.proofs.Common.{◌≡◌, ◌++◌, drop}
use Rattle.cpm_disk_commands.specs.Listing.{lines_of}
use Rattle.cpm_disk_commands.proofs.lines.add_lines.Given as goal

abbrev pub invariant-loop-file : goal.invariant-loop-file
invariant-loop-file l = l.text.items ++ lines_of l.user (drop l.file-index l.files) ≡ l.fn.text.items ++ lines_of l.fn.user l.fn.files
