use Rattle.std.proofs.Common.{◌≡◌, drop}
use Rattle.cpm_commands.specs.Disk.{with_new}
use Rattle.cpm_commands.proofs.disk.add_new.Given as goal

abbrev pub invariant-loop-file : goal.invariant-loop-file
invariant-loop-file l = with_new l.files.items (drop l.file-index l.others) ≡ with_new l.fn.files.items l.fn.others
