use Rattle.std.proofs.Common.{option_map, take}
use Rattle.cpm_disk_commands.specs.Changed.{AreFilesCompared}
use Rattle.cpm_disk_commands.proofs.changed.compare_files.Given as goal

abbrev pub invariant-loop-file : goal.invariant-loop-file
invariant-loop-file l = AreFilesCompared (option_map (λ d. d.now) l.start) l.left (take l.file-index l.files) l.compared.items
