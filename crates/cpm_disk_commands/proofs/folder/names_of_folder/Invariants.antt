use Rattle.std.proofs.Common.{map}
use Rattle.std.specs.Prelude.{string_bytes}
use Rattle.cpm_disk_commands.proofs.FolderLemmas.{AreSorted}
use Rattle.cpm_disk_commands.proofs.folder.names_of_folder.Given as goal

abbrev pub invariant-loop-name : goal.invariant-loop-name
invariant-loop-name l = AreSorted (map string_bytes l.names) l.name-index l.kept.items (map (λ n. n.now) l.left_out.items)
