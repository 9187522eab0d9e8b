use Rattle.std.proofs.Common.{◌≡◌, ◌++◌, drop, map}
use Rattle.cpm_disk_commands.specs.Folder.{folder_name}
use Rattle.cpm_commands.specs.Drives.{placed_in, placed_view}
use Rattle.cpm_commands.proofs.drives.placed_files.Given as goal

abbrev pub invariant-loop-name : goal.invariant-loop-name
invariant-loop-name l =
    map placed_view l.files.items ++ placed_in l.folder (map folder_name (drop l.name-index l.kept)) ≡ placed_in l.fn.folder (map folder_name l.fn.kept)
