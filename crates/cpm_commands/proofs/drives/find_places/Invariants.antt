use Rattle.std.proofs.Common.{map, take}
use Rattle.cpm_commands.specs.Drives.{ArePlacesFound}
use Rattle.cpm_commands.proofs.drives.find_places.Given as goal

abbrev pub invariant-loop-name : goal.invariant-loop-name
invariant-loop-name g l =
    ArePlacesFound g.F.CommandFiles.tells_folder g.F.CommandFiles.lists l.files (map (λ n. n.now) (take l.name-index l.names)) l.places.items
