use Rattle.std.proofs.Common.{◌≡◌, take, false}
use Rattle.std.specs.List.{list_any}
use Rattle.cpm_volume.specs.Names.{protects}
use Rattle.cpm_directory.specs.Directory.{entries_of}
use Rattle.cpm_drive.proofs.named.has_read_only.Given as goal

abbrev pub invariant-loop-index : goal.invariant-loop-index
invariant-loop-index l =
    list_any (protects l.user l.name) (take l.index (entries_of l.image)) ≡ false
