use Rattle.std.proofs.Common.{◌≡◌, ◌<◌, take, IfSome}
use Rattle.cpm_volume.specs.Names.{compute_size_on_volume}
use Rattle.cpm_directory.specs.Directory.{entries_of}
use Rattle.cpm_drive.proofs.searching.compute_size.Given as goal

abbrev pub invariant-loop-index : goal.invariant-loop-index
invariant-loop-index l =
    (l.size ≡ compute_size_on_volume (take l.index (entries_of l.image)) l.user l.name) × IfSome l.size (λ size. size < 65664)
