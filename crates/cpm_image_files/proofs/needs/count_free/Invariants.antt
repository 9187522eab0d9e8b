use Rattle.std.proofs.Common.{◌≡◌, not, take}
use Rattle.std.specs.List.{count_by}
use Rattle.cpm_image_files.proofs.needs.count_free.Given as goal

abbrev pub invariant-loop-block : goal.invariant-loop-block
invariant-loop-block l = l.free ≡ count_by not (take l.block l.reserved)
