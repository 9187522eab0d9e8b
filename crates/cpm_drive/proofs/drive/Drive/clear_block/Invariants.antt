use Rattle.std.proofs.Common.{◌≡◌, map}
use Rattle.std.specs.List.{range_with_len}
use Rattle.cpm_geom.specs.Geometry.{dpb_of}
use Rattle.cpm_drive.specs.Writes.{drive_written}
use Rattle.cpm_drive.proofs.PutLemmas.{zero_put}
use Rattle.cpm_drive.proofs.drive.Drive.clear_block.Given as goal

abbrev pub invariant-loop-place : goal.invariant-loop-place
invariant-loop-place l =
    (l.self.image.format ≡ l.initial.self.image.format) × (l.self ≡ drive_written l.initial.self (map (zero_put (dpb_of l.initial.self.image.format) l.block) (range_with_len 0 l.place)))
