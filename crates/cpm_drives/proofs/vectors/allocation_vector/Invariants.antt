use Rattle.std.proofs.Common.{◌≡◌, map}
use Rattle.std.specs.List.{range_with_len}
use Rattle.arrayvec.specs.ArrayVec.{array_vec_len}
use Rattle.cpm_geom.specs.Geometry.{dpb_of}
use Rattle.cpm_drives.specs.Vectors.{allocation_byte}
use Rattle.cpm_drives.proofs.vectors.allocation_vector.Given as goal

abbrev pub invariant-loop-place : goal.invariant-loop-place
invariant-loop-place l =
    (l.bytes.items ≡ map (allocation_byte (dpb_of l.format) l.reserved) (range_with_len 0 l.place)) × (array_vec_len l.bytes ≡ l.place)
