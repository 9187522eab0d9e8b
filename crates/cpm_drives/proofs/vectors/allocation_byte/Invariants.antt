use Rattle.std.proofs.Common.{◌≡◌, ◌≤◌, ◌+◌, ◌-◌, ◌^◌, map, sum}
use Rattle.std.specs.List.{range_with_len}
use Rattle.cpm_geom.specs.Geometry.{dpb_of}
use Rattle.cpm_drives.specs.Vectors.{allocation_bit}
use Rattle.cpm_drives.proofs.vectors.allocation_byte.Given as goal

abbrev pub invariant-loop-offset : goal.invariant-loop-offset
invariant-loop-offset l =
    (l.byte ≡ sum (map (allocation_bit (dpb_of l.format) l.reserved l.place) (range_with_len 0 l.offset))) × (l.byte + 2 ^ (8 - l.offset) ≤ 256)
