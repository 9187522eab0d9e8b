-- The reserved blocks of a drive, as a list of tests.
use Rattle.std.specs.Prelude.{ℕ, ◌-◌, ◌/◌, ◌%◌, ◌^◌, ◌==◌, ◌&&◌, nat_lt, Bool, true, not, List, slice_index_or}
use Rattle.std.specs.List.{position_or_len}
use Rattle.cpm_geom.specs.declared.dpb.Dpb.{Dpb}

-- the block number is reserved; past the end all are
unfoldable pub is_reserved : List Bool → ℕ → Bool
is_reserved reserved b = slice_index_or reserved b true

-- the least number that is not reserved; the number of blocks where all are
unfoldable pub least_free : List Bool → ℕ
least_free reserved = position_or_len not reserved

-- CP/M 2.2 Operating System Manual, section 6.10, Disk Parameter Tables: AL0 and AL1 reserve the directory's blocks, the highest bit being block 0
unfoldable pub is_directory_block : Dpb → ℕ → Bool
is_directory_block d b = nat_lt b 16 && (d.directory_bits / 2 ^ (15 - b) % 2 == 1)
