-- The blocks that are reserved where a drive is logged in.
use Rattle.std.specs.Prelude.{ℕ, ◌+◌, ◌==◌, ◌&&◌, ◌||◌, nat_lt, Bool, not, List, map}
use Rattle.std.specs.List.{list_any, range_with_len}
use Rattle.cpm_geom.specs.declared.dpb.Dpb.{Dpb}
use Rattle.cpm_volume.specs.declared.extent.Entry.{Entry}
use Rattle.cpm_volume.specs.Files.{deleted, is_directory_block}

-- the entry is in use and has the block's number
unfoldable pub has_block : ℕ → Entry → Bool
has_block b e = not (e.user == deleted) && list_any (λ number. number == b) e.extent.blocks

-- the reserved blocks of a drive that is logged in: those of the directory, and all numbers from 1 on in entries in use
unfoldable pub reserved_at_login : Dpb → List Entry → List Bool
reserved_at_login d es =
    map (λ b. is_directory_block d b || (nat_lt 0 b && list_any (has_block b) es)) (range_with_len 0 (d.last_block + 1))
