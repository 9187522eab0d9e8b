-- The blocks that are free for a file.
use Rattle.std.proofs.Common.{◌≡◌, ℕ, ◌+◌, Bool, not, ◌&&◌, ◌||◌, ltb, List, length}
use Rattle.std.specs.List.{list_any}
use Rattle.std.proofs.lemmas.List.FromFn.{length-map-range_with_len}
use Rattle.cpm_geom.specs.declared.dpb.Dpb.{Dpb}
use Rattle.cpm_volume.specs.declared.extent.Entry.{Entry}
use Rattle.cpm_volume.specs.Reserved.{is_reserved, is_directory_block}
use Rattle.cpm_volume.specs.Names.{is_erased, reserved_after}
use Rattle.cpm_directory.specs.Login.{has_block, reserved_at_login}

pub login_length : (d : Dpb) (es : List Entry) → length (reserved_at_login d es) ≡ d.last_block + 1
unfolding reserved_at_login
login_length d es = length-map-range_with_len (λ b. is_directory_block d b || (ltb 0 b && list_any (has_block b) es)) 0 (d.last_block + 1)

pub after_length : (d : Dpb) (user : ℕ) (name : List ℕ) (es : List Entry) (reserved : List Bool) → length (reserved_after d user name es reserved) ≡ length reserved
unfolding reserved_after
after_length d user name es reserved = length-map-range_with_len (λ b. is_reserved reserved b && (is_directory_block d b || not (is_erased user name es b))) 0 (length reserved)
