use Rattle.std.proofs.Common.{◌≡◌, ◌<◌, ◌||◌, ℕ, length, get_or, take, true}
use Rattle.std.specs.List.{list_any}
use Rattle.cpm_directory.specs.Directory.{entries_of}
use Rattle.cpm_volume.specs.Reserved.{is_directory_block}
use Rattle.cpm_directory.specs.Login.{has_block}
use Rattle.cpm_directory.proofs.reserved.login.Given as goal

abbrev pub invariant-loop-index : goal.invariant-loop-index
invariant-loop-index l =
    (length l.blocks ≡ 512) × (get_or l.blocks 0 true ≡ is_directory_block l.dpb 0) × ((b : ℕ) → 0 < b → b < 512 → get_or l.blocks b true ≡ (is_directory_block l.dpb b || list_any (has_block b) (take l.index (entries_of l.image))))
