use Rattle.std.proofs.Common.{◌≡◌, ◌<◌, ◌≤◌, ℕ, length, get_or, true, false}
use Rattle.cpm_volume.specs.Reserved.{is_directory_block}
use Rattle.cpm_directory.proofs.reserved.directory_blocks.Given as goal

abbrev pub invariant-loop-block : goal.invariant-loop-block
invariant-loop-block l =
    (length l.blocks ≡ 512) × ((b : ℕ) → b < l.block → get_or l.blocks b true ≡ is_directory_block l.dpb b) × ((b : ℕ) → l.block ≤ b → b < 512 → get_or l.blocks b true ≡ false)
