use Rattle.std.proofs.Common.{◌≡◌, ◌<◌, ◌&&◌, ◌||◌, not, ℕ, length, get_or, take, true}
use Rattle.cpm_directory.specs.Directory.{entries_of}
use Rattle.cpm_volume.specs.Reserved.{is_directory_block}
use Rattle.cpm_volume.specs.Names.{is_erased}
use Rattle.cpm_directory.proofs.reserved.without_files.Given as goal

abbrev pub invariant-loop-index : goal.invariant-loop-index
invariant-loop-index l =
    (length l.blocks ≡ 512) × ((b : ℕ) → b < 512 → get_or l.blocks b true ≡ (get_or l.initial.blocks b true && (is_directory_block l.dpb b || not (is_erased l.user l.name (take l.index (entries_of l.image)) b))))
