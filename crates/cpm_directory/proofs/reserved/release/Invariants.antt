use Rattle.std.proofs.Common.{◌≡◌, ◌<◌, ◌&&◌, ◌||◌, not, ltb, eqb, ℕ, length, get_or, take, true}
use Rattle.std.specs.List.{list_any}
use Rattle.cpm_volume.specs.Reserved.{is_directory_block}
use Rattle.cpm_directory.proofs.reserved.release.Given as goal

abbrev pub invariant-loop-number : goal.invariant-loop-number
invariant-loop-number l =
    (length l.blocks ≡ 512) × ((b : ℕ) → b < 512 → get_or l.blocks b true ≡ (get_or l.initial.blocks b true && (is_directory_block l.dpb b || not (ltb 0 b && list_any (λ number. eqb number b) (take l.number-index l.numbers)))))
