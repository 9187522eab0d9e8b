use Rattle.std.proofs.Common.{◌≡◌, ◌<◌, ◌≤◌, ℕ, length, get_or, eqb, false}
use Rattle.cpm_directory.proofs.reserved.Reserved.from_marks.Given as goal

abbrev pub invariant-loop-block : goal.invariant-loop-block
invariant-loop-block l =
    (length l.blocks ≡ 512) × ((k : ℕ) → k < l.block → get_or l.blocks k false ≡ eqb (get_or l.marks k 0) 1) × ((k : ℕ) → l.block ≤ k → k < 512 → get_or l.blocks k false ≡ false)
