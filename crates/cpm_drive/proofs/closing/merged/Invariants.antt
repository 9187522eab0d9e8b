use Rattle.std.proofs.Common.{◌≡◌, ℕ, ◌<◌, cond, eqb, length, get_or}
use Rattle.cpm_drive.proofs.closing.merged.Given as goal

abbrev pub invariant-loop-place : goal.invariant-loop-place
invariant-loop-place l =
    (length l.both ≡ 16) × ((k : ℕ) → k < l.place → get_or l.both k 0 ≡ cond (eqb (get_or l.blocks k 0) 0) (get_or l.stored k 0) (get_or l.blocks k 0))
