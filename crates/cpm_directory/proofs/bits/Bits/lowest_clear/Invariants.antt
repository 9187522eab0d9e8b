use Rattle.std.proofs.Common.{◌≡◌, ◌<◌, ◌*◌, ℕ, get_or, true}
use Rattle.cpm_directory.specs.Bits.{tests_of}
use Rattle.cpm_directory.proofs.bits.Bits.lowest_clear.Given as goal

abbrev pub invariant-loop-row : goal.invariant-loop-row
invariant-loop-row l = (k : ℕ) → k < 64 * l.row → get_or (tests_of l.self-inside.rows) k true ≡ true
