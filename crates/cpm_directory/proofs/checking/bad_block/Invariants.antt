use Rattle.std.proofs.Common.{◌≡◌, ◌<◌, ℕ, get_or, false}
use Rattle.cpm_directory.specs.WellFormed.{is_bad_block}
use Rattle.cpm_directory.proofs.checking.bad_block.Given as goal

abbrev pub invariant-loop-block : goal.invariant-loop-block
invariant-loop-block l = (k : ℕ) → k < l.block-index → is_bad_block l.dpb (get_or l.block-items k 0) ≡ false
