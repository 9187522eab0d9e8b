-- Zeros so far.
use Rattle.std.proofs.Common.{◌≡◌, ◌++◌, replicate}
use Rattle.cpm_asm.proofs.emit.add_zeros.Given as goal

abbrev pub invariant-loop-index : goal.invariant-loop-index
invariant-loop-index l = l.image.items ≡ l.fn.image.items ++ replicate l._index 0
