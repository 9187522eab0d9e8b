-- What is settled so far is settled on.
use Rattle.std.proofs.Common.{◌≡◌, reverse, vec_len}
use Rattle.cpm_asm_expression.specs.Reading.{settled}
use Rattle.cpm_asm_expression.proofs.reader.settle.Given as goal

abbrev pub invariant-loop-last : goal.invariant-loop-last
invariant-loop-last l = settled l.next l.value (reverse l.waiting.items) ≡ settled l.next l.fn.own (reverse l.fn.waiting.items)

abbrev pub decreases-loop-last : goal.decreases-loop-last
decreases-loop-last l = vec_len l.waiting
