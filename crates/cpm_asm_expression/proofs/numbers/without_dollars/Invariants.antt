-- What falls away are dollar signs.
use Rattle.std.proofs.Common.{◌≡◌, length}
use Rattle.cpm_asm_expression.specs.Numbers.{without_dollars}
use Rattle.cpm_asm_expression.proofs.numbers.without_dollars.Given as goal

abbrev pub invariant-loop-last : goal.invariant-loop-last
invariant-loop-last l = without_dollars l.front ≡ without_dollars l.text

abbrev pub decreases-loop-last : goal.decreases-loop-last
decreases-loop-last l = length l.front
