-- The number so far, and the digits that are left.
use Rattle.std.proofs.Common.{◌≡◌, drop}
use Rattle.cpm_asm_expression.specs.Numbers.{number_to_base}
use Rattle.cpm_asm_expression.proofs.numbers.number_to_base.Given as goal

abbrev pub invariant-loop-digit : goal.invariant-loop-digit
invariant-loop-digit l = number_to_base l.base l.number (drop l.digit-index l.digits) ≡ number_to_base l.base 0 l.digits
