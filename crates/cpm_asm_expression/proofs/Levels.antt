-- The levels of operators.
use Rattle.std.proofs.Common.{◌≡◌, ℕ, ◌≤◌, ◌<◌, arith}
use Rattle.cpm_asm_expression.specs.Grammar.{level, right_level}
use Rattle.cpm_asm_expression.specs.declared.tokens.Operator.{Operator}
use Rattle.cpm_asm_expression.specs.declared.tokens.Operator.TheVariants as operators

pub not_two : (o : Operator) → level o ≡ 2 → ⊥
not_two operators.Or h = omega (arith, h)
not_two operators.Xor h = omega (arith, h)
not_two operators.And h = omega (arith, h)
not_two operators.Add h = omega (arith, h)
not_two operators.Subtract h = omega (arith, h)
not_two operators.Multiply h = omega (arith, h)
not_two operators.Divide h = omega (arith, h)
not_two operators.Modulo h = omega (arith, h)
not_two operators.ShiftLeft h = omega (arith, h)
not_two operators.ShiftRight h = omega (arith, h)

pub not_four : (o : Operator) → level o ≡ 4 → ⊥
not_four operators.Or h = omega (arith, h)
not_four operators.Xor h = omega (arith, h)
not_four operators.And h = omega (arith, h)
not_four operators.Add h = omega (arith, h)
not_four operators.Subtract h = omega (arith, h)
not_four operators.Multiply h = omega (arith, h)
not_four operators.Divide h = omega (arith, h)
not_four operators.Modulo h = omega (arith, h)
not_four operators.ShiftLeft h = omega (arith, h)
not_four operators.ShiftRight h = omega (arith, h)

pub right_above : (o : Operator) → level o < right_level o
right_above operators.Or = omega arith
right_above operators.Xor = omega arith
right_above operators.And = omega arith
right_above operators.Add = omega arith
right_above operators.Subtract = omega arith
right_above operators.Multiply = omega arith
right_above operators.Divide = omega arith
right_above operators.Modulo = omega arith
right_above operators.ShiftLeft = omega arith
right_above operators.ShiftRight = omega arith

pub level_low : (o : Operator) → level o ≤ 5
level_low operators.Or = omega arith
level_low operators.Xor = omega arith
level_low operators.And = omega arith
level_low operators.Add = omega arith
level_low operators.Subtract = omega arith
level_low operators.Multiply = omega arith
level_low operators.Divide = omega arith
level_low operators.Modulo = omega arith
level_low operators.ShiftLeft = omega arith
level_low operators.ShiftRight = omega arith

pub right_low : (o : Operator) → right_level o ≤ 6
right_low operators.Or = omega arith
right_low operators.Xor = omega arith
right_low operators.And = omega arith
right_low operators.Add = omega arith
right_low operators.Subtract = omega arith
right_low operators.Multiply = omega arith
right_low operators.Divide = omega arith
right_low operators.Modulo = omega arith
right_low operators.ShiftLeft = omega arith
right_low operators.ShiftRight = omega arith

-- an operand of the next operator fits where the last operand of the operator before it does
pub right_fits : (q : Operator) (k : ℕ) (o : Operator) → k ≡ level o → level q < k → right_level q ≤ k
right_fits operators.Or k o e h = omega (arith, not_two o, not_four o, level_low o, e, h)
right_fits operators.Xor k o e h = omega (arith, not_two o, not_four o, level_low o, e, h)
right_fits operators.And k o e h = omega (arith, not_two o, not_four o, level_low o, e, h)
right_fits operators.Add k o e h = omega (arith, not_two o, not_four o, level_low o, e, h)
right_fits operators.Subtract k o e h = omega (arith, not_two o, not_four o, level_low o, e, h)
right_fits operators.Multiply k o e h = omega (arith, not_two o, not_four o, level_low o, e, h)
right_fits operators.Divide k o e h = omega (arith, not_two o, not_four o, level_low o, e, h)
right_fits operators.Modulo k o e h = omega (arith, not_two o, not_four o, level_low o, e, h)
right_fits operators.ShiftLeft k o e h = omega (arith, not_two o, not_four o, level_low o, e, h)
right_fits operators.ShiftRight k o e h = omega (arith, not_two o, not_four o, level_low o, e, h)
