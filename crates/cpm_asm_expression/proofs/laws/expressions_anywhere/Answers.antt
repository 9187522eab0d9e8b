use Rattle.cpm_asm_expression.proofs.Stable.{expression_anywhere}
use Rattle.cpm_asm_expression.proofs.laws.expressions_anywhere.Goals as goal

pub returns : goal.returns
returns c names others here there text = expression_anywhere names others here there text
