use Rattle.cpm_asm_expression.proofs.Stable.{value_stays}
use Rattle.cpm_asm_expression.proofs.laws.known_values_stay.Goals as goal

pub returns : goal.returns
returns c names more here text v extends is known = value_stays names more here text v extends is known
