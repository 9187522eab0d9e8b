use Rattle.std.proofs.Common.{ap, ◌∙◌}
use Rattle.std.specs.Prelude.{is_some}
use Rattle.cpm_asm_expression.specs.Reading.{value_at}
use Rattle.cpm_asm.specs.Data.{is_expression}
use Rattle.cpm_asm.proofs.Empty.{in_table-empty}
use Rattle.cpm_asm.proofs.values.is_expression.Goals as goal

pub returns : goal.returns
unfolding is_expression
returns c =
    let none = in_table-empty c.new-no_names.result c.new-no_names.ensures.empty in
    c.is_some.ensures ∙ ap is_some c.in_ok-value_of.ensures ∙ ap (λ m. is_some (value_at m 0 c.args.text.now)) none
