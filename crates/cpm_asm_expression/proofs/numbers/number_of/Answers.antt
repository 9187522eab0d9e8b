use Rattle.std.proofs.Common.{ap, sym, ◌∙◌}
use Rattle.cpm_asm_expression.specs.Numbers.{number_of_digits}
use Rattle.cpm_asm_expression.proofs.LastDigits.{by_last, number_in-last}
use Rattle.cpm_asm_expression.proofs.numbers.number_of.Goals as goal

pub returns-in-Some : goal.returns-in-Some
returns-in-Some c =
    let all = c.without_dollars-digits.result.now in
    let front = c.in_ok-last.front.now in
    let last = number_in-last all front c.in_ok-last.last.now c.in_ok-last.ensures.cases.0 in
    c.number_to_base.ensures ∙ ap (by_last all front) c.in-Some.ensures.base ∙ sym last ∙ ap number_of_digits c.without_dollars-digits.ensures

pub returns-in-None : goal.returns-in-None
returns-in-None c =
    let all = c.without_dollars-digits.result.now in
    let front = c.in_ok-last.front.now in
    let last = number_in-last all front c.in_ok-last.last.now c.in_ok-last.ensures.cases.0 in
    c.number_to_base-in-None.ensures ∙ ap (by_last all front) c.in-None.ensures.base ∙ sym last ∙ ap number_of_digits c.without_dollars-digits.ensures
