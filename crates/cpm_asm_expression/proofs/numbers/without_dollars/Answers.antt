use Rattle.std.proofs.Common.{◌≡◌, ap, sym, ◌∙◌, true, false, arith}
use Rattle.std.proofs.lemmas.Bool.Decides.{nat_tests}
use Rattle.cpm_asm_expression.specs.Letters.{is_dollar}
use Rattle.cpm_asm_expression.specs.Numbers.{without_dollars}
use Rattle.cpm_asm_expression.proofs.Trimming.{trimmed-dollar, trimmed-other}
use Rattle.cpm_asm_expression.proofs.numbers.without_dollars.Goals as goal

pub loop-last-preserved : goal.loop-last-preserved
loop-last-preserved c =
    let here : is_dollar c.in-Some.last.now ≡ true = ap is_dollar c.if-last-ne36.false in
    sym (ap without_dollars c.in-Some.ensures.cases.0 ∙ trimmed-dollar c.in-Some.before.now c.in-Some.last.now here) ∙ c.loop-last.invariant

pub returns-then-last-ne36 : goal.returns-then-last-ne36
returns-then-last-ne36 c =
    let other = c.if-last-ne36.true in
    let here : is_dollar c.in-Some.last.now ≡ false = grind (arith, nat_tests) in
    c.in-Some.ensures.cases.0 ∙ sym (trimmed-other c.in-Some.before.now c.in-Some.last.now here) ∙ sym (ap without_dollars c.in-Some.ensures.cases.0) ∙ c.loop-last.invariant
