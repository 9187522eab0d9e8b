use Rattle.std.proofs.Common.{◌<◌, [], subst, ap, sym, ◌∙◌, arith, length, reverse}
use Rattle.cpm_asm_expression.specs.Names.{in_table}
use Rattle.cpm_asm_expression.specs.Tokens.{tokens_of, tokens_or_end}
use Rattle.cpm_asm_expression.specs.Reading.{Wants, after_token, state}
use Rattle.cpm_asm_expression.proofs.Lexing.{Leaves, blanks-leave, token-leaves}
use Rattle.cpm_asm_expression.proofs.Quoted.{not_empty}
use Rattle.cpm_asm_expression.proofs.Readings.{read_on, reads-start, reads-first}
use Rattle.cpm_asm_expression.proofs.reader.value_of.Goals as goal

pub loop-rest-init : goal.loop-rest-init
loop-rest-init c =
    let m = in_table c.args.names.now in
    ap (λ ws. read_on m c.args.here (Wants (reverse ws)) (tokens_or_end c.after_blanks-rest.result.now tokens_of)) c.new-waiting.ensures.items
    ∙ ap (λ rest. read_on m c.args.here (Wants []) (tokens_or_end rest tokens_of)) c.after_blanks-rest.ensures
    ∙ reads-start m c.args.here c.args.text.now

pub loop-rest-smaller : goal.loop-rest-smaller
loop-rest-smaller c =
    let rest = c.loop-rest.rest.now in
    let behind = c.in-Some.behind.now in
    let less : length behind < length rest = subst (Leaves (length rest)) (sym c.in-Some.ensures) (token-leaves rest) in
    omega (arith, less, blanks-leave behind, ap length c.after_blanks-rest-in-loop-rest.ensures)

pub loop-rest-preserved : goal.loop-rest-preserved
loop-rest-preserved c =
    let m = in_table c.args.names.now in
    let rest = c.loop-rest.rest.now in
    let behind = c.in-Some.behind.now in
    ap (λ s. read_on m c.args.here s (tokens_or_end c.after_blanks-rest-in-loop-rest.result.now tokens_of)) c.in_ok-stage.ensures
    ∙ ap (λ r. read_on m c.args.here (after_token m c.args.here (state c.loop-rest.stage (reverse c.loop-rest.waiting.items)) c.in-Some.token) (tokens_or_end r tokens_of)) c.after_blanks-rest-in-loop-rest.ensures
    ∙ sym (reads-first m c.args.here (state c.loop-rest.stage (reverse c.loop-rest.waiting.items)) rest c.in-Some.token behind (not_empty rest c.loop-rest-test.ensures) (sym c.in-Some.ensures))
    ∙ c.loop-rest.invariant
