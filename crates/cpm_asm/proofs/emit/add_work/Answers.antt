use Rattle.std.proofs.Common.{ap, sym, ◌∙◌, ◌++◌, ◌%◌}
use Rattle.cpm_asm_expression.specs.Names.{in_table}
use Rattle.cpm_asm_expression.specs.declared.values.CheckedValue.{CheckedValue}
use Rattle.cpm_decode.specs.declared.operation.Op.{Op}
use Rattle.cpm_asm.specs.Data.{byte_doubt}
use Rattle.cpm_asm.specs.Emitting.{emitted}
use Rattle.cpm_asm.specs.Encoding.{encoded, op_with_byte, op_with_word}
use Rattle.cpm_asm.specs.Statements.{seen_work}
use Rattle.cpm_asm.specs.declared.statement.Work.{Work}
use Rattle.cpm_asm.proofs.emit.add_work.Goals as goal

pub returns-in_ok-add_op-in-Byte-clause-bytes : goal.returns-in_ok-add_op-in-Byte-clause-bytes
unfolding emitted
returns-in_ok-add_op-in-Byte-clause-bytes c =
    let image = c.args.image.now.items in
    c.in_ok-add_op-in-Byte.ensures ∙ ap (λ (o : Op). image ++ encoded o) c.op_with_byte.ensures
    ∙ ap (λ (v : CheckedValue). image ++ encoded (op_with_byte c.in-Byte.form (v.number % 256))) c.in_ok-found-in-Byte.ensures
    ∙ ap (λ (w : Work). image ++ (emitted (in_table c.args.names.now) c.args.here c.args.next (seen_work w)).bytes) (sym c.in-Byte.is)

pub returns-in_ok-add_op-in-Byte-clause-doubt : goal.returns-in_ok-add_op-in-Byte-clause-doubt
unfolding emitted
returns-in_ok-add_op-in-Byte-clause-doubt c =
    c.byte_doubt.ensures ∙ ap byte_doubt c.in_ok-found-in-Byte.ensures
    ∙ ap (λ (w : Work). (emitted (in_table c.args.names.now) c.args.here c.args.next (seen_work w)).doubt) (sym c.in-Byte.is)

pub returns-in_ok-add_op-in-Word-clause-bytes : goal.returns-in_ok-add_op-in-Word-clause-bytes
unfolding emitted
returns-in_ok-add_op-in-Word-clause-bytes c =
    let image = c.args.image.now.items in
    c.in_ok-add_op-in-Word.ensures ∙ ap (λ (o : Op). image ++ encoded o) c.op_with_word.ensures
    ∙ ap (λ (v : CheckedValue). image ++ encoded (op_with_word c.in-Word.form v.number)) c.in_ok-found-in-Word.ensures
    ∙ ap (λ (w : Work). image ++ (emitted (in_table c.args.names.now) c.args.here c.args.next (seen_work w)).bytes) (sym c.in-Word.is)
