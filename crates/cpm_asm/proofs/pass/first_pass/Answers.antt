use Rattle.std.proofs.Common.{ap, sym, ◌∙◌, subst, arith}
use Rattle.std.specs.Prelude.{Result}
use Rattle.cpm_asm_expression.specs.Names.{NameTable, in_table}
use Rattle.cpm_asm.specs.Pieces.{seen_piece, statements_left}
use Rattle.cpm_asm.specs.Statements.{seen_statement}
use Rattle.cpm_asm.specs.Passes.{Gives, first_pass}
use Rattle.cpm_asm.specs.declared.error.AsmError.{AsmError}
use Rattle.cpm_asm.proofs.Passing.{first-on, first-last}
use Rattle.cpm_asm.proofs.pass.first_pass.Goals as goal

pub returns-then-is_end_statement : goal.returns-then-is_end_statement
returns-then-is_end_statement c =
    let l = c.loop-piece in
    let x = seen_piece c.in-Some.piece in
    let xs = statements_left c.in-Some.behind in
    let s = seen_statement c.statement_at-statement.result in
    let whole = first-last (in_table l.names) l.place x xs s c.in-Ok.measure (in_table c.define.new.names) c.statement_at-statement.ensures
    c.in-Ok.ensures.measure (sym c.in-Ok.ensures.fault ∙ c.in_default-fault.is) (sym c.if-is_end_statement.ensures) c.in-Ok-define.ensures
    ∙ ap (first_pass (in_table l.names) l.place) (sym c.in-Some.ensures.pieces) ∙ l.invariant.same in
    subst (λ (r : Result NameTable AsmError). Gives in_table c.at_end.result r) whole c.at_end.ensures

pub loop-piece-preserved : goal.loop-piece-preserved
loop-piece-preserved c =
    let l = c.loop-piece in
    let x = seen_piece c.in-Some.piece in
    let xs = statements_left c.in-Some.behind in
    let s = seen_statement c.statement_at-statement.result in
    record {
      same = first-on (in_table l.names) l.place x xs s c.in-Ok.measure (in_table c.define.new.names) c.position_after-place.result c.statement_at-statement.ensures
          c.in-Ok.ensures.measure (sym c.in-Ok.ensures.fault ∙ c.in_default-fault.is) (sym c.if-is_end_statement.ensures) c.in-Ok-define.ensures c.position_after-place.ensures.place
          ∙ ap (first_pass (in_table l.names) l.place) (sym c.in-Some.ensures.pieces) ∙ l.invariant.same;
      place = c.position_after-place.ensures.within;
      lines = c.in-Some.ensures.lines;
      small = omega (arith, c.in-Some.ensures.smaller, l.invariant.small);
    }
