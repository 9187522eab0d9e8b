use Rattle.std.proofs.Common.{◌++◌, ap, sym, ◌∙◌}
use Rattle.cpm_asm_expression.specs.Names.{in_table}
use Rattle.cpm_asm.specs.Pieces.{seen_piece, statements_left}
use Rattle.cpm_asm.specs.Statements.{seen_statement}
use Rattle.cpm_asm.specs.Passes.{second_pass}
use Rattle.cpm_asm.specs.Placing.{places_from}
use Rattle.cpm_asm.proofs.Passing.{place-last, place-on, second-on, second-last, second-ends}
use Rattle.cpm_asm.proofs.pass.second_pass.Goals as goal

pub returns-in-Some-second_fault-clause-image : goal.returns-in-Some-second_fault-clause-image
returns-in-Some-second_fault-clause-image c =
    let l = c.loop-piece in
    let x = seen_piece c.in-Some.piece in
    let xs = statements_left c.in-Some.behind in
    let s = seen_statement c.statement_at-statement.result in
    let t = in_table c.args.names.now in
    sym l.invariant.same ∙ ap (second_pass t l.assembly.image.items l.place) c.in-Some.ensures.pieces
    ∙ second-ends t l.assembly.image.items l.place x xs s c.in-Ok.measure c.in-Ok.doubt c.in-Some-second_fault.kind c.statement_at-statement.ensures
    c.in-Ok.ensures.measure c.in-Ok.ensures.doubt (sym c.second_fault.ensures ∙ c.in-Some-second_fault.is)

pub returns-then-is_end_statement-clause-image : goal.returns-then-is_end_statement-clause-image
returns-then-is_end_statement-clause-image c =
    let l = c.loop-piece in
    let x = seen_piece c.in-Some.piece in
    let xs = statements_left c.in-Some.behind in
    let s = seen_statement c.statement_at-statement.result in
    let t = in_table c.args.names.now in
    sym l.invariant.same ∙ ap (second_pass t l.assembly.image.items l.place) c.in-Some.ensures.pieces
    ∙ second-last t l.assembly.image.items c.lay_statement.new.assembly.image.items l.place x xs s c.in-Ok.measure c.in-Ok.doubt c.statement_at-statement.ensures
    c.in-Ok.ensures.measure c.in-Ok.ensures.doubt (sym c.second_fault.ensures ∙ c.in_default-second_fault.is) (sym c.if-is_end_statement.ensures) c.in-Ok.ensures.bytes

pub returns-then-is_end_statement-clause-places : goal.returns-then-is_end_statement-clause-places
returns-then-is_end_statement-clause-places c =
    let l = c.loop-piece in
    let x = seen_piece c.in-Some.piece in
    let xs = statements_left c.in-Some.behind in
    let s = seen_statement c.statement_at-statement.result in
    let t = in_table c.args.names.now in
    place-last t l.assembly.places.items c.lay_statement.new.assembly.places.items l.place x xs s c.in-Ok.measure c.statement_at-statement.ensures
    c.in-Ok.ensures.measure (sym c.if-is_end_statement.ensures) c.in-Ok.ensures.placed
    ∙ ap (λ ps. l.assembly.places.items ++ places_from t l.place ps) (sym c.in-Some.ensures.pieces) ∙ l.invariant.places

pub loop-piece-preserved : goal.loop-piece-preserved
loop-piece-preserved c =
    let l = c.loop-piece in
    let x = seen_piece c.in-Some.piece in
    let xs = statements_left c.in-Some.behind in
    let s = seen_statement c.statement_at-statement.result in
    let t = in_table c.args.names.now in
    record {
      same = second-on t l.assembly.image.items c.lay_statement.new.assembly.image.items l.place x xs s c.in-Ok.measure c.in-Ok.doubt c.position_after-place.result c.statement_at-statement.ensures
          c.in-Ok.ensures.measure c.in-Ok.ensures.doubt (sym c.second_fault.ensures ∙ c.in_default-second_fault.is) (sym c.if-is_end_statement.ensures) c.in-Ok.ensures.bytes c.position_after-place.ensures.place
          ∙ ap (second_pass t l.assembly.image.items l.place) (sym c.in-Some.ensures.pieces) ∙ l.invariant.same;
      places = place-on t l.assembly.places.items c.lay_statement.new.assembly.places.items l.place x xs s c.in-Ok.measure c.position_after-place.result c.statement_at-statement.ensures
          c.in-Ok.ensures.measure (sym c.if-is_end_statement.ensures) c.in-Ok.ensures.placed c.position_after-place.ensures.place
          ∙ ap (λ ps. l.assembly.places.items ++ places_from t l.place ps) (sym c.in-Some.ensures.pieces) ∙ l.invariant.places;
      place = c.position_after-place.ensures.within;
      lines = c.in-Some.ensures.lines;
    }
