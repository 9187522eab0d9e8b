use Rattle.std.proofs.Common.{◌∙◌, ◌++◌, ◌∷◌, [], ℕ, List, ap, arith, sym}
use Rattle.std.proofs.lemmas.List.{append_assoc, drop_all}
use Rattle.cpm_screen.specs.declared.cell.ScreenCell.{ScreenCell}
use Rattle.cpm_screen.specs.Pictures.{cells_page, span_ended}
use Rattle.cpm_screen.proofs.PictureLemmas.{page_grown}
use Rattle.cpm_screen.proofs.picture.append_page_line.Goals as goal

pub loop-column-preserved : goal.loop-column-preserved
loop-column-preserved c =
    page_grown c.loop-column.look c.args.cells.now c.loop-column.column _ c.args.out.now.items c.loop-column.out.items c.change_span.new.out.items
    c.append_escaped.new.out.items c.seen-cell.result (omega arith) c.loop-column.invariant c.seen-cell.ensures c.in_ok-change_span.ensures c.in_ok-append_escaped.ensures

pub returns : goal.returns
unfolding cells_page
returns c =
    let cells = c.args.cells.now in
    let look = c.loop-column.look in
    let out = c.loop-column.out.items in
    let rest = ap (λ (cs : List ScreenCell). out ++ cells_page look cs) (drop_all c.loop-column.column cells (omega arith)) in
    c.in_ok-push.ensures.items ∙ ap (λ (xs : List ℕ). xs ++ 0x0A ∷ []) c.in_ok-end_span.ensures
    ∙ append_assoc out (span_ended look) (0x0A ∷ []) ∙ sym rest ∙ c.loop-column.invariant
