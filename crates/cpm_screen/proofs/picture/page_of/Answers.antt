use Rattle.std.proofs.Common.{◌∙◌, ◌++◌, ℕ, List, ap, arith, take}
use Rattle.std.specs.List.{flat_map}
use Rattle.std.proofs.lemmas.List.{take_all}
use Rattle.cpm_screen.specs.declared.cell.ScreenCell.{ScreenCell}
use Rattle.cpm_screen.specs.declared.cell.TheConstants.{PLAIN}
use Rattle.cpm_screen.specs.Pictures.{cells_page, page_foot, page_head}
use Rattle.cpm_screen.proofs.picture.page_of.Goals as goal

pub returns : goal.returns
unfolding page_foot
returns c =
    let s = c.args.screen.now in
    let lines = λ (rows : List (List ScreenCell)). page_head ++ flat_map (λ row. cells_page PLAIN (take s.columns row)) rows in
    let whole = take_all c.loop-row.row s.lines (omega (arith, c.rows-row-end.ensures.value)) in
    c.in_ok-extend_from_slice.ensures.items ∙ ap (λ (xs : List ℕ). xs ++ page_foot) (c.loop-row.invariant ∙ ap lines whole)
