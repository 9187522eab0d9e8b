use Rattle.std.proofs.Common.{◌<◌, ◌++◌, List, [], length, take, drop, set, ap, ◌∙◌, arith}
use Rattle.std.proofs.lemmas.List.{get_or_read}
use Rattle.cpm_screen.specs.declared.cell.ScreenCell.{ScreenCell}
use Rattle.cpm_screen.proofs.PaintLemmas.{first_set}
use Rattle.cpm_screen.proofs.row.copy_rows.Goals as goal

pub loop-place-preserved : goal.loop-place-preserved
loop-place-preserved c =
    let rows : List (List ScreenCell) = c.args.rows.now in
    let others : List (List ScreenCell) = c.args.others.now in
    let n = c.loop-place.place in
    let in_rows : n < length rows = omega arith in
    let in_others : n < length others = omega arith in
    let read = get_or_read others n c.index-others-place.result in_others c.index-others-place.is [] in
    let new = c.copy_from.ensures ∙ read in
    ap (λ (rs : List (List ScreenCell)). set rs n c.copy_from.new.self) c.loop-place.invariant
    ∙ ap (λ (r : List ScreenCell). set (take n others ++ drop n rows) n r) new
    ∙ first_set rows others n [] in_rows in_others
