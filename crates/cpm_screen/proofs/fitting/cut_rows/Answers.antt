use Rattle.std.proofs.Common.{◌≡◌, ◌<◌, ◌+◌, ◌-◌, ◌++◌, ℕ, List, [], length, take, drop, set, ap, ◌∙◌, arith}
use Rattle.std.proofs.lemmas.List.{get_or_read}
use Rattle.cpm_screen.specs.declared.cell.ScreenCell.{ScreenCell}
use Rattle.cpm_screen.specs.Painting.{painted_first}
use Rattle.cpm_screen.proofs.FitLemmas.{last_set}
use Rattle.cpm_screen.proofs.PaintLemmas.{first_set}
use Rattle.cpm_screen.proofs.fitting.cut_rows.Goals as goal

pub loop-place-preserved : goal.loop-place-preserved
loop-place-preserved c =
    let rows : List (List ScreenCell) = c.args.rows.now in
    let others : List (List ScreenCell) = c.args.others.now in
    let n = c.loop-place.place in
    let in_rows : n < length rows = omega (arith, c.requires.some) in
    let in_others : n < length others = omega (arith, c.requires.fewer) in
    let read = get_or_read others n c.index-others-place.result in_others c.index-others-place.is [] in
    let new = c.copy_from.ensures ∙ read in
    ap (λ (rs : List (List ScreenCell)). set rs n c.copy_from.new.self) c.loop-place.invariant
    ∙ ap (λ (r : List ScreenCell). set (take n others ++ drop n rows) n r) new
    ∙ first_set rows others n [] in_rows in_others

pub returns : goal.returns
returns c =
    let rows : List (List ScreenCell) = c.args.rows.now in
    let others : List (List ScreenCell) = c.args.others.now in
    let last = length rows - 1 in
    let ended : c.loop-place.place ≡ last = omega arith in
    let first = c.loop-place.invariant ∙ ap (λ (n : ℕ). painted_first n rows others) ended in
    let some : last + 1 ≡ length rows = omega (arith, c.requires.some) in
    last_set rows others last c.loop-place.rows c.notice.new.self _ some c.requires.fewer first c.notice.ensures
