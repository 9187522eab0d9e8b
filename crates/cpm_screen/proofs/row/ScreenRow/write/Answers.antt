use Rattle.std.proofs.Common.{◌∙◌, arith}
use Rattle.cpm_screen.proofs.FitLemmas.{text_more, text_whole}
use Rattle.cpm_screen.proofs.row.ScreenRow.write.Goals as goal

pub loop-column-preserved : goal.loop-column-preserved
loop-column-preserved c =
    let so_far = rw c.loop-column.invariant at c.put.ensures in
    so_far ∙ text_more c.args.text.now c.loop-column.column _ (omega arith) (omega (arith, c.requires))

pub returns : goal.returns
returns c =
    c.loop-column.invariant ∙ text_whole c.args.text.now c.loop-column.column (omega arith) c.requires
