use Rattle.std.proofs.Common.{arith, refl}
use Rattle.cpm_screen.proofs.SeenLemmas.{tail_more}
use Rattle.cpm_screen.proofs.seeing.text_end.Goals as goal

pub loop-end-preserved : goal.loop-end-preserved
loop-end-preserved c =
    let blank = c.if-not-looks_blank.ensures in
    record { within = omega arith; blank = tail_more c.args.cells.now c.loop-end.end _ (omega arith) (omega arith) (blank.0 refl) c.loop-end.invariant.blank }
