use Rattle.std.proofs.Common.{length}
use Rattle.cpm_play.proofs.TextLemmas.{IsMoved}
use Rattle.cpm_play.proofs.machine.move_text.Given as goal

abbrev pub invariant-loop-chunk : goal.invariant-loop-chunk
invariant-loop-chunk g l = IsMoved l.fn.machine l.machine (g.W.Write.contents l.fn.out) (g.W.Write.contents l.out)

abbrev pub decreases-loop-chunk : goal.decreases-loop-chunk
decreases-loop-chunk g l = length l.machine.session.console.screen
