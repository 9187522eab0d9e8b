use Rattle.std.proofs.Common.{length}
use Rattle.cpm_play.proofs.TextLemmas.{IsMovedKept}
use Rattle.cpm_play.proofs.kept.move_kept.Given as goal

abbrev pub invariant-loop-chunk : goal.invariant-loop-chunk
invariant-loop-chunk g l = IsMovedKept l.fn.machine l.machine (g.W.Write.contents l.fn.out) (g.W.Write.contents l.out) l.fn.shown l.shown l.whole

abbrev pub decreases-loop-chunk : goal.decreases-loop-chunk
decreases-loop-chunk g l = length l.machine.session.console.screen
