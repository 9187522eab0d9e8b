use Rattle.std.proofs.Common.{length}
use Rattle.cpm_play.proofs.TextLemmas.{IsPrinted}
use Rattle.cpm_play.proofs.machine.move_list.Given as goal

abbrev pub invariant-loop-chunk : goal.invariant-loop-chunk
invariant-loop-chunk g l = IsPrinted l.fn.machine l.machine (g.L.Write.contents l.fn.list) (g.L.Write.contents l.list)

abbrev pub decreases-loop-chunk : goal.decreases-loop-chunk
decreases-loop-chunk g l = length l.machine.session.console.printer
