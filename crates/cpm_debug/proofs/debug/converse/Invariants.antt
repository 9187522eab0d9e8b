use Rattle.std.proofs.Common.{◌-◌}
use Rattle.cpm_debug.proofs.DialogLemmas.{IsSoFar}
use Rattle.cpm_debug.proofs.debug.converse.Given as goal

abbrev pub invariant-loop-line : goal.invariant-loop-line
invariant-loop-line g l =
    IsSoFar l.system l.cpu l.listing l.fn.machine l.machine (g.R.Read.remaining l.fn.input) (g.R.Read.remaining l.input) (g.W.Write.contents l.fn.out) (g.W.Write.contents l.out)
    (1000000 - l._line) l.room
