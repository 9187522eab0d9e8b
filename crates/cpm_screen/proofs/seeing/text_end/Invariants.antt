use Rattle.std.proofs.Common.{◌≡◌, ◌≤◌, ◌-◌, drop, length}
use Rattle.std.specs.Prelude.{map, replicate}
use Rattle.cpm_screen.specs.declared.cell.TheConstants.{BLANK}
use Rattle.cpm_screen.specs.Painting.{seen}
use Rattle.cpm_screen.proofs.seeing.text_end.Given as goal

abbrev pub invariant-loop-end : goal.invariant-loop-end
invariant-loop-end l =
    record { within : l.end ≤ length l.cells; blank : drop l.end (map seen l.cells) ≡ replicate (length l.cells - l.end) BLANK }

abbrev pub decreases-loop-end : goal.decreases-loop-end
decreases-loop-end l = l.end
