use Rattle.std.proofs.Common.{length}
use Rattle.cpm_play.proofs.ShownLemmas.{IsNoting}
use Rattle.cpm_play.proofs.shown.note.Given as goal

abbrev pub invariant-loop-cue : goal.invariant-loop-cue
invariant-loop-cue l = IsNoting l.cues l.rest l.tail l.longest l.fn.found.items l.found.items

abbrev pub decreases-loop-cue : goal.decreases-loop-cue
decreases-loop-cue l = length l.rest
