use Rattle.std.proofs.Common.{◌≡◌, length}
use Rattle.cpm_play.specs.Cued.{looks_back}
use Rattle.cpm_play.proofs.cued.looks_back.Given as goal

abbrev pub invariant-loop-cue : goal.invariant-loop-cue
invariant-loop-cue l = looks_back l.rest ≡ looks_back l.cues

abbrev pub decreases-loop-cue : goal.decreases-loop-cue
decreases-loop-cue l = length l.rest
