use Rattle.std.proofs.Common.{length}
use Rattle.cpm_play.specs.Cued.{key_count}
use Rattle.cpm_play.specs.Output.{output_state}
use Rattle.cpm_play.specs.Typist.{HasAttended}
use Rattle.cpm_play.proofs.FollowLemmas.{IsFollowing}
use Rattle.cpm_play.proofs.cued.follow.Given as goal

abbrev pub invariant-loop-cue : goal.invariant-loop-cue
invariant-loop-cue g l =
    IsFollowing l.system l.fn.machine l.steps l.cued.waits_from (key_count l.cued.cues.now) l.cued.cues.now l.machine (output_state (g.W.Write.contents l.fn.out) (g.L.Write.contents l.fn.list)) (output_state (g.W.Write.contents l.out) (g.L.Write.contents l.list))
    (g.S.Write.contents l.fn.record) (g.S.Write.contents l.record) l.live.keys.items l.live.steps l.rest l.shown
    × HasAttended (g.A.Attendant.attending l.fn.attendant) (g.A.Attendant.attending l.attendant)

abbrev pub decreases-loop-cue : goal.decreases-loop-cue
decreases-loop-cue g l = length l.rest
