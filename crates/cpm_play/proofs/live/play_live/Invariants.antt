use Rattle.std.proofs.Common.{◌≡◌, ◌+◌, ◌-◌, ◌*◌, ◌==◌, length, if◌then◌else◌}
use Rattle.cpm_play.specs.Output.{output_state}
use Rattle.cpm_play.specs.Sitting.{sitting}
use Rattle.cpm_play.proofs.LiveLemmas.{IsLive}
use Rattle.cpm_play.proofs.live.play_live.Given as goal

abbrev pub invariant-loop-live : goal.invariant-loop-live
invariant-loop-live g l =
    IsLive (sitting (g.T.Typist.typing l.fn.typist).is_patient l.system l.fn.machine l.fn.steps l.cues) l.machine (output_state (g.W.Write.contents l.fn.out) (g.L.Write.contents l.fn.list)) (output_state (g.W.Write.contents l.out) (g.L.Write.contents l.list))
    (g.S.Write.contents l.fn.record) (g.S.Write.contents l.record) (g.T.Typist.typing l.fn.typist) (g.T.Typist.typing l.typist) l.live.keys.items l.live.steps l.watch
    × ((g.T.Typist.typing l.typist).is_patient ≡ (g.T.Typist.typing l.fn.typist).is_patient)

-- a key is given only where none is pending, and then steps are executed before the next
abbrev pub decreases-loop-live : goal.decreases-loop-live
decreases-loop-live g l = l.asks + ((l.steps - l.live.steps) * 2 + (if length l.machine.session.console.keys == 0 then 1 else 0))
