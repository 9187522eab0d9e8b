use Rattle.std.proofs.Common.{map}
use Rattle.std.specs.Vec.Iter.{into_iter_items, into_iter_len}
use Rattle.cpm_run.proofs.PrepareLemmas.{IsPreparedTo}
use Rattle.cpm_run.specs.Settled.{settled_view}
use Rattle.cpm_run.proofs.play.prepare_all.Given as goal

abbrev pub invariant-loop-input : goal.invariant-loop-input
invariant-loop-input l = IsPreparedTo l.fn.host.host l.host.host (map settled_view l.fn.inputs.items) (map settled_view (into_iter_items l.rest)) l.players.items

abbrev pub decreases-loop-input : goal.decreases-loop-input
decreases-loop-input l = into_iter_len l.rest
