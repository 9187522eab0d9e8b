use Rattle.std.proofs.Common.{map}
use Rattle.std.specs.Vec.Iter.{into_iter_items, into_iter_len}
use Rattle.cpm_batch.specs.Inputs.{given}
use Rattle.cpm_run.proofs.SettleLemmas.{IsSettledTo}
use Rattle.cpm_run.specs.Settled.{settled_view, typed_view}
use Rattle.cpm_run.proofs.settle.settle.Given as goal

abbrev pub invariant-loop-input : goal.invariant-loop-input
invariant-loop-input g l =
    IsSettledTo l.fn.system l.fn.options.stops_idle (typed_view l.fn.typed) l.fn.config.sessions.items (map given l.fn.inputs.items) (map given (into_iter_items l.rest)) (map settled_view l.settled.items)

abbrev pub decreases-loop-input : goal.decreases-loop-input
decreases-loop-input g l = into_iter_len l.rest
