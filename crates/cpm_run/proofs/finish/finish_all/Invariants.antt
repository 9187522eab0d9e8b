use Rattle.std.specs.Vec.Iter.{into_iter_items}
use Rattle.cpm_run.proofs.FinishLemmas.{IsFinishing}
use Rattle.cpm_run.proofs.finish.finish_all.Given as goal

abbrev pub invariant-loop-session : goal.invariant-loop-session
invariant-loop-session l =
    IsFinishing l.sessions l.session-index l.fn.host.host l.host.host l.fn.players.items (into_iter_items l.rest) l.reports.items l.files.items
