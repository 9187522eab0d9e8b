use Rattle.cpm_memory.proofs.Joins.{Shares}
use Rattle.cpm_memory.proofs.store.FrameStore.share.Given as goal

abbrev pub invariant-loop-page : goal.invariant-loop-page
invariant-loop-page l = Shares l.initial.self l.self l.index l.source l.page
