use Rattle.std.proofs.Common.{length}
use Rattle.cpm_host.proofs.ListLemmas.{IsListed}
use Rattle.cpm_host.proofs.list.write_listing.Given as goal

abbrev pub invariant-loop-rest : goal.invariant-loop-rest
invariant-loop-rest g l = IsListed l.cpu l.bytes l.rest (g.W.Write.contents l.fn.out) (g.W.Write.contents l.out)

abbrev pub decreases-loop-rest : goal.decreases-loop-rest
decreases-loop-rest g l = length l.rest
