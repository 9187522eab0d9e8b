use Rattle.cpm_serve.proofs.TalkLemmas.{IsScanned}
use Rattle.cpm_serve.proofs.talk.length_through.Given as goal

abbrev pub invariant-loop-index : goal.invariant-loop-index
invariant-loop-index l = IsScanned l.bytes l.index
