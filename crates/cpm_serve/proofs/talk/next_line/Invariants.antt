use Rattle.cpm_serve.proofs.TalkLemmas.{IsPart}
use Rattle.cpm_serve.proofs.talk.next_line.Given as goal

abbrev pub invariant-loop-turn : goal.invariant-loop-turn
invariant-loop-turn g l = IsPart (g.R.Read.remaining l.fn.input) (g.R.Read.remaining l.input) l.line.items
