use Rattle.cpm_play.proofs.RoundLemmas.{far-none}
use Rattle.cpm_play.proofs.forks.fork_if_due.Goals as goal

pub returns-then-not-may_fork-clause-far : goal.returns-then-not-may_fork-clause-far
returns-then-not-may_fork-clause-far c = far-none c.args.parent c.args.quantum c.args.players.now (c.requires.none c.if-not-may_fork.true)
