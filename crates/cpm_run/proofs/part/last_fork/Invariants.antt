use Rattle.std.proofs.Common.{◌≡◌, drop}
use Rattle.std.specs.Prelude.{max}
use Rattle.cpm_run.specs.Settled.{last_fork}
use Rattle.cpm_run.proofs.part.last_fork.Given as goal

abbrev pub invariant-loop-session : goal.invariant-loop-session
invariant-loop-session l = max l.last (last_fork l.name (drop l.session-index l.config.sessions.items)) ≡ last_fork l.name l.config.sessions.items
