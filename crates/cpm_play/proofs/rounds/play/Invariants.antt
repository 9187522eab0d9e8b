use Rattle.std.proofs.Common.{◌≡◌, false}
use Rattle.cpm_play.specs.Players.{HaveBecome, has_fork, players_left}
use Rattle.cpm_play.proofs.rounds.play.Given as goal

abbrev pub invariant-loop-alloc : goal.invariant-loop-alloc
invariant-loop-alloc g l = record {
  come : HaveBecome l.fn.host.host l.host.host l.fn.players l.players;
  none : l.may_fork ≡ false → has_fork l.players ≡ false;
}

abbrev pub decreases-loop-alloc : goal.decreases-loop-alloc
decreases-loop-alloc g l = players_left l.players
