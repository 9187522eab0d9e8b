use Rattle.std.proofs.Common.{◌≡◌, take}
use Rattle.cpm_run.specs.Kept.{standing_of, standing_view}
use Rattle.cpm_run.proofs.keeping.keep_sessions.Given as goal

abbrev pub invariant-loop-player : goal.invariant-loop-player
invariant-loop-player l = record {
  kept : standing_view l.kept.items ≡ standing_of l.fn.host.host (take l.player-index l.players);
  host : l.host ≡ l.fn.host;
}
