use Rattle.std.proofs.Common.{◌≡◌}
use Rattle.cpm_play.proofs.BeginLemmas.{HaveBegun}
use Rattle.cpm_play.proofs.rounds.take_waiting.Given as goal

abbrev pub invariant-loop-place : goal.invariant-loop-place
invariant-loop-place l = record {
  begun : HaveBegun l.fn.host.host l.host.host l.fn.players l.players l.place;
}
