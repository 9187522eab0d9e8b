use Rattle.std.proofs.Common.{◌≡◌, List, false, length}
use Rattle.cpm_slots.specs.Host.{Host}
use Rattle.cpm_play.specs.declared.player.Player.{Player}
use Rattle.cpm_play.specs.Players.{AllReady, HaveBecome, has_fork}
use Rattle.cpm_play.proofs.RoundLemmas.{IsLeft}
use Rattle.cpm_play.proofs.rounds.round.Given as goal

abbrev pub invariant-loop-place : goal.invariant-loop-place
invariant-loop-place l = record {
  come : (old : Host) (given : List Player) → AllReady old.system old.slots given → HaveBecome old l.fn.host.host given l.fn.players → HaveBecome old l.host.host given l.players;
  long : length l.players ≡ length l.fn.players;
  left : IsLeft l.fn.players l.players l.place;
  none : l.may_fork ≡ false → has_fork l.players ≡ false;
}
