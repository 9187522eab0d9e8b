use Rattle.std.proofs.Common.{◌<◌, ◌≤◌, ℕ, List}
use Rattle.cpm_slots.specs.Host.{Host}
use Rattle.cpm_play.specs.declared.player.Player.{Player}
use Rattle.cpm_play.specs.Players.{AllReady, HaveBecome, IsFar, KeepsPlaying, LeavesFewer}
use Rattle.cpm_play.proofs.forks.fork_due.Given as goal

abbrev pub invariant-loop-place : goal.invariant-loop-place
invariant-loop-place l = record {
  come : (old : Host) (given : List Player) → AllReady old.system old.slots given → HaveBecome old l.fn.host.host given l.fn.players → HaveBecome old l.host.host given l.players;
  keeps : KeepsPlaying l.fn.players l.players;
  far : (k : ℕ) → k < l.place → IsFar l.fn.parent l.steps l.players k;
  some : 1 ≤ l.steps;
  most : l.steps ≤ l.fn.quantum;
  left : LeavesFewer l.fn.players l.players;
}
