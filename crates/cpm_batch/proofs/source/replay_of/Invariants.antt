use Rattle.std.proofs.Common.{◌≡◌, drop}
use Rattle.cpm_batch.specs.Sources.{replay_of}
use Rattle.cpm_batch.proofs.source.replay_of.Given as goal

abbrev pub invariant-loop-replay : goal.invariant-loop-replay
invariant-loop-replay l = replay_of (drop l.replay-index l.replays) l.name ≡ replay_of l.replays l.name
