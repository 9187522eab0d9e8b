use Rattle.std.proofs.Common.{◌≡◌, [], map}
use Rattle.cpm_commands.specs.Replays.{replays_from}
use Rattle.cpm_commands.proofs.ReplayWordLemmas.{from_here}
use Rattle.cpm_commands.proofs.replays.replays_of.Given as goal

abbrev pub invariant-loop-word : goal.invariant-loop-word
invariant-loop-word l = from_here l.config.sessions.items l.replays.items l.words l.word-index ≡ replays_from l.config.sessions.items [] (map (λ w. w.now) l.words)
