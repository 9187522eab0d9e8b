use Rattle.std.proofs.Common.{◌≡◌, ◌≤◌, drop, map}
use Rattle.cpm_script.specs.Cues.{cue_text}
use Rattle.cpm_batch.specs.Inputs.{known_before, timed_keys}
use Rattle.cpm_batch.proofs.KnownLemmas.{count_after}
use Rattle.cpm_batch.proofs.forked.known_before.Given as goal

abbrev pub invariant-loop-cue : goal.invariant-loop-cue
invariant-loop-cue l = record {
  same : count_after l.count l.at (timed_keys (map cue_text (drop l.cue-index l.cues))) ≡ known_before l.at (map cue_text l.cues);
  fits : l.count ≤ l.cue-index;
}
