use Rattle.std.proofs.Common.{◌≡◌, drop, map}
use Rattle.cpm_batch.specs.Inputs.{timed_keys}
use Rattle.cpm_script.specs.Cues.{cue_text}
use Rattle.cpm_run.proofs.PartLemmas.{timed_after}
use Rattle.cpm_run.specs.Settling.{AreCounts}
use Rattle.cpm_run.proofs.part.timed_keys.Given as goal

abbrev pub invariant-loop-cue : goal.invariant-loop-cue
invariant-loop-cue l = record {
  keys : timed_after l.keys.items (timed_keys (map cue_text (drop l.cue-index l.cues))) ≡ timed_keys (map cue_text l.cues);
  counts : AreCounts l.keys.items;
}
