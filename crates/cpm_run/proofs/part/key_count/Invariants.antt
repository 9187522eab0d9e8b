use Rattle.std.proofs.Common.{◌≡◌, ◌≤◌, ◌+◌, drop, map}
use Rattle.cpm_script.specs.Cues.{cue_text, cued_key_count}
use Rattle.cpm_run.proofs.part.key_count.Given as goal

abbrev pub invariant-loop-cue : goal.invariant-loop-cue
invariant-loop-cue l = record {
  same : l.count + cued_key_count (map cue_text (drop l.cue-index l.cues)) ≡ cued_key_count (map cue_text l.cues);
  fits : l.count ≤ l.cue-index;
}
