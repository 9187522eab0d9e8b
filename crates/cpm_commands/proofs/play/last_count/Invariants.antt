use Rattle.std.proofs.Common.{◌≡◌, drop, map}
use Rattle.cpm_script.specs.Cues.{cue_text, last_cue_count}
use Rattle.cpm_commands.proofs.play.last_count.Given as goal

abbrev pub invariant-loop-cue : goal.invariant-loop-cue
invariant-loop-cue l = last_cue_count l.last (map cue_text (drop l.cue-index l.cues)) ≡ last_cue_count 0 (map cue_text l.cues)
