use Rattle.std.proofs.Common.{◌≡◌, ◌≤◌, ◌+◌, length, true}
use Rattle.std.specs.Str.Lines.{lines}
use Rattle.cpm_script.specs.Cues.{IsReading, all_said, cues, cues_from, has_cue}
use Rattle.cpm_script.proofs.cue.read_cues.Given as goal

abbrev pub invariant-loop-rest : goal.invariant-loop-rest
invariant-loop-rest l =
    record {
      same : cues_from (l.number + 1) (all_said l.reading.cues) (lines l.rest) ≡ cues l.text;
      reading : IsReading l.reading;
      cued : has_cue (lines l.rest) ≡ true → has_cue (lines l.text) ≡ true;
      count : l.number + length l.rest ≤ length l.text;
    }

abbrev pub decreases-loop-rest : goal.decreases-loop-rest
decreases-loop-rest l = length l.rest
