use Rattle.std.proofs.Common.{◌≡◌, ◌≤◌, ◌+◌, length}
use Rattle.std.specs.Str.Lines.{lines}
use Rattle.cpm_script.specs.Fork.{cue_fault}
use Rattle.cpm_script.proofs.forked_cue.cue_fault.Given as goal

abbrev pub invariant-loop-rest : goal.invariant-loop-rest
invariant-loop-rest l =
    record {
      same : cue_fault l.at l.room (l.number + 1) (lines l.rest) ≡ cue_fault l.at l.fn.room 1 (lines l.text);
      count : l.number + length l.rest ≤ length l.text;
    }

abbrev pub decreases-loop-rest : goal.decreases-loop-rest
decreases-loop-rest l = length l.rest
