use Rattle.std.proofs.Common.{◌≡◌, ◌++◌, drop}
use Rattle.cpm_script.specs.Recording.{recorded}
use Rattle.cpm_run.proofs.records.lines_of.Given as goal

abbrev pub invariant-loop-key : goal.invariant-loop-key
invariant-loop-key l = l.lines.items ++ recorded (drop l.key-index l.keys) ≡ recorded l.keys
