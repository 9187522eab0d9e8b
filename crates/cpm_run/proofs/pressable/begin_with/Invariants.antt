use Rattle.std.proofs.Common.{◌≡◌, take}
use Rattle.cpm_run.proofs.pressable.begin_with.Given as goal

abbrev pub invariant-loop-place : goal.invariant-loop-place
invariant-loop-place l = take l.place l.first ≡ take l.place l.keys
