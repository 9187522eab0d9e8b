use Rattle.std.proofs.Common.{◌≡◌, ◌++◌, take, drop}
use Rattle.cpm_screen.proofs.row.copy_rows.Given as goal

abbrev pub invariant-loop-place : goal.invariant-loop-place
invariant-loop-place l = l.rows ≡ take l.place l.others ++ drop l.place l.initial.rows
