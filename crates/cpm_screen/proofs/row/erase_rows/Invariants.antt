use Rattle.std.proofs.Common.{◌≡◌}
use Rattle.cpm_screen.specs.Rows.{erased_rows}
use Rattle.cpm_screen.proofs.row.erase_rows.Given as goal

abbrev pub invariant-loop-place : goal.invariant-loop-place
invariant-loop-place l = l.rows ≡ erased_rows l.from l.place l.initial.rows
