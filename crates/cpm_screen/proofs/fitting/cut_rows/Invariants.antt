use Rattle.std.proofs.Common.{◌≡◌}
use Rattle.cpm_screen.specs.Painting.{painted_first}
use Rattle.cpm_screen.proofs.fitting.cut_rows.Given as goal

abbrev pub invariant-loop-place : goal.invariant-loop-place
invariant-loop-place l = l.rows ≡ painted_first l.place l.initial.rows l.others
