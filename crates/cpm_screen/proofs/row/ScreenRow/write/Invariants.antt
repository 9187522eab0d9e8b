use Rattle.std.proofs.Common.{◌≡◌}
use Rattle.std.specs.Prelude.{map}
use Rattle.cpm_screen.specs.Painted.{plain_cell}
use Rattle.cpm_screen.specs.Painting.{painted_first}
use Rattle.cpm_screen.specs.Rows.{blank_row}
use Rattle.cpm_screen.proofs.row.ScreenRow.write.Given as goal

abbrev pub invariant-loop-column : goal.invariant-loop-column
invariant-loop-column l = l.self ≡ painted_first l.column blank_row (map plain_cell l.text)
