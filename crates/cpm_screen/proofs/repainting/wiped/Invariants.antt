use Rattle.std.proofs.Common.{◌≡◌, ◌<◌, ◌++◌, ℕ, drop, replicate}
use Rattle.cpm_screen.specs.declared.cell.TheConstants.{BLANK, PLAIN}
use Rattle.cpm_screen.specs.Ansi.{AnsiScreen, ansi_after}
use Rattle.cpm_screen.specs.Painting.{at_rest}
use Rattle.cpm_screen.specs.Pictures.{IsAtRest}
use Rattle.cpm_screen.proofs.repainting.wiped.Given as goal

abbrev pub invariant-loop-row : goal.invariant-loop-row
invariant-loop-row l = (columns : ℕ) (t : AnsiScreen) → 0 < columns → IsAtRest l.rows columns t
    → (at : ℕ × ℕ) × (ansi_after l.bytes.items t ≡ at_rest columns (replicate l.row (replicate columns BLANK) ++ drop l.row t.lines) at.0 at.1 PLAIN)
