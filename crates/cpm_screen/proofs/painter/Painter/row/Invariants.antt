use Rattle.std.proofs.Common.{◌≡◌}
use Rattle.cpm_screen.specs.Ansi.{ansi_after}
use Rattle.cpm_screen.specs.Painting.{cells_painted, seen_screen}
use Rattle.cpm_screen.proofs.painter.Painter.row.Given as goal

abbrev pub invariant-loop-column : goal.invariant-loop-column
invariant-loop-column l =
    ansi_after l.self.bytes.items (seen_screen l.before) ≡ cells_painted l.row l.column l.before l.after l.self.row l.self.column l.self.look
