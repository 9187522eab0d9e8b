use Rattle.std.proofs.Common.{◌≡◌}
use Rattle.cpm_screen.specs.Ansi.{ansi_after}
use Rattle.cpm_screen.specs.Painting.{rows_painted, seen_screen}
use Rattle.cpm_screen.proofs.painter.Painter.rows.Given as goal

abbrev pub invariant-loop-row : goal.invariant-loop-row
invariant-loop-row l =
    ansi_after l.self.bytes.items (seen_screen l.before) ≡ rows_painted l.row l.before l.after l.self.row l.self.column l.self.look
