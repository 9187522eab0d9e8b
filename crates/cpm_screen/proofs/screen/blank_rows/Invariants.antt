use Rattle.std.proofs.Common.{◌≡◌, replicate}
use Rattle.cpm_screen.specs.Rows.{blank_row}
use Rattle.cpm_screen.proofs.screen.blank_rows.Given as goal

abbrev pub invariant-loop : goal.invariant-loop
invariant-loop l = l.rows.items ≡ replicate l.counter blank_row
