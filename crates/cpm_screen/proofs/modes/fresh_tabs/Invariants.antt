use Rattle.std.proofs.Common.{◌≡◌, ℕ, ◌%◌, ◌<◌, false, get_or, length}
use Rattle.std.specs.Prelude.{◌==◌}
use Rattle.cpm_screen.proofs.modes.fresh_tabs.Given as goal

abbrev pub invariant-loop-column : goal.invariant-loop-column
invariant-loop-column l =
    record { size : length l.tabs ≡ 132; set : (k : ℕ) → k < l.column → get_or l.tabs k false ≡ (k % 8 == 0) }
