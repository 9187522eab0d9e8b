use Rattle.std.proofs.Common.{◌%◌, false, arith}
use Rattle.std.specs.Prelude.{◌==◌}
use Rattle.std.proofs.lemmas.List.FromFn.{fill_by_all}
use Rattle.cpm_screen.specs.State.{fresh_tabs}
use Rattle.cpm_screen.proofs.modes.fresh_tabs.Goals as goal

pub returns : goal.returns
unfolding fresh_tabs
returns c = fill_by_all (λ k. k % 8 == 0) _ 132 false c.loop-column.invariant.size (λ k within. c.loop-column.invariant.set k (omega arith))
