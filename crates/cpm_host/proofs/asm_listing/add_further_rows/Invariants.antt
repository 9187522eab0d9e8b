-- What was added, and what is left.
use Rattle.std.proofs.Common.{◌≡◌, ◌++◌, drop}
use Rattle.cpm_host.specs.AsmListing.{further_rows}
use Rattle.cpm_host.proofs.asm_listing.add_further_rows.Given as goal

abbrev pub invariant-loop-cell : goal.invariant-loop-cell
invariant-loop-cell l = l.text.items ++ further_rows l.left (drop l.cell-index l.cells) ≡ l.fn.text.items ++ further_rows 0 l.cells
