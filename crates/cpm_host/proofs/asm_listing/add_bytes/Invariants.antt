-- What was added, and what is left.
use Rattle.std.proofs.Common.{◌≡◌, ◌++◌, drop}
use Rattle.cpm_host.specs.AsmListing.{digits_of}
use Rattle.cpm_host.proofs.asm_listing.add_bytes.Given as goal

abbrev pub invariant-loop-cell : goal.invariant-loop-cell
invariant-loop-cell l = l.text.items ++ digits_of (drop l.cell-index l.cells) ≡ l.fn.text.items ++ digits_of l.cells
