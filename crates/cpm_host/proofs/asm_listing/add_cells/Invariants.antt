-- The bytes so far, and what is left.
use Rattle.std.proofs.Common.{◌≡◌, ◌++◌, drop}
use Rattle.cpm_host.specs.AsmListing.{cells_at}
use Rattle.cpm_host.proofs.asm_listing.add_cells.Given as goal

abbrev pub invariant-loop-byte : goal.invariant-loop-byte
invariant-loop-byte l = l.cells.items ++ cells_at l.address (drop l.byte-index l.bytes) ≡ l.fn.cells.items ++ cells_at l.first l.bytes
