-- The bytes so far, and what is left.
use Rattle.std.proofs.Common.{◌≡◌, ◌++◌, drop}
use Rattle.cpm_host.specs.AsmListing.{cells_of}
use Rattle.cpm_host.proofs.asm_listing.cells_of.Given as goal

abbrev pub invariant-loop-place : goal.invariant-loop-place
invariant-loop-place l = l.cells.items ++ cells_of l.image (drop l.place-index l.places) ≡ cells_of l.image l.places
