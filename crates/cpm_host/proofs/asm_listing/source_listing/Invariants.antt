-- The lines so far, and what is left.
use Rattle.std.proofs.Common.{◌≡◌, ◌<◌, ◌+◌, ◌++◌, ◌^◌, length}
use Rattle.std.specs.Str.Lines.{lines}
use Rattle.cpm_asm.specs.Lines.{source_text}
use Rattle.cpm_host.specs.AsmListing.{lines_after}
use Rattle.cpm_host.proofs.asm_listing.source_listing.Given as goal

abbrev pub invariant-loop-places : goal.invariant-loop-places
invariant-loop-places l = record {
  same : l.text.items ++ lines_after l.program.image.items l.number (lines l.rest) l.places ≡ lines_after l.program.image.items 0 (lines (source_text l.source)) l.program.places.items;
  within : l.number + length l.rest < 2 ^ 64;
}

abbrev pub decreases-loop-places : goal.decreases-loop-places
decreases-loop-places l = length l.rest
