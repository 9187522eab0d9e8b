use Rattle.cpm_image_files.specs.Listing.{AreListed}
use Rattle.cpm_image_files.proofs.listing.files_of.Given as goal

abbrev pub invariant-loop-index : goal.invariant-loop-index
invariant-loop-index l = AreListed l.image l.index l.files.items
