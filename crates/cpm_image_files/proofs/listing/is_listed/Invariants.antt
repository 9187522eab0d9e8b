use Rattle.std.proofs.Common.{◌≡◌, false, take}
use Rattle.std.specs.List.{list_any}
use Rattle.cpm_image_files.specs.Listing.{lists}
use Rattle.cpm_image_files.proofs.listing.is_listed.Given as goal

abbrev pub invariant-loop-file : goal.invariant-loop-file
invariant-loop-file l = list_any (lists l.entry) (take l.file-index l.files) ≡ false
