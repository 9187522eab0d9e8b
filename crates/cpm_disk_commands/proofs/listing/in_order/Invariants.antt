use Rattle.std.proofs.Common.{◌≡◌, drop}
use Rattle.cpm_disk_commands.specs.Listing.{in_order, placed_all}
use Rattle.cpm_disk_commands.proofs.listing.in_order.Given as goal

abbrev pub invariant-loop-file : goal.invariant-loop-file
invariant-loop-file l = placed_all l.sorted.items (drop l.file-index l.files) ≡ in_order l.fn.files
