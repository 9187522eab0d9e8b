use Rattle.std.proofs.Common.{◌≡◌, drop}
use Rattle.cpm_disk_commands.specs.Listing.{is_less}
use Rattle.cpm_disk_commands.proofs.listing.is_less.Given as goal

abbrev pub invariant-loop-place : goal.invariant-loop-place
invariant-loop-place l = is_less (drop l.place l.name) (drop l.place l.other) ≡ is_less l.name l.other
