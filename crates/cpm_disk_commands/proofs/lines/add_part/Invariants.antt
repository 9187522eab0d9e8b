use Rattle.std.proofs.Common.{◌≡◌, ◌++◌, drop}
use Rattle.cpm_disk_commands.specs.Listing.{seen_part}
use Rattle.cpm_disk_commands.proofs.lines.add_part.Given as goal

abbrev pub invariant-loop-place : goal.invariant-loop-place
invariant-loop-place l = l.text.items ++ seen_part (drop l.place l.part) ≡ l.fn.text.items ++ seen_part l.fn.part
