use Rattle.std.proofs.Common.{◌≡◌, ◌<◌, ℕ, false}
use Rattle.cpm_volume.specs.Files.{entry_at, is_of, group_of, extent_number}
use Rattle.cpm_directory.specs.Directory.{entries_of}
use Rattle.cpm_directory.proofs.checking.twice_entry.Given as goal

abbrev pub invariant-loop-earlier : goal.invariant-loop-earlier
invariant-loop-earlier l =
    (k : ℕ) → k < l.earlier → is_of l.dpb l.this.user l.this.extent.name (group_of l.dpb (extent_number l.this.extent)) (entry_at (entries_of l.image) k) ≡ false
