use Rattle.std.proofs.Common.{◌≡◌, ◌<◌, ◌≤◌, ℕ, false}
use Rattle.cpm_geom.specs.Geometry.{dpb_of}
use Rattle.cpm_volume.specs.Files.{entry_at}
use Rattle.cpm_directory.specs.Directory.{entries_of}
use Rattle.cpm_directory.specs.Matching.{is_match}
use Rattle.cpm_directory.proofs.directory.find.Given as goal

abbrev pub invariant-loop-index : goal.invariant-loop-index
invariant-loop-index l =
    (k : ℕ) → l.from ≤ k → k < l.index → is_match (dpb_of l.image.format) l.pattern (entry_at (entries_of l.image) k) ≡ false
