use Rattle.std.proofs.Common.{◌≡◌, ◌<◌, ℕ, false}
use Rattle.cpm_geom.specs.Geometry.{dpb_of}
use Rattle.cpm_volume.specs.Files.{entry_at, is_of}
use Rattle.cpm_directory.specs.Directory.{entries_of}
use Rattle.cpm_image_files.proofs.records.entry_of.Given as goal

abbrev pub invariant-loop-index : goal.invariant-loop-index
invariant-loop-index l =
    (k : ℕ) → k < l.index → is_of (dpb_of l.image.format) l.user l.name l.group (entry_at (entries_of l.image) k) ≡ false
