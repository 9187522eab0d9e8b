use Rattle.std.proofs.Common.{◌≡◌, ◌<◌, ℕ, false, Some}
use Rattle.cpm_geom.specs.Geometry.{dpb_of}
use Rattle.cpm_volume.specs.Files.{entry_at}
use Rattle.cpm_directory.specs.Directory.{entries_of}
use Rattle.cpm_directory.specs.Matching.{is_match}
use Rattle.cpm_directory.specs.declared.pattern.Pattern.TheVariants.{Files}
use Rattle.cpm_drive.specs.Judged.{entries_after}
use Rattle.cpm_drive.proofs.change.first_match.Given as goal

abbrev pub invariant-loop-index : goal.invariant-loop-index
invariant-loop-index l =
    (k : ℕ) → k < l.index → is_match (dpb_of l.image.format) (Files l.user l.name (Some l.group)) (entry_at (entries_after (entries_of l.image) l.change) k) ≡ false
