use Rattle.std.proofs.Common.{◌≡◌, ◌<◌, ℕ, false}
use Rattle.cpm_volume.specs.Files.{entry_at}
use Rattle.cpm_volume.specs.Names.{is_named}
use Rattle.cpm_directory.specs.Directory.{entries_of}
use Rattle.cpm_image_files.proofs.renaming.kept_name.Given as goal

abbrev pub invariant-loop-index : goal.invariant-loop-index
invariant-loop-index l =
    (k : ℕ) → k < l.index → is_named l.file.user l.file.name (entry_at (entries_of l.image) k) ≡ false
