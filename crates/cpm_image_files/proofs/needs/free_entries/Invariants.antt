use Rattle.std.proofs.Common.{◌≡◌, take}
use Rattle.std.specs.List.{count_by}
use Rattle.cpm_directory.specs.Directory.{entries_of}
use Rattle.cpm_image_files.specs.ImageFiles.{is_free_for}
use Rattle.cpm_image_files.proofs.needs.free_entries.Given as goal

abbrev pub invariant-loop-index : goal.invariant-loop-index
invariant-loop-index l =
    l.free ≡ count_by (is_free_for l.file.user l.file.name) (take l.index (entries_of l.image))
