use Rattle.std.proofs.Common.{◌≢◌, ◌<◌, ℕ}
use Rattle.cpm_volume.specs.Files.{entry_at}
use Rattle.cpm_directory.specs.Directory.{entries_of}
use Rattle.cpm_drive.specs.Judged.{entries_after}
use Rattle.cpm_drive.proofs.change.first_free.Given as goal

abbrev pub invariant-loop-index : goal.invariant-loop-index
invariant-loop-index l = (k : ℕ) → k < l.index → (entry_at (entries_after (entries_of l.image) l.change) k).user ≢ 229
