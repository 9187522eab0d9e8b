use Rattle.std.proofs.Common.{◌≢◌, ◌<◌, ℕ}
use Rattle.cpm_volume.specs.Files.{entry_at}
use Rattle.cpm_directory.specs.Directory.{entries_of}
use Rattle.cpm_directory.proofs.directory.first_free.Given as goal

abbrev pub invariant-loop-index : goal.invariant-loop-index
invariant-loop-index l = (k : ℕ) → k < l.index → (entry_at (entries_of l.image) k).user ≢ 229
