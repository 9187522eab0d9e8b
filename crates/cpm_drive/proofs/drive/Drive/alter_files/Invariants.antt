use Rattle.std.proofs.Common.{◌≡◌, ◌≤◌, ◌<◌, ℕ, length}
use Rattle.cpm_volume.specs.Files.{entry_at}
use Rattle.cpm_directory.specs.Directory.{entries_of}
use Rattle.cpm_drive.specs.Named.{altered}
use Rattle.cpm_drive.specs.Writes.{drive_written}
use Rattle.cpm_drive.proofs.NamedLemmas.{left}
use Rattle.cpm_drive.proofs.drive.Drive.alter_files.Given as goal

abbrev pub invariant-loop-index : goal.invariant-loop-index
invariant-loop-index l =
    (l.self.image.format ≡ l.initial.self.image.format) × (drive_written l.self (left l.user l.name (altered l.alteration) l.index (entries_of l.initial.self.image)) ≡ drive_written l.initial.self (left l.user l.name (altered l.alteration) 0 (entries_of l.initial.self.image))) × ((k : ℕ) → l.index ≤ k → k < length (entries_of l.initial.self.image) → entry_at (entries_of l.self.image) k ≡ entry_at (entries_of l.initial.self.image) k)
