-- What is taken off a disk of a file that was put.
use Rattle.std.proofs.Common.{◌≡◌, ◌∙◌, ℕ, ◌-◌, ◌*◌, Bool, true, false, List, length, ap}
use Rattle.std.proofs.lemmas.Bool.{false≢true, true≢false}
use Rattle.cpm_geom.specs.Disk.{Disk}
use Rattle.cpm_image_files.specs.Filled.{filled}
use Rattle.cpm_image_files.specs.ImageFiles.{records_for, DiskHasFile}
use Rattle.cpm_image_files.specs.Texts.{from_text, to_text}
use Rattle.cpm_image_files.specs.declared.name.FileName.{FileName}
use Rattle.cpm_image_files.proofs.FilledLemmas.{what_is_put}
use Rattle.cpm_image_files.proofs.TextLemmas.{texts_come_back}
use Rattle.cpm_disk_commands.specs.DiskCommands.{stored, IsTaken, RoundLaw}

-- the file's records are those that were put
whole_is : (disk : Disk) (file : FileName) (is_text : Bool) (bytes got : List ℕ) → DiskHasFile disk file.user file.name (stored is_text bytes) → (taken : IsTaken disk file is_text got)
    → taken.whole ≡ filled (stored is_text bytes)
whole_is disk file is_text bytes got has taken = (what_is_put disk file.user file.name (stored is_text bytes) has).1 taken.whole taken.got.file

pub round : RoundLaw
round disk file false bytes got has taken =
    (λ e. taken.bytes_are ∙ whole_is disk file false bytes got has taken, λ e. absurd (false≢true e))
round disk file true bytes got has taken =
    let count = 128 * records_for (length (to_text bytes)) - length (to_text bytes) in
    (λ e. absurd (true≢false e), λ e plain. taken.bytes_are ∙ (ap from_text (whole_is disk file true bytes got has taken) ∙ texts_come_back bytes count plain))
