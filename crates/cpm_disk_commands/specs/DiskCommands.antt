-- Files that are put on an image and taken off it. All of it is own.
use Rattle.std.specs.Prelude.{◌≡◌, ◌⊎◌, ℕ, Bool, true, false, if◌then◌else◌, List, Some, length}
use Rattle.std.specs.List.{concat, list_any}
use Rattle.cpm_geom.specs.Disk.{Disk, IsDisk}
use Rattle.cpm_geom.specs.Geometry.{format_of_length}
use Rattle.cpm_geom.specs.declared.format.Format.{Format}
use Rattle.cpm_geom.specs.declared.format.Format.TheVariants.{Ibm3740, Large}
use Rattle.cpm_image_files.specs.Filled.{filled}
use Rattle.cpm_image_files.specs.ImageFiles.{records_for, DiskHasFile, IsPutRefusal}
use Rattle.cpm_image_files.specs.Taken.{IsGot}
use Rattle.cpm_image_files.specs.Texts.{to_text, from_text, is_control}
use Rattle.cpm_image_files.specs.declared.name.FileName.{FileName}
use Rattle.cpm_disk_commands.specs.Refusals.{file_named, IsToldRefusal}
use Rattle.cpm_disk_commands.specs.declared.error.DiskCommandError.{DiskCommandError}
use Rattle.cpm_disk_commands.specs.declared.error.DiskCommandError.TheVariants.{OutOfMemory}

-- the disk's sectors, one after the other, are these bytes
pub record IsImageFile (bytes : List ℕ) (disk : Disk) : Type 0 where
  pub format : format_of_length (length bytes) ≡ Some disk.format
  pub sectors : concat disk.sectors ≡ bytes
  pub whole : IsDisk disk

-- a large disk or a small one
abbrev pub format_for : Bool → Format
format_for is_large = if is_large then Large else Ibm3740

-- what is put on a disk of a file of the host
abbrev pub stored : Bool → List ℕ → List ℕ
stored is_text bytes = if is_text then to_text bytes else bytes

-- what a file of the host gets of a disk's file
abbrev pub file_taken : Bool → List ℕ → List ℕ
file_taken is_text bytes = if is_text then from_text bytes else bytes

-- why a file is not put on a disk is told; or there was no memory for the text
abbrev pub IsPutTold : Disk → (image : List ℕ) → FileName → Bool → List ℕ → DiskCommandError → Type 0
IsPutTold disk image file is_text bytes f =
    ((is_text ≡ true) × (f ≡ OutOfMemory))
    ⊎ IsToldRefusal disk image (file_named file) (IsPutRefusal disk file.user file.name (records_for (length (stored is_text bytes)))) f

-- what was taken off a disk
pub record IsTaken (disk : Disk) (file : FileName) (is_text : Bool) (bytes : List ℕ) : Type 0 where
  pub whole : List ℕ
  pub got : IsGot disk file.user file.name whole
  pub bytes_are : bytes ≡ file_taken is_text whole

-- own: bytes that a disk has, as a file that was put, are taken off it filled up to whole records, and a text with line feeds alone as it was
abbrev pub RoundLaw : Type 0
RoundLaw =
    (disk : Disk) (file : FileName) (is_text : Bool) (bytes got : List ℕ)
    → DiskHasFile disk file.user file.name (stored is_text bytes) → IsTaken disk file is_text got
    → (is_text ≡ false → got ≡ filled bytes) × (is_text ≡ true → list_any is_control bytes ≡ false → got ≡ bytes)
