-- What is put on a disk is what is taken off it.
use Rattle.std.specs.Prelude.{◌≡◌, ℕ, ◌-◌, ◌*◌, List, ◌++◌, length, replicate}
use Rattle.cpm_geom.specs.Disk.{Disk}
use Rattle.cpm_image_files.specs.ImageFiles.{filler, records_for, DiskHasFile}
use Rattle.cpm_image_files.specs.Taken.{AreBytesOf}

-- the bytes of a file as its records have them: filled up to whole records (own)
abbrev pub filled : List ℕ → List ℕ
filled bytes = bytes ++ replicate (128 * records_for (length bytes) - length bytes) filler

-- own: a file that was put has its bytes, filled up, and no others
abbrev pub FilledLaw : Type 0
FilledLaw =
    (disk : Disk) (user : ℕ) (name bytes : List ℕ) → DiskHasFile disk user name bytes
    → AreBytesOf disk user name (filled bytes) × ((taken : List ℕ) → AreBytesOf disk user name taken → taken ≡ filled bytes)
