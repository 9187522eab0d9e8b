-- Checking the image of a drive: what is written, and when it is refused. All of it is own.
use Rattle.std.specs.Prelude.{◌≡◌, ℕ, List, [], ◌∷◌, ◌++◌, length, None, Ok, Err, chars, codes}
use Rattle.cpm_batch.specs.Held.{IsImage}
use Rattle.cpm_batch.specs.Inputs.{code_of_reading}
use Rattle.cpm_batch.specs.declared.error.ReadError.TheVariants as read
use Rattle.cpm_shown.specs.Shown.{shown_of}
use Rattle.cpm_directory.specs.Directory.{entries_of}
use Rattle.cpm_directory.specs.WellFormed.{IsChecked}
use Rattle.cpm_disk_commands.specs.Damage.{damage_of}
use Rattle.cpm_disk_commands.specs.declared.damage.Damage.{Damage}
use Rattle.cpm_geom.specs.Disk.{Disk}
use Rattle.cpm_geom.specs.Geometry.{dpb_of, format_of_length}
use Rattle.cpm_refusals.specs.declared.code.RefusalCode.{RefusalCode}
use Rattle.cpm_refusals.specs.declared.code.RefusalCode.TheVariants as code
use Rattle.cpm_check.specs.declared.error.CheckError.{CheckError}
use Rattle.cpm_check.specs.declared.error.CheckError.TheVariants.{FileRefused, ImageDamaged, OutputUnwritable}

-- what is written of an image that is in order
abbrev pub ok_line : List ℕ
ok_line = codes "ok" ++ 0x0A ∷ []

-- the bytes are an image, whose directory has no fault
pub record IsSoundImage (bytes : List ℕ) : Type 0 where
  pub disk : Disk
  pub image : IsImage bytes disk
  pub checked : IsChecked (dpb_of disk.format) (entries_of disk) (Ok tt)

-- the bytes are an image, whose directory's first fault is told
pub record IsDamaged (bytes : List ℕ) (damage : Damage) : Type 0 where
  pub disk : Disk
  pub image : IsImage bytes disk
  pub checked : IsChecked (dpb_of disk.format) (entries_of disk) (Err damage.fault)
  pub told : damage ≡ damage_of disk damage.fault

-- When a check is refused: the bytes are no image, by their number; the directory has a fault; or the writer refused what is written of an image in
-- order. The writer is as it was, but where it failed itself.
abbrev pub IsCheckRefusal : {W : Type 0} → List ℕ → List ℕ → CheckError → W → W → Type 0
IsCheckRefusal {W} name bytes (FileRefused (read.Image shown count)) old new =
    (shown.bytes ≡ shown_of (chars name)) × (count ≡ length bytes) × (format_of_length (length bytes) ≡ None) × (new ≡ old)
IsCheckRefusal {W} name bytes (ImageDamaged shown damage) old new =
    (shown.bytes ≡ shown_of (chars name)) × IsDamaged bytes damage × (new ≡ old)
IsCheckRefusal {W} name bytes (OutputUnwritable reason) old new = IsSoundImage bytes
IsCheckRefusal {W} name bytes _ old new = ⊥

-- the code of each refusal
abbrev pub code_of_check : CheckError → RefusalCode
code_of_check (FileRefused e) = code_of_reading e
code_of_check (ImageDamaged name damage) = code.Image
code_of_check (OutputUnwritable reason) = code.Unwritable
