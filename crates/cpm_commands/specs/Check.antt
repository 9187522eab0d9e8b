-- What the command `check` does. All of it is own.
use Rattle.std.specs.Prelude.{◌≡◌, ◌⊎◌, ℕ, List, Option}
use Rattle.std.specs.Io.KnownBytes.{Appends}
use Rattle.cpm_check.specs.Check.{IsCheckRefusal, IsSoundImage, ok_line}
use Rattle.cpm_check.specs.declared.error.CheckError.{CheckError}
use Rattle.cpm_host.specs.Refusals.{host_error_of_check}
use Rattle.cpm_host.specs.declared.error.HostError.{HostError}
use Rattle.cpm_store.specs.Files.{StoreName}
use Rattle.cpm_store.specs.Log.{StoreAccess, Gave, Missed}
use Rattle.cpm_commands.specs.Files.{IsUnread}

-- the file gave an image whose directory is in order, which is printed
pub record HasChecked {F : Type 0} (does : F → StoreAccess → F → Type 0) (file : StoreName) (old new : F) (before printed : Option (List ℕ)) : Type 0 where
  pub bytes : List ℕ
  pub read : does old (Gave file bytes) new
  pub sound : IsSoundImage bytes
  pub text : Appends before printed ok_line

-- the file gave bytes that are refused
pub record IsRefusedImage {F W : Type 0} (does : F → StoreAccess → F → Type 0) (file : StoreName) (old new : F) (before printed : W) (e : HostError)
    : Type 0 where
  pub bytes : List ℕ
  pub read : does old (Gave file bytes) new
  pub error : CheckError
  pub told : e ≡ host_error_of_check error
  pub why : IsCheckRefusal file bytes error before printed

-- the file can't be read, and nothing is printed; or it gave bytes that are refused
abbrev pub IsCheckRefused : {F W : Type 0} → (F → StoreAccess → F → Type 0) → StoreName → F → F → W → W → HostError → Type 0
IsCheckRefused {F} {W} does file old new before printed e =
    (IsUnread file e × does old (Missed file) new × (printed ≡ before)) ⊎ IsRefusedImage does file old new before printed e
