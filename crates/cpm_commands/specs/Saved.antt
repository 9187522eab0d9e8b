-- What the command `saved` does. All of it is own.
use Rattle.std.specs.Prelude.{◌≡◌, ◌⊎◌, ℕ, List, Option, Ok}
use Rattle.cpm_host.specs.Saved.{IsSavingRefusal}
use Rattle.cpm_host.specs.SavedText.{HasAppended, IsSavedTold, IsUntold}
use Rattle.cpm_host.specs.declared.error.HostError.{HostError}
use Rattle.cpm_machine.specs.Saving.{Saving, restored}
use Rattle.cpm_store.specs.Files.{StoreName}
use Rattle.cpm_store.specs.Log.{StoreAccess, Gave, Missed}
use Rattle.cpm_commands.specs.Files.{IsUnread}

-- the file gave a saved machine, and what it is was printed
pub record HasToldSaved {F : Type 0} (does : F → StoreAccess → F → Type 0) (file : StoreName) (old new : F) (before printed : Option (List ℕ)) : Type 0 where
  pub bytes : List ℕ
  pub saving : Saving
  pub read : does old (Gave file bytes) new
  pub restores : restored bytes ≡ Ok saving
  pub text : HasAppended before printed (IsSavedTold saving)

-- the file gave bytes that are no saved machine, and nothing is printed; or it gave one, and not all of it can be printed
pub data IsSavingUntold {F W : Type 0} (does : F → StoreAccess → F → Type 0) (file : StoreName) (old new : F) (before printed : W) (e : HostError)
    : Type 0 where
  NoSaving : (bytes : List ℕ) → does old (Gave file bytes) new → IsSavingRefusal file bytes e → printed ≡ before
      → IsSavingUntold does file old new before printed e
  NotPrinted : (bytes : List ℕ) (saving : Saving) → does old (Gave file bytes) new → restored bytes ≡ Ok saving → IsUntold before printed e
      → IsSavingUntold does file old new before printed e

-- the file can't be read, and nothing is printed; or what it gave isn't told
abbrev pub IsSavedTellingRefused : {F W : Type 0} → (F → StoreAccess → F → Type 0) → StoreName → F → F → W → W → HostError → Type 0
IsSavedTellingRefused {F} {W} does file old new before printed e =
    (IsUnread file e × does old (Missed file) new × (printed ≡ before)) ⊎ IsSavingUntold does file old new before printed e
