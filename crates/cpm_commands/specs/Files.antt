-- How a command's files are written, and refused. All of it is own.
use Rattle.std.specs.Prelude.{⊤, ◌≡◌, ◌⊎◌, ℕ, List, chars, slice_get, Option, Some, None}
use Rattle.cpm_batch.specs.declared.error.ReadError.TheVariants.{File}
use Rattle.cpm_shown.specs.Shown.{shown_of}
use Rattle.cpm_host.specs.declared.error.HostError.{HostError}
use Rattle.cpm_host.specs.declared.error.HostError.TheVariants.{OutOfMemory, RunRefused}
use Rattle.cpm_run.specs.declared.error.RunError.TheVariants.{FileRefused, WriteFault}
use Rattle.cpm_store.specs.Files.{StoreName}
use Rattle.cpm_store.specs.Log.{StoreAccess, AreWrites, LogLeadsBy, StopsAfter}
use Rattle.cpm_store.specs.Writes.{NamedBytes}

-- the file of this name can't be read, or memory was refused
abbrev pub IsUnread : StoreName → HostError → Type 0
IsUnread name (RunRefused (FileRefused (File shown))) = shown.bytes ≡ shown_of (chars name)
IsUnread name OutOfMemory = ⊤
IsUnread name _ = ⊥

-- the file of this name can't be written, or memory was refused
abbrev pub IsUnwritten : StoreName → HostError → Type 0
IsUnwritten name (RunRefused (WriteFault shown)) = shown.bytes ≡ shown_of (chars name)
IsUnwritten name OutOfMemory = ⊤
IsUnwritten name _ = ⊥

-- the files before the one at a place were written, and writing that one failed: it is told by its name, or memory was refused
pub record IsWritingStopped {F : Type 0} (does : F → StoreAccess → F → Type 0) (outputs : List NamedBytes) (old new : F) (e : HostError) : Type 0 where
  pub place : ℕ
  pub output : NamedBytes
  pub there : slice_get outputs place ≡ Some output
  pub told : IsUnwritten output.0 e
  pub calls : LogLeadsBy does (StopsAfter outputs place) old new

-- all of them were written, in this order, and got their names
pub record AreWritten {F : Type 0} (does : F → StoreAccess → F → Type 0) (gives_names : F → Option HostError → F → Type 0) (outputs : List NamedBytes)
    (old new : F) : Type 0 where
  pub written : F
  pub calls : LogLeadsBy does (AreWrites outputs) old written
  pub named : gives_names written None new

-- one can't be written; or all were, and they can't have their names
abbrev pub AreUnwritten : {F : Type 0} → (F → StoreAccess → F → Type 0) → (F → Option HostError → F → Type 0) → List NamedBytes → F → F → HostError → Type 0
AreUnwritten {F} does gives_names outputs old new e =
    IsWritingStopped does outputs old new e
    ⊎ ((written : F) × LogLeadsBy does (AreWrites outputs) old written × gives_names written (Some e) new)
