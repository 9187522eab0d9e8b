-- What the command `list` does. All of it is own.
use Rattle.std.specs.Prelude.{◌≡◌, ◌⊎◌, ℕ, List, Option}
use Rattle.std.specs.Io.KnownBytes.{Appends}
use Rattle.cpm_flags.specs.declared.regs.Cpu.{Cpu}
use Rattle.cpm_host.specs.Listing.{IsListingRefusal, program_listing}
use Rattle.cpm_host.specs.declared.error.HostError.{HostError}
use Rattle.cpm_store.specs.Files.{StoreName}
use Rattle.cpm_store.specs.Log.{StoreAccess, Gave, Missed}
use Rattle.cpm_commands.specs.Files.{IsUnread}

-- the file gave a program, and its lines were printed
pub record HasListed {F : Type 0} (does : F → StoreAccess → F → Type 0) (file : StoreName) (cpu : Cpu) (old new : F)
    (before printed : Option (List ℕ)) : Type 0 where
  pub program : List ℕ
  pub read : does old (Gave file program) new
  pub text : Appends before printed (program_listing cpu 256 0 program)

-- the file can't be read, and nothing is printed; or it gave a program, some of whose lines can't be printed
abbrev pub IsListRefused : {F W : Type 0} → (F → StoreAccess → F → Type 0) → StoreName → F → F → W → W → HostError → Type 0
IsListRefused {F} {W} does file old new before printed e =
    (IsUnread file e × does old (Missed file) new × (printed ≡ before))
    ⊎ ((program : List ℕ) × does old (Gave file program) new × IsListingRefusal program e)
