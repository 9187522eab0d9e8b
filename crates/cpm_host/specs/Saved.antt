-- Machines that were saved in files, and machines that are saved. All of it is own.
use Rattle.std.specs.Prelude.{⊤, ◌≡◌, ℕ, Bool, true, false, List, Option, Some, None, Err, nat_eq, chars}
use Rattle.std.specs.Cmp.Lexicographic.{pointwise}
use Rattle.cpm_batch.specs.Savings.{version_in}
use Rattle.cpm_shown.specs.Shown.{shown_of}
use Rattle.cpm_geom.specs.Disk.{Disk}
use Rattle.cpm_machine.specs.MachineState.{MachineState}
use Rattle.cpm_machine.specs.Saving.{bytes_of_saving, restored, saving_with}
use Rattle.cpm_machine.specs.SystemDigest.{system_digest}
use Rattle.cpm_saved.specs.declared.reader.RestoreError.{RestoreError}
use Rattle.cpm_saved.specs.declared.reader.RestoreError.TheVariants.{Damaged}
use Rattle.cpm_saved.specs.declared.reader.RestoreError.TheVariants as read
use Rattle.cpm_store.specs.Files.{StoreName}
use Rattle.cpm_host.specs.declared.error.HostError.{HostError}
use Rattle.cpm_host.specs.declared.error.HostError.TheVariants.{OutOfMemory, SavingRefused}

-- the digest is that of this system drive
abbrev pub is_of_system : (digest : List ℕ) → Disk → Bool
is_of_system digest system = pointwise nat_eq digest (system_digest system)

-- the bytes of a machine over a system drive, if it is saved
abbrev pub saved_if : Bool → Disk → MachineState → Option (List ℕ)
saved_if true system s = Some (bytes_of_saving (saving_with (system_digest system) s))
saved_if false system s = None

-- what is told of a saving that is refused, in the file of this name, which has these bytes
abbrev pub IsSavingTold : StoreName → (bytes : List ℕ) → RestoreError → HostError → Type 0
IsSavingTold name bytes (Damaged damage) (SavingRefused refusal) =
    (refusal.name.bytes ≡ shown_of (chars name)) × (refusal.damage ≡ damage) × (refusal.version ≡ version_in bytes)
IsSavingTold name bytes (Damaged damage) _ = ⊥
IsSavingTold name bytes read.OutOfMemory e = e ≡ OutOfMemory

-- how the bytes of a file are refused: they are no saving, for its first part that can't be read; with the name of the file as it is shown, and the number of
-- the format that stands there
abbrev pub IsSavingRefusal : StoreName → (bytes : List ℕ) → HostError → Type 0
IsSavingRefusal name bytes (SavingRefused refusal) =
    (refusal.name.bytes ≡ shown_of (chars name)) × (restored bytes ≡ Err refusal.damage) × (refusal.version ≡ version_in bytes)
IsSavingRefusal name bytes OutOfMemory = ⊤
IsSavingRefusal name bytes _ = ⊥
