-- Savings of slots. (own)
use Rattle.std.specs.Prelude.{◌≡◌, ℕ, List, Some, Ok}
use Rattle.cpm_saved.specs.declared.reader.RestoreError.{RestoreError}
use Rattle.cpm_saved.specs.declared.reader.RestoreError.TheVariants as read
use Rattle.cpm_machine.specs.MachineState.{MachineState}
use Rattle.cpm_machine.specs.Saving.{Saving, bytes_of_saving, restored}
use Rattle.cpm_slots.specs.declared.event.HostRestoreError.{HostRestoreError}
use Rattle.cpm_slots.specs.declared.event.HostRestoreError.TheVariants as restore
use Rattle.cpm_slots.specs.Host.{Host, saving_of, slot_at}

-- the bytes are those of this saving, and it is what is restored of them
pub record IsSavingBytes (x : Saving) (bytes : List ℕ) : Type 0 where
  pub saved : bytes ≡ bytes_of_saving x
  pub restores : restored bytes ≡ Ok x

-- a slot of a host is open, and these are the bytes of its saving
pub record IsSlotSaved (h : Host) (id : ℕ) (bytes : List ℕ) : Type 0 where
  pub state : MachineState
  pub there : slot_at id h.slots ≡ Some state
  pub saving : IsSavingBytes (saving_of h state) bytes

-- why bytes that are read open no slot
abbrev pub host_restore_error : RestoreError → HostRestoreError
host_restore_error (read.Damaged damage) = restore.Damaged damage
host_restore_error read.OutOfMemory = restore.OutOfMemory
