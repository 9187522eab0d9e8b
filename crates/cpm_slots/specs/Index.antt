-- Where a slot lies among the slots of a host. (own)
use Rattle.std.specs.Prelude.{◌≡◌, ℕ, zero, suc, ◌<◌, List, [], ◌∷◌, length, Option, Some, None, IfSome, slice_get}
use Rattle.cpm_geom.specs.Disk.{Disk}
use Rattle.cpm_machine.specs.MachineState.{MachineState}
use Rattle.cpm_machine.specs.Calls.{Call, serve}
use Rattle.cpm_slots.specs.declared.event.Reply.{Reply}
use Rattle.cpm_slots.specs.Serving.{reply_of}
use Rattle.cpm_slots.specs.Host.{SlotState, slot_at}

-- the slot of that number lies at that place
pub record IsAtIndex (id : ℕ) (slots : List SlotState) (index : ℕ) : Type 0 where
  pub found : SlotState
  pub within : index < length slots
  pub at : slice_get slots index ≡ Some found
  pub id_is : found.id ≡ id
  pub slot : slot_at id slots ≡ Some found.state

-- the place of the first slot of that number, if there is one
abbrev pub IsIndex : ℕ → List SlotState → Option ℕ → Type 0
IsIndex id slots None = slot_at id slots ≡ None
IsIndex id slots (Some index) = IsAtIndex id slots index

-- the slots, of which that at a place is another
abbrev pub with_state_at : ℕ → (MachineState → MachineState) → List SlotState → List SlotState
with_state_at index f [] = []
with_state_at zero f (x ∷ xs) = record { id = x.id; state = f x.state } ∷ xs
with_state_at (suc index) f (x ∷ xs) = x ∷ with_state_at index f xs

-- this is what the machine replies to a call, and what it is afterwards
pub record Serves (system : Disk) (call : Call) (reply : Reply) (old new : MachineState) : Type 0 where
  pub replied : reply ≡ reply_of (serve system call old).answer
  pub state : new ≡ (serve system call old).state

-- this is what the slot at a place replies to a call, and the slots afterwards
pub record IsServed (system : Disk) (call : Call) (index : ℕ) (reply : Reply) (old new : List SlotState) : Type 0 where
  pub replied : IfSome (slice_get old index) (λ x. reply ≡ reply_of (serve system call x.state).answer)
  pub slots : new ≡ with_state_at index (λ s. (serve system call s).state) old
