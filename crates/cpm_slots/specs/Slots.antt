-- Sessions whose memories lie in one store, as the slots of a host. (own)
use Rattle.std.specs.Prelude.{⊤, ◌≡◌, ◌≢◌, ℕ, true, List, [], ◌∷◌, length, map, sum_by, Option, Some, None, is_some, unwrap_or, slice_index_or, slice_set}
use Rattle.cpm_memory.specs.Contents.{Contents}
use Rattle.cpm_geom.specs.Disk.{Disk}
use Rattle.cpm_memory.specs.Frames.{Frames, memories}
use Rattle.cpm_memory.specs.Opening.{opening}
use Rattle.cpm_memory.specs.Reserved.{taken_in, reserved_in}
use Rattle.cpm_decode.specs.Cache.{IsRightFor}
use Rattle.cpm_machine.specs.Runner.{state_of, IsRunnerSound}
use Rattle.cpm_slots.specs.declared.slots.Slot.{Slot}
use Rattle.cpm_slots.specs.Host.{SlotState}
use Rattle.cpm_slots.specs.HostWithStore.{SlotTable, HostWithStore}

-- the memory of a table
abbrev pub contents_at : List (Option Contents) → ℕ → Contents
contents_at memories table = unwrap_or (slice_index_or memories table None) (opening 0)

abbrev pub slot_of : List (Option Contents) → Slot → SlotState
slot_of memories slot = record { id = slot.id; state = state_of slot.runner (contents_at memories slot.table) }

-- the written slots, with their memories from the store
abbrev pub slots_of : List (Option Contents) → List Slot → List SlotState
slots_of memories slots = map (slot_of memories) slots

-- their tables
abbrev pub tables_of : List Slot → List SlotTable
tables_of slots = map (λ slot. record { id = slot.id; table = slot.table }) slots

-- the host that these parts make, with its store
abbrev pub host_with_store : Disk → ℕ → ℕ → Frames → List Slot → HostWithStore
host_with_store system frames openings store slots =
    record {
      host = record { system = system; frames = frames; openings = openings; slots = slots_of (memories store) slots };
      store = store;
      tables = tables_of slots;
    }

-- none of the slots has that table
abbrev pub NoneAt : ℕ → List Slot → Type 0
NoneAt table [] = ⊤
NoneAt table (x ∷ xs) = (x.table ≢ table) × NoneAt table xs

-- each slot is sound, and has a table of its own
abbrev pub AllSound : List (Option Contents) → List Slot → Type 0
AllSound memories [] = ⊤
AllSound memories (x ∷ xs) = (is_some (slice_index_or memories x.table None) ≡ true) × IsRunnerSound (state_of x.runner (contents_at memories x.table))
    × NoneAt x.table xs × AllSound memories xs

-- the slot's cache is right for the memory and the stamps of its table
abbrev pub IsCached : List (Option Contents) → List (List ℕ) → Slot → Type 0
IsCached memories stamps slot = IsRightFor (contents_at memories slot.table) (slice_index_or stamps slot.table []) slot.runner.cache

-- each slot's is
abbrev pub AllCached : List (Option Contents) → List (List ℕ) → List Slot → Type 0
AllCached memories stamps [] = ⊤
AllCached memories stamps (x ∷ xs) = IsCached memories stamps x × AllCached memories stamps xs

-- so the tables that are taken are the slots', and what they reserve is the slots' quotas
pub record HaveTables (memories : List (Option Contents)) (slots : List Slot) : Type 0 where
  pub all : AllSound memories slots
  pub taken : taken_in memories ≡ length slots
  pub reserved : reserved_in memories ≡ sum_by (λ x. x.runner.quota) slots

-- the memory of one table alone is another
pub record ChangesAt (table : ℕ) (old new : List (Option Contents)) : Type 0 where
  pub memories : new ≡ slice_set old table (Some (contents_at new table))
