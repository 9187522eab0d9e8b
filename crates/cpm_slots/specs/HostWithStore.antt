-- A host with its store, and where the memories of its slots lie. (own)
use Rattle.std.specs.Prelude.{◌≡◌, ℕ, ◌+◌, ◌/◌, ◌%◌, ◌<◌, ◌≤◌, true, false, ◌==◌, if◌then◌else◌, List}
use Rattle.std.specs.Prelude.{[], ◌∷◌, ◌++◌, sum_by, Option, Some, None, IfSome, Result, Ok, Err, slice_index}
use Rattle.cpm_memory.specs.Contents.{byte_at, is_written, room_of}
use Rattle.cpm_memory.specs.Frames.{Frames, IsTableTaken, boot_of, frame_of_page, frame_of, memory_of, owners_of, used_of, KeepsPlaces}
use Rattle.cpm_memory.specs.Opening.{opening_byte}
use Rattle.cpm_memory.specs.Tabulated.{tabulated}
use Rattle.cpm_machine.specs.MachineState.{MachineState}
use Rattle.cpm_slots.specs.declared.event.Refusal.{Refusal}
use Rattle.cpm_slots.specs.declared.event.Refusal.TheVariants as refusal
use Rattle.cpm_slots.specs.Host.{Host, SlotState, slot_at}

-- the number of a slot, and the table of its memory (own)
pub record SlotTable : Type 0 where
  pub id : ℕ
  pub table : ℕ

pub record HostWithStore : Type 0 where
  -- what the host is, which knows no tables
  pub host : Host
  -- the frames, and the tables of the memories that are made of them
  pub store : Frames
  -- the table of each open slot, in the order of the slots
  pub tables : List SlotTable

-- the table of the slot of a number, if it is open (own)
abbrev pub table_of : ℕ → List SlotTable → Option ℕ
table_of id [] = None
table_of id (x ∷ xs) = if x.id == id then Some x.table else table_of id xs

-- a slot that is not open has none (own)
abbrev pub table_reply : Option ℕ → Result ℕ Refusal
table_reply None = Err refusal.NoSuchSlot
table_reply (Some table) = Ok table

-- A slot is in a table: the table is taken, and its memory, with the marks of the written pages, is the slot's. (own)
pub record IsInTable (h : HostWithStore) (id : ℕ) (s : MachineState) (table : ℕ) : Type 0 where
  pub named : table_of id h.tables ≡ Some table
  pub taken : IsTableTaken h.store table
  pub memory : memory_of h.store table ≡ s.memory
  -- a byte is one of the frame at its page
  pub bytes : (address : ℕ) → address < 65536 → byte_at s.memory address
      ≡ slice_index (frame_of h.store (frame_of_page h.store table (address / 256))) (address % 256)
  -- that is a private frame exactly for the pages that were written, else the page's boot frame
  pub private : (page : ℕ) → page < 256 → is_written s.memory page ≡ true → frame_of_page h.store table page < h.store.private
  pub boot : (page : ℕ) → page < 256 → is_written s.memory page ≡ false → frame_of_page h.store table page ≡ h.store.private + boot_of page

-- how many pages the slots may still write (own)
abbrev pub unused_of : List SlotState → ℕ
unused_of slots = sum_by (λ x. room_of x.state.memory) slots

-- it is in one (own)
abbrev pub IsInSomeTable : HostWithStore → ℕ → MachineState → Type 0
IsInSomeTable h id s = (table : ℕ) × IsInTable h id s table

-- What holds of a host and its store at all times. (own)
pub record IsHostWithStore (h : HostWithStore) : Type 0 where
  -- there are as many private frames as the host has
  pub frames : h.store.private ≡ h.host.frames
  -- each open slot is in a table, and no number else has one
  pub open_slots : (id : ℕ) → IfSome (slot_at id h.host.slots) (IsInSomeTable h id)
  pub others : (id : ℕ) → slot_at id h.host.slots ≡ None → table_of id h.tables ≡ None
  -- different slots are in different tables
  pub apart : (id other table : ℕ) → table_of id h.tables ≡ Some table → table_of other h.tables ≡ Some table → id ≡ other
  -- the boot frames have their bytes at opening, and so never change
  pub boot_frames : (page : ℕ) → page < 256 → frame_of h.store (h.store.private + boot_of page) ≡ tabulated 256 (opening_byte page)
  -- a private frame is at pages of tables that are taken, and of no other
  pub taken : (frame table page : ℕ) → frame < h.store.private → frame_of_page h.store table page ≡ frame → IsTableTaken h.store table
  -- one that a single page is made of is in one table only, at one page
  pub single : (frame table page other_table other_page : ℕ) → frame < h.store.private → owners_of h.store frame ≡ 1 → frame_of_page h.store table page ≡ frame
      → frame_of_page h.store other_table other_page ≡ frame → (table ≡ other_table) × (page ≡ other_page)
  -- the private frames that no table names are at least what the slots have reserved and not used: enough for all pages that they may still write
  pub free : used_of h.store + unused_of h.host.slots ≤ h.store.private

-- A fork of a slot shares the pages of that slot: each page of its table is made of the frame that the other's is made of.
-- No frame is changed, and no page of another table. (own)
pub record SharesPages (old new : HostWithStore) (id child : ℕ) : Type 0 where
  pub table : ℕ
  pub shared : ℕ
  pub named : table_of id old.tables ≡ Some table
  pub child_named : table_of child new.tables ≡ Some shared
  -- the tables of the other slots stay
  pub tables : new.tables ≡ old.tables ++ record { id = child; table = shared } ∷ []
  pub places : (page : ℕ) → frame_of_page new.store shared page ≡ frame_of_page old.store table page
  pub others : KeepsPlaces old.store new.store shared
  pub frames : new.store.frames ≡ old.store.frames
