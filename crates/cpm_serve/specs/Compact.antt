-- A journal of a host's savings. All of it is own: docs/JOURNAL.md.
use Rattle.std.specs.Prelude.{◌≡◌, ◌≤◌, ℕ, List, [], ◌∷◌, ◌++◌, map, Option, Some}
use Rattle.std.specs.Io.KnownBytes.{Appends}
use Rattle.std.specs.List.{AllByRecursion}
use Rattle.cpm_slots.specs.Host.{Host, IsHost, SlotState, new_host, saving_of}
use Rattle.cpm_slots.specs.Remaking.{ArePartsOf, HostPart, NextNumber, SavedSlot}
use Rattle.cpm_slots.specs.Restoring.{IsSavingBytes}
use Rattle.cpm_journal.specs.Entries.{AreLinesOf, IsKeepable, IsLineOf, KeptEntry, KeptNumber, KeptSaving, entry_json}
use Rattle.cpm_journal.specs.Heads.{head_json}
use Rattle.cpm_journal.specs.Lines.{lines_text}
use Rattle.cpm_serve.specs.Resumed.{IsResumed, host_head}

abbrev pub entry_of_part : HostPart → KeptEntry
entry_of_part (NextNumber next) = KeptNumber next
entry_of_part (SavedSlot bytes) = KeptSaving bytes

-- A journal of a host was added to bytes: its head; for each open slot its number and its saving; and the number of the next opening.
pub record IsCompact (h : Host) (old new : Option (List ℕ)) : Type 0 where
  pub first : List ℕ
  pub head : IsLineOf (head_json (host_head h)) first
  pub parts : List HostPart
  pub are : ArePartsOf h h.slots parts
  pub lines : List (List ℕ)
  pub of : AreLinesOf (map entry_of_part parts) lines
  pub keepable : AllByRecursion IsKeepable (map entry_of_part parts)
  pub added : Appends old new (first ++ 0x0A ∷ lines_text lines)

-- Done again on a new host over the same system drive and with as many frames, it makes the host.
abbrev pub CompactJournalsRemake : Type 0
CompactJournalsRemake = (h : Host) (text : List ℕ) → IsHost h → h.openings ≤ 18446744073709551615 → IsCompact h (Some []) (Some text) →
    IsResumed text (new_host h.system h.frames) h 0

-- ---- how the code writes it

-- the line of an entry that can be kept was added to bytes
pub record IsEntryWritten (e : KeptEntry) (old new : Option (List ℕ)) : Type 0 where
  pub line : List ℕ
  pub of : IsLineOf (entry_json e) line
  pub keepable : IsKeepable e
  pub added : Appends old new (line ++ 0x0A ∷ [])

-- so was the head of a host's journals
pub record IsHeadWritten (h : Host) (old new : Option (List ℕ)) : Type 0 where
  pub line : List ℕ
  pub of : IsLineOf (head_json (host_head h)) line
  pub added : Appends old new (line ++ 0x0A ∷ [])

-- so were an open slot's number and then its saving
pub record IsSlotWritten (h : Host) (x : SlotState) (old new : Option (List ℕ)) : Type 0 where
  pub between : Option (List ℕ)
  pub number : IsEntryWritten (KeptNumber x.id) old between
  pub bytes : List ℕ
  pub saved : IsSavingBytes (saving_of h x.state) bytes
  pub saving : IsEntryWritten (KeptSaving bytes) between new

-- so were these slots of a host, in order
abbrev pub AreSlotsWritten : Host → List SlotState → (old new : Option (List ℕ)) → Type 0
AreSlotsWritten h [] old new = new ≡ old
AreSlotsWritten h (x ∷ xs) old new = (between : Option (List ℕ)) × IsSlotWritten h x old between × AreSlotsWritten h xs between new
