-- A host that is made again: each open slot under its number, from its saving, and then the number of its openings. (own)
use Rattle.std.specs.Prelude.{◌≡◌, ◌≤◌, ℕ, nat_le, List, [], ◌∷◌, Option, option_map, slice_get, if◌then◌else◌}
use Rattle.cpm_slots.specs.Host.{Host, IsHost, Restores, SlotState, after_one, new_host, saving_of}
use Rattle.cpm_slots.specs.Restoring.{IsSavingBytes}

-- the number of the open slot at a place, in the order of the openings
abbrev pub id_at_place : ℕ → List SlotState → Option ℕ
id_at_place place slots = option_map (λ x. x.id) (slice_get slots place)

-- the next opening has this number
abbrev pub numbered_from : ℕ → Host → Host
numbered_from next h = record h { openings = next }

-- unless that was given
abbrev pub numbered_if : ℕ → Host → Host
numbered_if next h = if nat_le h.openings next then numbered_from next h else h

-- what a host is made again of: the number that the next slot has, or the bytes of a saving
pub data HostPart : Type 0 where
  NextNumber : (next : ℕ) → HostPart
  SavedSlot : (bytes : List ℕ) → HostPart

abbrev pub with_part : Host → HostPart → Host
with_part h (NextNumber next) = numbered_if next h
with_part h (SavedSlot bytes) = after_one h (Restores bytes)

abbrev pub with_parts : Host → List HostPart → Host
with_parts h [] = h
with_parts h (part ∷ parts) = with_parts (with_part h part) parts

-- a slot as two parts
pub record AreSlotParts (h : Host) (x : SlotState) (parts rest : List HostPart) : Type 0 where
  pub bytes : List ℕ
  pub saved : IsSavingBytes (saving_of h x.state) bytes
  pub are : parts ≡ NextNumber x.id ∷ SavedSlot bytes ∷ rest

-- these are the parts of these slots of a host: for each its number and its saving; and at last how many openings were made
abbrev pub ArePartsOf : Host → List SlotState → List HostPart → Type 0
ArePartsOf h [] parts = parts ≡ NextNumber h.openings ∷ []
ArePartsOf h (x ∷ xs) parts = (rest : List HostPart) × AreSlotParts h x parts rest × ArePartsOf h xs rest

-- A new host over the same system drive, with as many frames, becomes this host by its parts: each slot has its whole state and its number, and the next
-- opening has the number that it would have had.
abbrev pub Remaking : Type 0
Remaking = (h : Host) (parts : List HostPart) → IsHost h → h.openings ≤ 18446744073709551615 → ArePartsOf h h.slots parts →
    with_parts (new_host h.system h.frames) parts ≡ h
