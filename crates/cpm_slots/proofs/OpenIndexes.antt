-- The first slot of a number.
use Rattle.std.proofs.Common.{◌≡◌, ℕ, zero, suc, ◌<◌, List, [], ◌∷◌, length, drop, Option, Some, refl, sym, ap, ◌∙◌, arith}
use Rattle.std.specs.Prelude.{slice_get}
use Rattle.std.proofs.lemmas.Bool.{eq-eqb}
use Rattle.cpm_memory.specs.Contents.{Contents}
use Rattle.cpm_slots.specs.declared.slots.Slot.{Slot}
use Rattle.cpm_slots.specs.Host.{slot_at}
use Rattle.cpm_slots.specs.Index.{IsAtIndex}
use Rattle.cpm_slots.specs.Slots.{slot_of, slots_of}

pub length-slots : (memories : List (Option Contents)) (slots : List Slot) → length (slots_of memories slots) ≡ length slots
length-slots memories [] = refl
length-slots memories (x ∷ xs) = ap suc (length-slots memories xs)

pub slots-at : (memories : List (Option Contents)) (slots : List Slot) (index : ℕ) (s : Slot) → slice_get slots index ≡ Some s → slice_get (slots_of memories slots) index ≡ Some (slot_of memories s)
slots-at memories [] index s h = cc
slots-at memories (x ∷ xs) zero s h = let same : x ≡ s = cc in ap (λ t. Some (slot_of memories t)) same
slots-at memories (x ∷ xs) (suc index) s h = slots-at memories xs index s h

slot_at-slot : (id : ℕ) (memories : List (Option Contents)) (slots : List Slot) (index : ℕ) (s : Slot) → slice_get slots index ≡ Some s → s.id ≡ id → slot_at id (slots_of memories (drop index slots)) ≡ Some (slot_of memories s).state
slot_at-slot id memories [] index s h same = cc
slot_at-slot id memories (x ∷ xs) zero s h same =
    let at : x ≡ s = cc in
    rw (eq-eqb x.id id (ap (λ (t : Slot). t.id) at ∙ same)) (ap (λ t. Some (slot_of memories t).state) at)
slot_at-slot id memories (x ∷ xs) (suc index) s h same = slot_at-slot id memories xs index s h same

-- the slot at a place is the first of its number
pub slot-index : (id : ℕ) (memories : List (Option Contents)) (slots : List Slot) (index : ℕ) (s : Slot) → index < length slots → slice_get slots index ≡ Some s → s.id ≡ id → slot_at id (slots_of memories (drop index slots)) ≡ slot_at id (slots_of memories slots) → IsAtIndex id (slots_of memories slots) index
slot-index id memories slots index s below h same first =
    let long = length-slots memories slots in
    record {
      found = slot_of memories s;
      within = omega arith;
      at = slots-at memories slots index s h;
      id_is = same;
      slot = sym first ∙ slot_at-slot id memories slots index s h same;
    }
