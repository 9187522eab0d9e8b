-- The numbers of a slot's session fit, as those of its slot do.
use Rattle.std.proofs.Common.{◌≡◌, ℕ, Bool, true, false, ◌==◌, if◌then◌else◌, List, [], ◌∷◌, Option, Some, All, subst}
use Rattle.std.proofs.lemmas.List.Elements.{All-head, All-tail}
use Rattle.cpm_memory.specs.Contents.{Contents}
use Rattle.cpm_bdos.specs.Bounds.{IsFit}
use Rattle.cpm_machine.specs.MachineState.{MachineState}
use Rattle.cpm_slots.specs.declared.slots.Slot.{Slot}
use Rattle.cpm_slots.specs.Host.{slot_at}
use Rattle.cpm_slots.specs.Slots.{slot_of, slots_of}

abbrev pub SlotFits : Slot → Type 0
SlotFits slot = IsFit slot.runner.session

pub fit-slot : (m : List (Option Contents)) (slots : List Slot) (id : ℕ) (s : MachineState) → All SlotFits slots → slot_at id (slots_of m slots) ≡ Some s → IsFit s.session
fit-slot m [] id s k h = cc
fit-slot m (x ∷ xs) id s k h = by_test (x.id == id) h (fit-slot m xs id s (All-tail SlotFits x xs k))
  where
    by_test : (b : Bool) → (if b then Some (slot_of m x).state else slot_at id (slots_of m xs)) ≡ Some s → (slot_at id (slots_of m xs) ≡ Some s → IsFit s.session) → IsFit s.session
    by_test true g rest = let same : (slot_of m x).state ≡ s = cc in subst (λ (t : MachineState). IsFit t.session) same (All-head SlotFits x xs k)
    by_test false g rest = rest g
