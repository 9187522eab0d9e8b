-- What a slot that is added leaves of a host.
use Rattle.std.proofs.Common.{◌≡◌, ℕ, ◌+◌, ◌<◌, List, [], ◌∷◌, ◌++◌, sum_by, Option, refl, sym, ap, ◌∙◌, subst, arith}
use Rattle.std.proofs.lemmas.List.Sums.{sum_by-cons}
use Rattle.cpm_geom.specs.Disk.{Disk}
use Rattle.cpm_memory.specs.Contents.{Contents}
use Rattle.cpm_memory.specs.Reserved.{reserved_in}
use Rattle.cpm_machine.specs.MachineState.{MachineState}
use Rattle.cpm_machine.specs.declared.steps.Runner.{Runner}
use Rattle.cpm_slots.specs.declared.slots.Slot.{Slot}
use Rattle.cpm_slots.specs.Host.{Host, SlotState, quotas_of, with_added, IsHost}
use Rattle.cpm_slots.specs.Slots.{slot_of, slots_of, HaveTables}
use Rattle.cpm_slots.proofs.OrderLaws.{HasPlace, IsHost-added}
use Rattle.cpm_slots.proofs.OpenSlots.{IsAdded, HaveTables-added, slots-more}

-- the slot that is pushed
abbrev pub new_slot : ℕ → Runner → ℕ → Slot
new_slot id runner table = record { id = id; runner = runner; table = table }

abbrev pub hosted : Disk → ℕ → ℕ → List SlotState → Host
hosted system frames openings slots = record { system = system; frames = frames; openings = openings; slots = slots }

-- what all slots have reserved is their quotas
quotas-same : (m : List (Option Contents)) (xs : List Slot) → quotas_of (slots_of m xs) ≡ sum_by (λ x. x.runner.quota) xs
quotas-same m [] = refl
quotas-same m (x ∷ xs) =
    let rest = quotas-same m xs in
    let whole = sum_by-cons (λ (y : SlotState). y.state.quota) (slot_of m x) (slots_of m xs) in
    let one = sum_by-cons (λ (y : Slot). y.runner.quota) x xs in
    omega arith

-- so the store has as many frames as a slot reserves for which there is a place
pub has-room : (system : Disk) (frames openings : ℕ) (now : Host) (m : List (Option Contents)) (slots : List Slot) (quota : ℕ) →
    hosted system frames openings (slots_of m slots) ≡ now → HaveTables m slots → HasPlace now quota → frames < reserved_in m + quota → ⊥
has-room system frames openings now m slots quota view have_tables has_place less =
    let place = has_place.frames in
    let quotas : quotas_of now.slots ≡ sum_by (λ x. x.runner.quota) slots = ap (λ (h : Host). quotas_of h.slots) (sym view) ∙ quotas-same m slots in
    let wide : now.frames ≡ frames = ap (λ (h : Host). h.frames) (sym view) in
    let reserved = have_tables.reserved in
    omega (arith, place, quotas, wide, reserved, less)

-- the parts of a host as they were, and a slot for which there is a place
pub record IsAdding (system : Disk) (frames : ℕ) (now : Host) (old new : List (Option Contents)) (slots items : List Slot) (s : Slot) (memory : Contents) (state : MachineState) : Type 0 where
  pub view : hosted system frames s.id (slots_of old slots) ≡ now
  pub place : HasPlace now state.quota
  pub host : IsHost (hosted system frames s.id (slots_of old slots))
  pub have_tables : HaveTables old slots
  pub added : IsAdded old new s memory state
  pub pushed : items ≡ slots ++ s ∷ []

module _ (system : Disk) (frames : ℕ) (now : Host) (old new : List (Option Contents)) (slots items : List Slot) (s : Slot) (memory : Contents) (state : MachineState) (k : IsAdding system frames now old new slots items s memory state) where
  abbrev before : Host
  before = hosted system frames s.id (slots_of old slots)

  slots-after : slots_of new items ≡ slots_of old slots ++ record { id = s.id; state = state } ∷ []
  slots-after = ap (slots_of new) k.pushed ∙ slots-more old new slots s memory state k.have_tables k.added

  pub added-host : IsHost (hosted system frames (s.id + 1) (slots_of new items))
  added-host =
      let place : HasPlace before state.quota = subst (λ h. HasPlace h state.quota) (sym k.view) k.place in
      subst (λ xs. IsHost (hosted system frames (s.id + 1) xs)) (sym slots-after) (IsHost-added before state place k.host)

  pub added-have_tables : HaveTables new items
  added-have_tables = subst (HaveTables new) (sym k.pushed) (HaveTables-added old new slots s memory state k.have_tables k.added)

  pub added-is : hosted system frames (s.id + 1) (slots_of new items) ≡ with_added now state
  added-is = ap (hosted system frames (s.id + 1)) slots-after ∙ ap (λ h. with_added h state) k.view
