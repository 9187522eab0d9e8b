-- What happens to a host, event by event, is to each slot its own events alone.
use Rattle.std.proofs.Common.{◌≡◌, ◌≢◌, ℕ, ◌<◌, ◌≤◌, true, false, ◌==◌, List, [], ◌∷◌, ◌++◌, map, Option, Some, None, Ok, Err, refl, sym, ap, ◌∙◌, arith, subst, if◌then◌else◌}
use Rattle.std.specs.Prelude.{Result}
use Rattle.std.proofs.lemmas.Bool.Decides.{nat_tests}
use Rattle.std.proofs.lemmas.Bool.{eqb-true}
use Rattle.cpm_geom.specs.Disk.{Disk}
use Rattle.cpm_saved.specs.declared.part.SavingDamage.{SavingDamage}
use Rattle.cpm_machine.specs.MachineState.{MachineState}
use Rattle.cpm_machine.specs.Saving.{Saving, restored}
use Rattle.cpm_slots.specs.declared.event.Event.{Event}
use Rattle.cpm_slots.specs.Serving.{Ask, ask_of, serve_slot}
use Rattle.cpm_slots.specs.Account.{slot_after, replies_of}
use Rattle.cpm_slots.specs.declared.event.ForkError.{ForkError}
use Rattle.cpm_slots.specs.declared.event.HostRestoreError.{HostRestoreError}
use Rattle.cpm_slots.specs.Host.{Host, Happening, Opens, Forks, Restores, Asks, SlotReply, opened_slot, refusal_of, opened_if, fork_fault, forked_if, with_forked, restore_fault, restored_if, with_added, slot_at, after_ask, after_one, host_after, told_by, replies_told, told_of, asked_of, own, happening_of, AllBelow}
use Rattle.cpm_slots.proofs.SlotLaws.{slot_at-other, slot_at-same, slot_at-added, AllBelow-added, AllBelow-with}

pub apart : (h : Host) (id other : ℕ) (ask : Ask) → other ≢ id → slot_at other (after_ask h id ask).slots ≡ slot_at other h.slots
apart h id other ask ne = slot_at-other other id (serve_slot h.system ask (slot_at id h.slots)).slot h.slots (grind (arith, nat_tests))

-- a fork leaves a host as it is, or adds a slot to it
forked-cases : (h : Host) (id : ℕ) (o : Option MachineState) (r : Option ForkError) (P : Host → Type 0) → slot_at id h.slots ≡ o → fork_fault h o ≡ r → P h → ((s : MachineState) → slot_at id h.slots ≡ Some s → fork_fault h (Some s) ≡ None → P (with_added h s)) → P (forked_if r h id)
forked-cases h id o (Some fault) P at e same more = same
forked-cases h id None None P at e same more = cc
forked-cases h id (Some s) None P at e same more = subst (λ x. P (with_forked h x)) (sym at) (more s at e)

pub forked-is : (h : Host) (id : ℕ) (P : Host → Type 0) → P h → ((s : MachineState) → slot_at id h.slots ≡ Some s → fork_fault h (Some s) ≡ None → P (with_added h s)) → P (after_one h (Forks id))
forked-is h id P same more = forked-cases h id (slot_at id h.slots) (fork_fault h (slot_at id h.slots)) P refl refl same more

-- and so does a restoring
restored-cases : (h : Host) (bytes : List ℕ) (read : Result Saving SavingDamage) (r : Option HostRestoreError) (P : Host → Type 0) → restored bytes ≡ read → restore_fault h read ≡ r → P h → ((x : Saving) → restored bytes ≡ Ok x → restore_fault h (Ok x) ≡ None → P (with_added h x.state)) → P (restored_if r h read)
restored-cases h bytes read (Some fault) P at e same more = same
restored-cases h bytes (Err damage) None P at e same more = same
restored-cases h bytes (Ok x) None P at e same more = more x at e

pub restored-is : (h : Host) (bytes : List ℕ) (P : Host → Type 0) → P h → ((x : Saving) → restored bytes ≡ Ok x → restore_fault h (Ok x) ≡ None → P (with_added h x.state)) → P (after_one h (Restores bytes))
restored-is h bytes P same more = restored-cases h bytes (restored bytes) (restore_fault h (restored bytes)) P refl refl same more

-- a slot that is added leaves the others
pub added-slot : (id : ℕ) (h : Host) (s : MachineState) → id < h.openings → slot_at id (with_added h s).slots ≡ slot_at id h.slots
added-slot id h s below = slot_at-added id (record { id = h.openings; state = s }) h.slots below

pub after_one-system : (h : Host) (x : Happening) → (after_one h x).system ≡ h.system
after_one-system h (Opens o) = elim (refusal_of h o) as (λ r. (opened_if r h o).system ≡ h.system) [ None ↦ refl | Some fault ↦ refl ]
after_one-system h (Forks id) = forked-is h id (λ g. g.system ≡ h.system) refl (λ s at e. refl)
after_one-system h (Restores bytes) = restored-is h bytes (λ g. g.system ≡ h.system) refl (λ x at e. refl)
after_one-system h (Asks id ask) = refl

pub after_one-openings : (h : Host) (x : Happening) → h.openings ≤ (after_one h x).openings
after_one-openings h (Opens o) = elim (refusal_of h o) as (λ r. h.openings ≤ (opened_if r h o).openings) [ None ↦ omega arith | Some fault ↦ omega arith ]
after_one-openings h (Forks id) = forked-is h id (λ g. h.openings ≤ g.openings) (omega arith) (λ s at e. omega arith)
after_one-openings h (Restores bytes) = restored-is h bytes (λ g. h.openings ≤ g.openings) (omega arith) (λ x at e. omega arith)
after_one-openings h (Asks id ask) = omega arith

-- what is asked leaves of the slot what it leaves if the slot was asked, and all of it else
asked-slot : (id : ℕ) (h : Host) (named : ℕ) (ask : Ask) → slot_at id (after_ask h named ask).slots ≡ slot_after h.system (asked_of id (Asks named ask)) (slot_at id h.slots)
asked-slot id h named ask =
    elim (named == id) as (λ b. (named == id) ≡ b → slot_at id (after_ask h named ask).slots ≡ slot_after h.system (if b then ask ∷ [] else []) (slot_at id h.slots)) [
      | true ↦ (λ e. let same : named ≡ id = grind (arith, nat_tests) in rw same (slot_at-same id ask h.system h.slots (slot_at id h.slots) refl))
      | false ↦ (λ e. slot_at-other id named (serve_slot h.system ask (slot_at named h.slots)).slot h.slots e)
    ] refl

-- an event leaves of the slot what its own events leave
after_one-slot : (id : ℕ) (h : Host) (x : Happening) → id < h.openings → slot_at id (after_one h x).slots ≡ slot_after h.system (asked_of id x) (slot_at id h.slots)
after_one-slot id h (Opens o) below =
    elim (refusal_of h o) as (λ r. slot_at id (opened_if r h o).slots ≡ slot_at id h.slots)
    [ None ↦ added-slot id h (opened_slot o) below | Some fault ↦ refl ]
after_one-slot id h (Forks parent) below = forked-is h parent (λ g. slot_at id g.slots ≡ slot_at id h.slots) refl (λ s at e. added-slot id h s below)
after_one-slot id h (Restores bytes) below = restored-is h bytes (λ g. slot_at id g.slots ≡ slot_at id h.slots) refl (λ x at e. added-slot id h x.state below)
after_one-slot id h (Asks named ask) below = asked-slot id h named ask

-- and tells it what its own events are replied
told_by-slot : (id : ℕ) (h : Host) (x : Happening) → told_of id (told_by h x) ≡ replies_of h.system (asked_of id x) (slot_at id h.slots)
told_by-slot id h (Opens o) = refl
told_by-slot id h (Forks parent) = refl
told_by-slot id h (Restores bytes) = refl
told_by-slot id h (Asks named ask) =
    elim (named == id) as (λ b. (named == id) ≡ b → told_of id (told_by h (Asks named ask)) ≡ replies_of h.system (if b then ask ∷ [] else []) (slot_at id h.slots)) [
      | true ↦ (λ e. rw e (ap (λ i. (serve_slot h.system ask (slot_at i h.slots)).reply ∷ []) (eqb-true named id e)))
      | false ↦ (λ e. rw e refl)
    ] refl

pub slot_after-append : (system : Disk) (xs ys : List Ask) (o : Option MachineState) → slot_after system (xs ++ ys) o ≡ slot_after system ys (slot_after system xs o)
slot_after-append system [] ys o = refl
slot_after-append system (x ∷ xs) ys o = slot_after-append system xs ys (serve_slot system x o).slot

pub replies_of-append : (system : Disk) (xs ys : List Ask) (o : Option MachineState) → replies_of system (xs ++ ys) o ≡ replies_of system xs o ++ replies_of system ys (slot_after system xs o)
replies_of-append system [] ys o = refl
replies_of-append system (x ∷ xs) ys o = ap (λ t. (serve_slot system x o).reply ∷ t) (replies_of-append system xs ys (serve_slot system x o).slot)

told_of-append : (id : ℕ) (xs ys : List SlotReply) → told_of id (xs ++ ys) ≡ told_of id xs ++ told_of id ys
told_of-append id [] ys = refl
told_of-append id (x ∷ xs) ys = grind (arith, nat_tests, told_of-append id xs ys)

-- a slot of a host after anything that happened
pub slot-after : (id : ℕ) (events : List Happening) (h : Host) → id < h.openings → slot_at id (host_after events h).slots ≡ slot_after h.system (own id events) (slot_at id h.slots)
slot-after id [] h below = refl
slot-after id (x ∷ xs) h below =
    let more = after_one-openings h x in
    rw (slot-after id xs (after_one h x) (omega arith), after_one-system h x, after_one-slot id h x below)
    (sym (slot_after-append h.system (asked_of id x) (own id xs) (slot_at id h.slots)))

pub told-after : (id : ℕ) (events : List Happening) (h : Host) → id < h.openings → told_of id (replies_told events h) ≡ replies_of h.system (own id events) (slot_at id h.slots)
told-after id [] h below = refl
told-after id (x ∷ xs) h below =
    let more = after_one-openings h x in
    rw (told_of-append id (told_by h x) (replies_told xs (after_one h x)), told-after id xs (after_one h x) (omega arith), told_by-slot id h x, after_one-system h x, after_one-slot id h x below)
    (sym (replies_of-append h.system (asked_of id x) (own id xs) (slot_at id h.slots)))

-- two hosts that agree on the system drive, on a slot of each and on its own events
pub two-worlds : (h g : Host) (i j : ℕ) (es ds : List Happening) → i < h.openings → j < g.openings → h.system ≡ g.system → slot_at i h.slots ≡ slot_at j g.slots → own i es ≡ own j ds →
    (told_of i (replies_told es h) ≡ told_of j (replies_told ds g)) × (slot_at i (host_after es h).slots ≡ slot_at j (host_after ds g).slots)
two-worlds h g i j es ds hi gj system slot asks = (
  told-after i es h hi ∙ rw (system, slot, asks) (sym (told-after j ds g gj)),
  slot-after i es h hi ∙ rw (system, slot, asks) (sym (slot-after j ds g gj)),
)

pub system-after : (events : List Happening) (h : Host) → (host_after events h).system ≡ h.system
system-after [] h = refl
system-after (x ∷ xs) h = system-after xs (after_one h x) ∙ after_one-system h x

AllBelow-one : (h : Host) (x : Happening) → AllBelow h.openings h.slots → AllBelow (after_one h x).openings (after_one h x).slots
AllBelow-one h (Opens o) b =
    elim (refusal_of h o) as (λ r. AllBelow (opened_if r h o).openings (opened_if r h o).slots)
    [ None ↦ AllBelow-added h.openings (opened_slot o) h.slots b | Some fault ↦ b ]
AllBelow-one h (Forks id) b = forked-is h id (λ g. AllBelow g.openings g.slots) b (λ s at e. AllBelow-added h.openings s h.slots b)
AllBelow-one h (Restores bytes) b = restored-is h bytes (λ g. AllBelow g.openings g.slots) b (λ x at e. AllBelow-added h.openings x.state h.slots b)
AllBelow-one h (Asks id ask) b = AllBelow-with h.openings id (serve_slot h.system ask (slot_at id h.slots)).slot h.slots b

pub AllBelow-after : (events : List Happening) (h : Host) → AllBelow h.openings h.slots → AllBelow (host_after events h).openings (host_after events h).slots
AllBelow-after [] h b = b
AllBelow-after (x ∷ xs) h b = AllBelow-after xs (after_one h x) (AllBelow-one h x b)

-- a slot that is closed stays so
pub slot_after-none : (system : Disk) (asks : List Ask) → slot_after system asks None ≡ None
unfolding serve_slot
slot_after-none system [] = refl
slot_after-none system (x ∷ xs) = slot_after-none system xs

-- where nothing is opened the number may be any
pub slot-asked : (id : ℕ) (events : List Event) (h : Host) → slot_at id (host_after (map happening_of events) h).slots ≡ slot_after h.system (own id (map happening_of events)) (slot_at id h.slots)
slot-asked id [] h = refl
slot-asked id (e ∷ es) h =
    let x = happening_of e in
    rw (slot-asked id es (after_one h x), asked-slot id h e.slot.0 (ask_of e.request))
    (sym (slot_after-append h.system (asked_of id x) (own id (map happening_of es)) (slot_at id h.slots)))

pub told-asked : (id : ℕ) (events : List Event) (h : Host) → told_of id (replies_told (map happening_of events) h) ≡ replies_of h.system (own id (map happening_of events)) (slot_at id h.slots)
told-asked id [] h = refl
told-asked id (e ∷ es) h =
    let x = happening_of e in
    rw (told_of-append id (told_by h x) (replies_told (map happening_of es) (after_one h x)), told-asked id es (after_one h x), told_by-slot id h x, asked-slot id h e.slot.0 (ask_of e.request))
    (sym (replies_of-append h.system (asked_of id x) (own id (map happening_of es)) (slot_at id h.slots)))
