-- Grants to a slot that are cut.
use Rattle.std.proofs.Common.{◌≡◌, ℕ, ◌+◌, List, [], ◌∷◌, Option, Some, None, refl, sym, ap, ◌∙◌, arith}
use Rattle.std.proofs.lemmas.Bool.Decides.{nat_tests}
use Rattle.cpm_geom.specs.Disk.{Disk}
use Rattle.cpm_machine.specs.MachineState.{MachineState}
use Rattle.cpm_machine.specs.Step.{after}
use Rattle.cpm_machine.specs.Serve.{executed}
use Rattle.cpm_machine.specs.Calls.{Grant, serve}
use Rattle.cpm_machine.proofs.GrantLaws.{cut, after-add}
use Rattle.cpm_slots.specs.Serving.{Ask, Calls, serve_slot}
use Rattle.cpm_slots.specs.Laws.{executed_in}
use Rattle.cpm_slots.specs.Host.{Host, SlotState, slot_at, with_slot, after_ask, reply_at}
use Rattle.cpm_slots.proofs.SlotLaws.{slot_at-same, with_slot-none}

abbrev grant : ℕ → Ask
grant steps = Calls (Grant steps)

-- two grants leave of a slot what one of the sum leaves
cut-slot : (system : Disk) (a b : ℕ) (o : Option MachineState) → (serve_slot system (grant b) (serve_slot system (grant a) o).slot).slot ≡ (serve_slot system (grant (a + b)) o).slot
unfolding serve_slot serve
cut-slot system a b None = refl
cut-slot system a b (Some s) =
    let k = executed system a s in
    ap Some (sym (ap (λ n. after system n s) (cut system a b s) ∙ after-add system k (executed system b (after system k s)) s))

cut-executed : (system : Disk) (a b : ℕ) (o : Option MachineState) → executed_in (serve_slot system (grant a) o).reply + executed_in (serve_slot system (grant b) (serve_slot system (grant a) o).slot).reply ≡ executed_in (serve_slot system (grant (a + b)) o).reply
unfolding serve_slot serve
cut-executed system a b None = refl
cut-executed system a b (Some s) = sym (cut system a b s)

-- a slot that is set twice
with_slot-twice : (id : ℕ) (s t : MachineState) (xs : List SlotState) → with_slot id (Some t) (with_slot id (Some s) xs) ≡ with_slot id (Some t) xs
with_slot-twice id s t [] = refl
with_slot-twice id s t (x ∷ xs) = grind (arith, nat_tests, with_slot-twice id s t xs)

-- a grant keeps a slot open, and one that is not
twice : (system : Disk) (a b : ℕ) (id : ℕ) (o : Option MachineState) (xs : List SlotState) → slot_at id xs ≡ o → with_slot id (serve_slot system (grant b) (serve_slot system (grant a) o).slot).slot (with_slot id (serve_slot system (grant a) o).slot xs) ≡ with_slot id (serve_slot system (grant b) (serve_slot system (grant a) o).slot).slot xs
unfolding serve_slot
twice system a b id None xs h = ap (with_slot id None) (with_slot-none id xs h)
twice system a b id (Some s) xs h = with_slot-twice id (serve system (Grant a) s).state (serve system (Grant b) (serve system (Grant a) s).state).state xs

pub cut-host : (h : Host) (id a b : ℕ) → after_ask (after_ask h id (grant a)) id (grant b) ≡ after_ask h id (grant (a + b))
cut-host h id a b =
    let o = slot_at id h.slots in
    let first = (serve_slot h.system (grant a) o).slot in
    ap (λ xs. record h { slots = xs })
    (ap (λ p. with_slot id (serve_slot h.system (grant b) p).slot (with_slot id first h.slots)) (slot_at-same id (grant a) h.system h.slots o refl)
    ∙ twice h.system a b id o h.slots refl
    ∙ ap (λ p. with_slot id p h.slots) (cut-slot h.system a b o))

pub cut-replies : (h : Host) (id a b : ℕ) → executed_in (reply_at h id (grant a)) + executed_in (reply_at (after_ask h id (grant a)) id (grant b)) ≡ executed_in (reply_at h id (grant (a + b)))
cut-replies h id a b =
    let o = slot_at id h.slots in
    ap (λ p. executed_in (serve_slot h.system (grant a) o).reply + executed_in (serve_slot h.system (grant b) p).reply) (slot_at-same id (grant a) h.system h.slots o refl)
    ∙ cut-executed h.system a b o
