-- A slot at its place is the slot of its number.
use Rattle.std.proofs.Common.{◌≡◌, ℕ, zero, suc, ◌+◌, ◌≤◌, false, ◌==◌, List, [], ◌∷◌, Option, Some, None, refl, sym, ap, ◌∙◌, arith}
use Rattle.std.specs.Prelude.{slice_get, IfSome}
use Rattle.std.proofs.lemmas.Bool.Decides.{nat_tests}
use Rattle.std.proofs.lemmas.Bool.{eq-eqb}
use Rattle.cpm_geom.specs.Disk.{Disk}
use Rattle.cpm_memory.specs.Contents.{byte_at}
use Rattle.cpm_machine.specs.declared.reply.Look.{Look}
use Rattle.cpm_machine.specs.MachineState.{MachineState}
use Rattle.cpm_machine.specs.Serve.{look_of}
use Rattle.cpm_machine.specs.Calls.{Call, LookAt, Peek, serve}
use Rattle.cpm_slots.specs.declared.event.Reply.{Reply}
use Rattle.cpm_slots.specs.declared.event.Reply.TheVariants as reply
use Rattle.cpm_slots.specs.declared.event.Refusal.TheVariants as refusal
use Rattle.cpm_slots.specs.Serving.{Ask, Calls, reply_of, serve_slot}
use Rattle.cpm_slots.specs.Host.{SlotState, slot_at, with_slot, IsOrdered}
use Rattle.cpm_slots.specs.Index.{IsAtIndex, with_state_at, IsServed}
use Rattle.cpm_slots.proofs.SlotLaws.{with_slot-below, with_slot-none}

-- the numbers from a place on
IsOrdered-at : (n : ℕ) (slots : List SlotState) (i : ℕ) (e : SlotState) → IsOrdered n slots → slice_get slots i ≡ Some e → n ≤ e.id
IsOrdered-at n [] i e k h = cc
IsOrdered-at n (x ∷ xs) zero e k h =
    let first : n ≤ x.id = k.0 in
    let at : x ≡ e = cc in
    let same : x.id ≡ e.id = ap (λ (t : SlotState). t.id) at in omega arith
IsOrdered-at n (x ∷ xs) (suc i) e k h =
    let first : n ≤ x.id = k.0 in
    let rest : x.id + 1 ≤ e.id = IsOrdered-at (x.id + 1) xs i e k.1 h in omega arith

first-is : (x e : SlotState) (xs : List SlotState) (id : ℕ) → slice_get (x ∷ xs) 0 ≡ Some e → e.id ≡ id → x.id ≡ id
first-is x e xs id h same = let at : x ≡ e = cc in ap (λ (t : SlotState). t.id) at ∙ same

pub first-other : (n : ℕ) (x e : SlotState) (xs : List SlotState) (i id : ℕ) → IsOrdered n (x ∷ xs) → slice_get (x ∷ xs) (suc i) ≡ Some e → e.id ≡ id → (x.id == id) ≡ false
first-other n x e xs i id k h same =
    let rest : x.id + 1 ≤ e.id = IsOrdered-at (x.id + 1) xs i e k.1 h in grind (arith, nat_tests)

-- the slot of a number is set at its place
with_slot-at : (id n : ℕ) (f : MachineState → MachineState) (slots : List SlotState) (i : ℕ) (e : SlotState) → IsOrdered n slots → slice_get slots i ≡ Some e → e.id ≡ id → with_slot id (Some (f e.state)) slots ≡ with_state_at i f slots
with_slot-at id n f [] i e k h same = cc
with_slot-at id n f (x ∷ xs) zero e k h same =
    let at : x ≡ e = cc in
    let number : x.id ≡ id = first-is x e xs id h same in
    rw (eq-eqb x.id id number)
    (ap (λ t. record { id = id; state = f e.state } ∷ t) (with_slot-below id (x.id + 1) (Some (f e.state)) xs k.1 (omega arith))
    ∙ ap (λ j. record { id = j; state = f e.state } ∷ xs) (sym number)
    ∙ ap (λ (t : SlotState). record { id = x.id; state = f t.state } ∷ xs) (sym at))
with_slot-at id n f (x ∷ xs) (suc i) e k h same =
    rw (first-other n x e xs i id k h same) (ap (λ t. x ∷ t) (with_slot-at id (x.id + 1) f xs i e k.1 h same))

serve-some : (system : Disk) (id : ℕ) (call : Call) (slots : List SlotState) (s : MachineState) → slot_at id slots ≡ Some s → serve_slot system (Calls call) (slot_at id slots) ≡ record { reply = reply_of (serve system call s).answer; slot = Some (serve system call s).state }
unfolding serve_slot
serve-some system id call slots s h = rw h refl

serve-none : (system : Disk) (id : ℕ) (ask : Ask) (slots : List SlotState) → slot_at id slots ≡ None → serve_slot system ask (slot_at id slots) ≡ record { reply = reply.Refused refusal.NoSuchSlot; slot = None }
unfolding serve_slot
serve-none system id ask slots h = rw h refl

-- what is asked of a slot that is not open
pub refused-reply : (system : Disk) (id : ℕ) (ask : Ask) (slots : List SlotState) → slot_at id slots ≡ None → reply.Refused refusal.NoSuchSlot ≡ (serve_slot system ask (slot_at id slots)).reply
refused-reply system id ask slots h = sym (ap (λ r. r.reply) (serve-none system id ask slots h))

pub refused-slots : (system : Disk) (id : ℕ) (ask : Ask) (slots : List SlotState) → slot_at id slots ≡ None → slots ≡ with_slot id (serve_slot system ask (slot_at id slots)).slot slots
refused-slots system id ask slots h = rw (serve-none system id ask slots h) (sym (with_slot-none id slots h))

-- a call to the slot at a place is one to the slot of its number
pub served-reply : (system : Disk) (id index : ℕ) (call : Call) (r : Reply) (old new : List SlotState) → IsAtIndex id old index → IsServed system call index r old new → r ≡ (serve_slot system (Calls call) (slot_at id old)).reply
served-reply system id index call r old new l k =
    let at : r ≡ reply_of (serve system call l.found.state).answer = rw l.at at k.replied in
    rw (serve-some system id call old l.found.state l.slot) at

pub served-slots : (system : Disk) (id index : ℕ) (call : Call) (r : Reply) (old new : List SlotState) → IsOrdered 0 old → IsAtIndex id old index → IsServed system call index r old new → new ≡ with_slot id (serve_slot system (Calls call) (slot_at id old)).slot old
served-slots system id index call r old new o l k =
    rw (serve-some system id call old l.found.state l.slot)
    (k.slots ∙ sym (with_slot-at id 0 (λ s. (serve system call s).state) old index l.found o l.at l.id_is))

-- calls that change nothing
with_state_at-same : (index : ℕ) (slots : List SlotState) → with_state_at index (λ s. s) slots ≡ slots
with_state_at-same index [] = refl
with_state_at-same zero (x ∷ xs) = refl
with_state_at-same (suc index) (x ∷ xs) = ap (λ t. x ∷ t) (with_state_at-same index xs)

IfSome-weaker : (o : Option SlotState) (P Q : SlotState → Type 0) → ((s : SlotState) → P s → Q s) → IfSome o P → IfSome o Q
IfSome-weaker None P Q f h = tt
IfSome-weaker (Some s) P Q f h = f s h

pub looked : (system : Disk) (index : ℕ) (look : Look) (slots : List SlotState) → IfSome (slice_get slots index) (λ x. look ≡ look_of x.state) → IsServed system LookAt index (reply.Looked look) slots slots
unfolding serve
looked system index look slots h = record {
  replied = IfSome-weaker (slice_get slots index) (λ x. look ≡ look_of x.state) _ (λ s k. ap (λ (l : Look). reply.Looked l) k) h;
  slots = sym (with_state_at-same index slots);
}

pub peeked : (system : Disk) (index address byte : ℕ) (slots : List SlotState) → IfSome (slice_get slots index) (λ x. byte ≡ byte_at x.state.memory address) → IsServed system (Peek address) index (reply.Peeked byte) slots slots
unfolding serve
peeked system index address byte slots h = record {
  replied = IfSome-weaker (slice_get slots index) (λ x. byte ≡ byte_at x.state.memory address) _ (λ s k. ap reply.Peeked k) h;
  slots = sym (with_state_at-same index slots);
}
