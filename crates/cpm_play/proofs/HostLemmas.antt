-- A slot in its host: what is asked of it leaves the other slots.
use Rattle.std.proofs.Common.{◌≡◌, ℕ, suc, Option, Some, None, Ok, Err, List, [], ◌∷◌, length, refl, sym, ap, ◌∙◌, subst}
use Rattle.std.specs.Prelude.{⊤}
use Rattle.cpm_slots.specs.declared.event.Refusal.{Refusal}
use Rattle.cpm_slots.specs.declared.event.Reply.{Reply}
use Rattle.cpm_slots.specs.declared.event.Reply.TheVariants as reply
use Rattle.cpm_slots.specs.declared.event.SlotId.{SlotId}
use Rattle.cpm_geom.specs.Disk.{Disk}
use Rattle.cpm_slots.specs.Host.{Host, SlotState, slot_at, with_slot, after_ask, look_reply, reply_at, quotas_of, IsHost, IsOrdered}
use Rattle.cpm_slots.specs.Serving.{Calls, reply_of, serve_slot}
use Rattle.cpm_slots.proofs.EventLaws.{apart}
use Rattle.cpm_slots.proofs.OrderLaws.{IsHost-ask, quota-serve, quotas-set}
use Rattle.cpm_slots.proofs.SlotLaws.{slot_at-same, with_slot-none}
use Rattle.cpm_machine.specs.Calls.{Call, LookAt, serve}
use Rattle.cpm_machine.specs.MachineState.{MachineState}
use Rattle.cpm_machine.specs.Serve.{look_of}
use Rattle.cpm_machine.specs.declared.reply.Look.{Look}
use Rattle.cpm_play.specs.declared.scripted_slot.ScriptedSlot.{ScriptedSlot}
use Rattle.cpm_play.specs.ScriptedSlots.{script_keys, Moves, StaysOrderly}

-- ---- a call to an open slot

pub slot-served : (h : Host) (id : ℕ) (call : Call) (s : MachineState) → slot_at id h.slots ≡ Some s → slot_at id (after_ask h id (Calls call)).slots ≡ Some (serve h.system call s).state
unfolding serve_slot
slot-served h id call s at =
    slot_at-same id (Calls call) h.system h.slots (slot_at id h.slots) refl ∙ ap (λ o. (serve_slot h.system (Calls call) o).slot) at

pub reply-served : (h : Host) (id : ℕ) (call : Call) (s : MachineState) → slot_at id h.slots ≡ Some s → reply_at h id (Calls call) ≡ reply_of (serve h.system call s).answer
unfolding serve_slot
reply-served h id call s at = ap (λ o. (serve_slot h.system (Calls call) o).reply) at

-- what is seen of an open slot
abbrev look_in : Look → Reply → Look
look_in other (reply.Looked look) = look
look_in other _ = other

abbrev IsRefused : Reply → Type 0
IsRefused (reply.Refused fault) = ⊤
IsRefused _ = ⊥

pub looked : (h : Host) (id : ℕ) (look : Look) (s : MachineState) → look_reply (Ok look) ≡ reply_at h id (Calls LookAt) → slot_at id h.slots ≡ Some s → look ≡ look_of s
unfolding serve
looked h id look s replied at = ap (look_in look) (replied ∙ reply-served h id LookAt s at)

pub looks : (h : Host) (id : ℕ) (fault : Refusal) (s : MachineState) → look_reply (Err fault) ≡ reply_at h id (Calls LookAt) → slot_at id h.slots ≡ Some s → ⊥
unfolding serve
looks h id fault s replied at = subst IsRefused (replied ∙ reply-served h id LookAt s at) tt

-- how it ended
pub seen-ended : (h : Host) (id : ℕ) (look : Look) (s : MachineState) → look_reply (Ok look) ≡ reply_at h id (Calls LookAt) → slot_at id h.slots ≡ Some s → look.ended ≡ s.ended
unfolding look_of
seen-ended h id look s replied at = ap (λ (l : Look). l.ended) (looked h id look s replied at)

-- ---- how many slots there are, and their quotas

length-set : (id : ℕ) (s : MachineState) (xs : List SlotState) → length (with_slot id (Some s) xs) ≡ length xs
length-set id s [] = refl
length-set id s (x ∷ xs) = ap suc (length-set id s xs)

length-call : (system : Disk) (id : ℕ) (call : Call) (o : Option MachineState) (xs : List SlotState) → slot_at id xs ≡ o → length (with_slot id (serve_slot system (Calls call) o).slot xs) ≡ length xs
unfolding serve_slot
length-call system id call None xs at = ap length (with_slot-none id xs at)
length-call system id call (Some s) xs at = length-set id (serve system call s).state xs

quotas-call : (system : Disk) (id : ℕ) (call : Call) (o : Option MachineState) (xs : List SlotState) → IsOrdered 0 xs → slot_at id xs ≡ o →
    quotas_of (with_slot id (serve_slot system (Calls call) o).slot xs) ≡ quotas_of xs
unfolding serve_slot
quotas-call system id call None xs order at = ap quotas_of (with_slot-none id xs at)
quotas-call system id call (Some s) xs order at = quotas-set id 0 (serve system call s).state s xs order at (quota-serve system call s)

-- a call opens and closes none
orderly-call : (h : Host) (id : ℕ) (call : Call) → IsHost h → StaysOrderly h (after_ask h id (Calls call))
orderly-call h id call is = record {
  orderly = IsHost-ask h id (Calls call) is;
  count = length-call h.system id call (slot_at id h.slots) h.slots refl;
  quotas = quotas-call h.system id call (slot_at id h.slots) h.slots is.ordered refl;
}

orderly-on : (old middle new : Host) → (IsHost old → StaysOrderly old middle) → (IsHost middle → StaysOrderly middle new) → IsHost old → StaysOrderly old new
orderly-on old middle new a b is =
    let first = a is in
    let second = b first.orderly in
    record { orderly = second.orderly; count = second.count ∙ first.count; quotas = second.quotas ∙ first.quotas }

-- ---- who moves

-- a scripted slot that keeps its slot and its keys, and a call to its slot
pub moves-ask : (p q : ScriptedSlot) (old new : Host) (call : Call) → q.id ≡ p.id → script_keys q ≡ script_keys p → new ≡ after_ask old p.id.0 (Calls call) → Moves p q old new
moves-ask p q old new call id keys is = record {
  id = id;
  keys = keys;
  others = record {
    system = ap (λ (h : Host). h.system) is;
    frames = ap (λ (h : Host). h.frames) is;
    openings = ap (λ (h : Host). h.openings) is;
    others = λ other away. ap (λ (h : Host). slot_at other h.slots) is ∙ apart old p.id.0 other (Calls call) (λ same. away.0 (sym same));
  };
  orderly = λ host. subst (λ (h : Host). StaysOrderly old h) (sym is) (orderly-call old p.id.0 call host);
}

pub moves-on : (p q r : ScriptedSlot) (old middle new : Host) → Moves p q old middle → Moves q r middle new → Moves p r old new
moves-on p q r old middle new a b = record {
  id = b.id ∙ a.id;
  keys = b.keys ∙ a.keys;
  others = record {
    system = b.others.system ∙ a.others.system;
    frames = b.others.frames ∙ a.others.frames;
    openings = b.others.openings ∙ a.others.openings;
    others = λ other away. b.others.others other (λ same. away.0 (sym (ap (λ (x : SlotId). x.0) a.id) ∙ same), tt) ∙ a.others.others other away;
  };
  orderly = orderly-on old middle new a.orderly b.orderly;
}
