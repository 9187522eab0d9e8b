-- What is asked of a slot of a host, where it is open and where it is not.
use Rattle.std.proofs.Common.{◌≡◌, ℕ, Some, None, refl, sym, ap, ◌∙◌}
use Rattle.std.specs.Prelude.{Result, Ok, Err}
use Rattle.cpm_machine.specs.declared.reply.Granted.{Granted}
use Rattle.cpm_machine.specs.declared.reply.Look.{Look}
use Rattle.cpm_machine.specs.MachineState.{MachineState}
use Rattle.cpm_machine.specs.Calls.{Call, serve}
use Rattle.cpm_machine.specs.ToWait.{executed_to_wait}
use Rattle.cpm_slots.specs.declared.event.Refusal.{Refusal}
use Rattle.cpm_slots.specs.declared.event.Refusal.TheVariants as refusal
use Rattle.cpm_slots.specs.declared.event.Reply.TheVariants as reply
use Rattle.cpm_slots.specs.Host.{Host, after_ask, grant_reply, look_reply, reply_at, slot_at, work_reply}
use Rattle.cpm_slots.specs.Serving.{Ask, Calls, reply_of, serve_slot}
use Rattle.cpm_slots.proofs.IndexLaws.{refused-slots}
use Rattle.cpm_slots.proofs.SlotLaws.{slot_at-same}

-- ---- a slot that is not open

pub closed-reply : (h : Host) (id : ℕ) (ask : Ask) → slot_at id h.slots ≡ None → reply_at h id ask ≡ reply.Refused refusal.NoSuchSlot
unfolding serve_slot
closed-reply h id ask none = ap (λ o. (serve_slot h.system ask o).reply) none

pub closed-host : (h : Host) (id : ℕ) (ask : Ask) → slot_at id h.slots ≡ None → after_ask h id ask ≡ h
closed-host h id ask none = ap (λ slots. let g : Host = record h { slots = slots } in g) (sym (refused-slots h.system id ask h.slots none))

-- ---- one that is

pub open-reply : (h : Host) (id : ℕ) (call : Call) (s : MachineState) → slot_at id h.slots ≡ Some s → reply_at h id (Calls call) ≡ reply_of (serve h.system call s).answer
unfolding serve_slot
open-reply h id call s at = ap (λ o. (serve_slot h.system (Calls call) o).reply) at

pub open-slot : (h : Host) (id : ℕ) (call : Call) (s : MachineState) → slot_at id h.slots ≡ Some s → slot_at id (after_ask h id (Calls call)).slots ≡ Some (serve h.system call s).state
unfolding serve_slot
open-slot h id call s at = slot_at-same id (Calls call) h.system h.slots (slot_at id h.slots) refl ∙ ap (λ o. (serve_slot h.system (Calls call) o).slot) at

-- ---- single calls, by their replies

pub grant-known : (r : Result Granted Refusal) (g : Granted) → grant_reply r ≡ reply.Granted g → r ≡ Ok g
grant-known (Ok x) g e = cc
grant-known (Err fault) g e = cc

pub grant-unknown : (r : Result Granted Refusal) → grant_reply r ≡ reply.Refused refusal.NoSuchSlot → r ≡ Err refusal.NoSuchSlot
grant-unknown (Ok x) e = cc
grant-unknown (Err fault) e = cc

pub look-known : (r : Result Look Refusal) (look : Look) → look_reply r ≡ reply.Looked look → r ≡ Ok look
look-known (Ok x) look e = cc
look-known (Err fault) look e = cc

pub look-unknown : (r : Result Look Refusal) → look_reply r ≡ reply.Refused refusal.NoSuchSlot → r ≡ Err refusal.NoSuchSlot
look-unknown (Ok x) e = cc
look-unknown (Err fault) e = cc

pub work-known : (r : Result ℕ Refusal) (h : Host) (id steps : ℕ) (s : MachineState) → slot_at id h.slots ≡ Some s → r ≡ work_reply h.system steps (slot_at id h.slots) → r ≡ Ok (executed_to_wait h.system steps s)
work-known r h id steps s at e = e ∙ ap (work_reply h.system steps) at
