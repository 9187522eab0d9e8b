-- How a machine ended, and what a slot that is open replies of it.
use Rattle.std.proofs.Common.{◌≡◌, ◌∙◌, ℕ, List, Some, Ok, Err, ap, refl, subst}
use Rattle.std.specs.Prelude.{⊤}
use Rattle.cpm_memory.specs.Contents.{byte_at, run_at}
use Rattle.cpm_slots.specs.Host.{Host, peek_reply, reply_at, slot_at}
use Rattle.cpm_slots.specs.Serving.{Calls}
use Rattle.cpm_slots.specs.declared.event.Refusal.{Refusal}
use Rattle.cpm_slots.specs.declared.event.Reply.{Reply}
use Rattle.cpm_slots.specs.declared.event.Reply.TheVariants as reply
use Rattle.cpm_machine.specs.Calls.{Peek, serve}
use Rattle.cpm_machine.specs.MachineState.{MachineState}
use Rattle.cpm_machine.specs.Serve.{look_of}
use Rattle.cpm_machine.specs.declared.reply.Look.{Look}
use Rattle.cpm_play.specs.Playing.{EndsAs}
use Rattle.cpm_play.proofs.HostLemmas.{reply-served}
use Rattle.cpm_run.specs.Ending.{ending_of}

-- a state that ends as another has its ending
pub ending_same : (s t : MachineState) → EndsAs s t → ending_of t ≡ ending_of s
ending_same s t same = rw (same.ended, same.count, same.regs, same.memory) refl

-- ---- what a slot that is open replies

abbrev byte_in : Reply → ℕ
byte_in (reply.Peeked byte) = byte
byte_in _ = 0

abbrev IsRefused : Reply → Type 0
IsRefused (reply.Refused fault) = ⊤
IsRefused _ = ⊥

-- the ending of a state that is looked at, with the bytes at its program counter
pub ending_seen : (s : MachineState) (look : Look) (bytes : List ℕ) → look ≡ look_of s → bytes ≡ run_at s.memory look.regs.pc 4
    → record { ended = look.ended; count = look.count; pc = look.regs.pc; at_pc = bytes } ≡ ending_of s
unfolding look_of
ending_seen s look bytes is read = rw (read, is) refl

pub peeked_byte : (h : Host) (id address byte : ℕ) (s : MachineState) → peek_reply (Ok byte) ≡ reply_at h id (Calls (Peek address)) → slot_at id h.slots ≡ Some s → byte ≡ byte_at s.memory address
unfolding serve
peeked_byte h id address byte s replied at = ap byte_in (replied ∙ reply-served h id (Peek address) s at)

pub peeks : (h : Host) (id address : ℕ) (fault : Refusal) (s : MachineState) → peek_reply (Err fault) ≡ reply_at h id (Calls (Peek address)) → slot_at id h.slots ≡ Some s → ⊥
unfolding serve
peeks h id address fault s replied at = subst IsRefused (replied ∙ reply-served h id (Peek address) s at) tt
