-- What a host does for a request, and what is replied. All of it is own: docs/PROTOCOL.md.
use Rattle.std.specs.Prelude.{◌≡◌, ℕ, ◌&&◌, not, Bool, true, false, List, [], ◌∷◌, length, Option, Some, None, if◌then◌else◌}
use Rattle.cpm_flags.specs.declared.regs.Cpu.{Cpu}
use Rattle.cpm_geom.specs.Disk.{Disk}
use Rattle.cpm_machine.specs.MachineState.{MachineState, opened_machine}
use Rattle.cpm_machine.specs.declared.opening.OpenError.{OpenError}
use Rattle.cpm_slots.specs.Drives.{open_fault}
use Rattle.cpm_slots.specs.Host.{Host, after_ask, fork_fault, forked_if, slot_at, with_added}
use Rattle.cpm_slots.specs.Serving.{Ask}
use Rattle.cpm_slots.specs.declared.event.ForkError.{ForkError}
use Rattle.cpm_protocol.specs.Replies.{Answered, Opened, Refused}
use Rattle.cpm_protocol.specs.Requests.{WireAsked, Close, Fork, Grant, Look}
use Rattle.cpm_protocol.specs.declared.word.WireRefusal.{WireRefusal}
use Rattle.cpm_protocol.specs.declared.word.WireRefusal.TheVariants as refusal
use Rattle.cpm_serve.specs.Seen.{fork_refusal, open_refusal}
use Rattle.cpm_serve.specs.Slot.{asks_of, slot_answer, slot_named}

-- the host afterwards, and the reply
pub record Served : Type 0 where
  pub host : Host
  pub reply : Answered

abbrev pub refused : Host → WireRefusal → Served
refused h why = record { host = h; reply = Refused why }

-- ---- a slot

-- the host after these were asked of a slot, one after another
abbrev pub after_asks : ℕ → List Ask → Host → Host
after_asks id [] h = h
after_asks id (ask ∷ asks) h = after_asks id asks (after_ask h id ask)

-- a slot that is not open refuses all
abbrev pub slot_served : Host → ℕ → WireAsked → Option MachineState → Served
slot_served h id r None = refused h refusal.NoSuchSlot
slot_served h id r (Some s) = record { host = after_asks id (asks_of h.system r s) h; reply = slot_answer h.system r s }

abbrev pub asked_slot : Host → ℕ → WireAsked → Served
asked_slot h id r = slot_served h id r (slot_at id h.slots)

-- ---- openings and forks

-- the host with a slot more, and its number; or the refusal
abbrev pub added_if : Option OpenError → Host → MachineState → Served
added_if None h s = record { host = with_added h s; reply = Opened h.openings }
added_if (Some fault) h s = refused h (open_refusal fault)

abbrev pub opened_with_disks : Host → Cpu → ℕ → List Disk → Served
opened_with_disks h cpu quota disks = added_if (open_fault h quota (length disks)) h (opened_machine cpu quota disks)

abbrev pub forked_answer : Host → Option ForkError → Answered
forked_answer h None = Opened h.openings
forked_answer h (Some fault) = Refused (fork_refusal fault)

abbrev pub forked_from : Host → ℕ → Served
forked_from h id =
    let fault = fork_fault h (slot_at id h.slots) in
    record { host = forked_if fault h id; reply = forked_answer h fault }

-- ---- the table

-- A request that needs no file. (`served_with` has the others.)
abbrev pub served_else : Host → WireAsked → Option ℕ → Served
served_else h r (Some slot) = asked_slot h slot r
served_else h r None = refused h refusal.FileFault

abbrev pub served : Host → WireAsked → Served
served h (Fork slot) = forked_from h slot
served h r = served_else h r (slot_named r)

-- no name for a drive
abbrev pub is_no_name : Option (List ℕ) → Bool
is_no_name None = true
is_no_name (Some name) = false

-- which requests take memory of their own
abbrev pub takes_memory : WireAsked → Bool
takes_memory (Grant slot steps goal) = false
takes_memory (Look slot) = false
takes_memory (Close slot out) = not (is_no_name out.a)
takes_memory _ = true

-- one to which memory is refused, if it takes any, changes nothing
abbrev pub served_if : (lacked : Bool) → Host → WireAsked → Served
served_if lacked h r = if lacked && takes_memory r then refused h refusal.OutOfMemory else served h r

abbrev pub outcome : Host → Answered → Served
outcome h reply = record { host = h; reply = reply }

-- a host served a request that needs no file, and this is the reply
pub record IsRequestServed (r : WireAsked) (old new : Host) (reply : Answered) : Type 0 where
  -- memory was refused
  pub lacked : Bool
  pub served : outcome new reply ≡ served_if lacked old r

-- an opening for which the memory of its drives was there
pub record IsSessionOpened (cpu : Cpu) (quota : ℕ) (disks : List Disk) (old new : Host) (reply : Answered) : Type 0 where
  pub lacked : Bool
  pub served : outcome new reply ≡ (if lacked then refused old refusal.OutOfMemory else opened_with_disks old cpu quota disks)
