-- What a slot of a host replies to what is asked of it. A slot is a machine that may be open; it is served by its own state and the system drive alone. (own)
use Rattle.std.specs.Prelude.{ℕ, Option, Some, None}
use Rattle.cpm_geom.specs.Disk.{Disk}
use Rattle.cpm_console.specs.declared.device.Device.{Device}
use Rattle.cpm_console.specs.declared.device.Device.TheVariants as device
use Rattle.cpm_machine.specs.declared.reply.Why.{Why}
use Rattle.cpm_machine.specs.declared.reply.Why.TheVariants.{All}
use Rattle.cpm_machine.specs.MachineState.{MachineState}
use Rattle.cpm_machine.specs.Serve.{executed, why}
use Rattle.cpm_machine.specs.Until.{executed_until, why_until}
use Rattle.cpm_machine.specs.Calls.{Call, Key, Grant, GrantUntil, Take, TakeList, LookAt, Peek}
use Rattle.cpm_machine.specs.Calls.{CallAnswer, Accepted, KeysFull, Grants, Bytes, Looked, Peeked, serve}
use Rattle.cpm_slots.specs.declared.event.Request.{Request}
use Rattle.cpm_slots.specs.declared.event.Request.TheVariants as asks
use Rattle.cpm_slots.specs.declared.event.Reply.{Reply}
use Rattle.cpm_slots.specs.declared.event.Reply.TheVariants as reply
use Rattle.cpm_slots.specs.declared.event.Refusal.TheVariants as refusal

-- what is asked of a slot: a call to its machine, or that it be closed (own)
pub data Ask : Type 0 where
  Calls : (call : Call) → Ask
  Closes : Ask

-- the call that takes the bytes of a device (own)
abbrev pub take_call : Device → ℕ → Call
take_call device.Console room = Take room
take_call device.List room = TakeList room

-- the call that grants steps, where there is a stop up to that address (own)
abbrev pub grant_call : Option ℕ → ℕ → Call
grant_call None steps = Grant steps
grant_call (Some pc) steps = GrantUntil steps pc

-- the reply to a grant of which all steps were executed (own)
abbrev pub all_granted : ℕ → Reply
all_granted steps = reply.Granted (record { executed = steps; why = All })

-- the steps that such a grant executes, and why it ends (own)
abbrev pub executed_to : Disk → Option ℕ → ℕ → MachineState → ℕ
executed_to system None steps s = executed system steps s
executed_to system (Some pc) steps s = executed_until system pc steps s

abbrev pub why_to : Option ℕ → ℕ → ℕ → MachineState → Why
why_to None steps k s = why steps k s
why_to (Some pc) steps k s = why_until pc steps k s

-- a request of a list, which takes up to 128 bytes (own)
abbrev pub ask_of : Request → Ask
ask_of (asks.Key key) = Calls (Key key)
ask_of (asks.Grant steps) = Calls (Grant steps)
ask_of (asks.GrantUntil steps pc) = Calls (GrantUntil steps pc)
ask_of asks.Take = Calls (Take 128)
ask_of asks.TakeList = Calls (TakeList 128)
ask_of asks.Look = Calls LookAt
ask_of (asks.Peek address) = Calls (Peek address)
ask_of asks.Close = Closes

-- the machine's answer as a reply (own)
abbrev pub reply_of : CallAnswer → Reply
reply_of Accepted = reply.Done
reply_of KeysFull = reply.Refused refusal.KeysFull
reply_of (Grants granted) = reply.Granted granted
reply_of (Bytes bytes) = reply.Bytes (record { items = bytes })
reply_of (Looked look) = reply.Looked look
reply_of (Peeked byte) = reply.Peeked byte

-- the reply, and the slot after it, if it is still open (own)
pub record ServedSlot : Type 0 where
  pub reply : Reply
  pub slot : Option MachineState

-- an open slot is served as its machine alone; closing it drops what was not taken (own)
abbrev pub serve_open : Disk → Ask → MachineState → ServedSlot
serve_open system (Calls call) s = record { reply = reply_of (serve system call s).answer; slot = Some (serve system call s).state }
serve_open system Closes s = record { reply = reply.Done; slot = None }

-- a slot that is not open refuses all that is asked of it (own)
unfoldable pub serve_slot : Disk → Ask → Option MachineState → ServedSlot
serve_slot system ask None = record { reply = reply.Refused refusal.NoSuchSlot; slot = None }
serve_slot system ask (Some s) = serve_open system ask s
