-- The account of a slot, by what was asked of it and what it replied. (own)
use Rattle.std.specs.Prelude.{◌≡◌, List, [], ◌∷◌, Option, IfSome}
use Rattle.cpm_geom.specs.Disk.{Disk}
use Rattle.cpm_machine.specs.MachineState.{MachineState}
use Rattle.cpm_machine.specs.Alone.{alone}
use Rattle.cpm_machine.specs.Calls.{CallAnswer, Accepted, KeysFull, Grants, Bytes, Looked, Peeked, Account, entered, state_behind}
use Rattle.cpm_slots.specs.declared.event.Reply.{Reply}
use Rattle.cpm_slots.specs.declared.event.Reply.TheVariants as reply
use Rattle.cpm_slots.specs.Serving.{Ask, Calls, Closes, serve_slot}

-- a reply as the machine's answer; no refusal enters an account (own)
abbrev pub answer_of : Reply → CallAnswer
answer_of reply.Done = Accepted
answer_of (reply.Granted granted) = Grants granted
answer_of (reply.Bytes bytes) = Bytes bytes.items
answer_of (reply.Looked look) = Looked look
answer_of (reply.Peeked byte) = Peeked byte
answer_of (reply.Refused fault) = KeysFull

abbrev pub entered_by : Account → Ask → Reply → Account
entered_by a (Calls call) r = entered a call (answer_of r)
entered_by a Closes r = a

-- the keys that were accepted, each with the number of steps executed before it, the steps executed and the bytes taken, by the replies alone (own)
abbrev pub account_by : Account → List Ask → List Reply → Account
account_by a [] rs = a
account_by a (x ∷ xs) [] = a
account_by a (x ∷ xs) (r ∷ rs) = account_by (entered_by a x r) xs rs

-- a slot by itself, without a host: after what was asked of it (own)
abbrev pub slot_after : Disk → List Ask → Option MachineState → Option MachineState
slot_after system [] o = o
slot_after system (x ∷ xs) o = slot_after system xs (serve_slot system x o).slot

-- and what it replies (own)
abbrev pub replies_of : Disk → List Ask → Option MachineState → List Reply
replies_of system [] o = []
replies_of system (x ∷ xs) o = (serve_slot system x o).reply ∷ replies_of system xs (serve_slot system x o).slot

-- The slot, if it is still open, is the machine run alone from its start by the account of its replies: in registers, memory, drives, console and list bytes,
-- with those that were taken put back in front, and all else. (own)
abbrev pub IsRunAlone : Disk → MachineState → Account → Option MachineState → Type 0
IsRunAlone system start a now = IfSome now (λ s. state_behind a.screen a.printer s ≡ alone system a.presses a.executed start)
