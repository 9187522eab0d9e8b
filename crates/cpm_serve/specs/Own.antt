-- The requests of one slot, and a session that is served them by itself. All of it is own.
use Rattle.std.specs.Prelude.{ℕ, ◌&&◌, ◌==◌, Bool, false, List, [], ◌∷◌, ◌++◌, Option, Some, None, Result, Ok, Err, if◌then◌else◌}
use Rattle.cpm_geom.specs.Disk.{Disk}
use Rattle.cpm_machine.specs.MachineState.{MachineState}
use Rattle.cpm_slots.specs.Account.{slot_after}
use Rattle.cpm_slots.specs.Host.{Host}
use Rattle.cpm_slots.specs.Serving.{Ask}
use Rattle.serde_json.specs.Data.{Data}
use Rattle.cpm_protocol.specs.Replies.{Answered, Refused, reply_json}
use Rattle.cpm_protocol.specs.Requests.{AskedFault, AskedTag, WireAsked, Key, Grant, Take, ListTake, Look, Peek, Save, Close, Turn, request_asked}
use Rattle.cpm_protocol.specs.declared.word.WireRefusal.TheVariants as refusal
use Rattle.cpm_serve.specs.Lines.{WireEvent, event_reply, event_served, tag_shown}
use Rattle.cpm_serve.specs.Folder.{FolderAnswer}
use Rattle.cpm_serve.specs.Served.{takes_memory}
use Rattle.cpm_serve.specs.ServedWith.{answer_with, asks_with}
use Rattle.cpm_serve.specs.Slot.{slot_named}

-- ---- a slot's own requests

-- a request with its slot's number left out
abbrev pub unnumbered : WireAsked → WireAsked
unnumbered (Key slot keys) = Key 0 keys
unnumbered (Grant slot steps goal) = Grant 0 steps goal
unnumbered (Take slot most) = Take 0 most
unnumbered (ListTake slot most) = ListTake 0 most
unnumbered (Look slot) = Look 0
unnumbered (Peek slot address length) = Peek 0 address length
unnumbered (Save slot file) = Save 0 file
unnumbered (Close slot out) = Close 0 out
unnumbered (Turn slot keys steps) = Turn 0 keys steps
unnumbered r = r

-- what is asked of a slot on the wire, its tag, whether memory was refused to it, and what the folder answered to it
pub record OwnRequest : Type 0 where
  pub tag : Option AskedTag
  pub lacked : Bool
  pub answers : List FolderAnswer
  pub asked : WireAsked

-- whether a request asks the slot of a number
abbrev pub asks_slot : ℕ → Option ℕ → Bool
asks_slot id None = false
asks_slot id (Some slot) = slot == id

abbrev pub is_own : ℕ → Result WireAsked AskedFault → Bool
is_own id (Ok r) = asks_slot id (slot_named r)
is_own id (Err fault) = false

abbrev pub own_asked : WireEvent → Result WireAsked AskedFault → List OwnRequest
own_asked e (Ok r) = record { tag = tag_shown e.value; lacked = e.lacked; answers = e.answers; asked = unnumbered r } ∷ []
own_asked e (Err fault) = []

-- the requests that ask the slot of a number, in order
abbrev pub own_requests : ℕ → List WireEvent → List OwnRequest
own_requests id [] = []
own_requests id (e ∷ es) = (if is_own id (request_asked e.value) then own_asked e (request_asked e.value) else []) ++ own_requests id es

-- the replies to them, of those of all
abbrev pub own_replies : ℕ → Host → List WireEvent → List Data
own_replies id h [] = []
own_replies id h (e ∷ es) = (if is_own id (request_asked e.value) then event_reply h e ∷ [] else []) ++ own_replies id (event_served h e).host es

-- ---- a session by itself

abbrev pub asks_alone : List FolderAnswer → Disk → WireAsked → Option MachineState → List Ask
asks_alone answers system r None = []
asks_alone answers system r (Some s) = asks_with answers system r s

abbrev pub answer_alone : List FolderAnswer → Disk → WireAsked → Option MachineState → Answered
answer_alone answers system r None = Refused refusal.NoSuchSlot
answer_alone answers system r (Some s) = answer_with answers system r s

-- what it is asked, and the reply; nothing, where memory is refused
abbrev pub session_asks : Disk → OwnRequest → Option MachineState → List Ask
session_asks system x o = if x.lacked && takes_memory x.asked then [] else asks_alone x.answers system x.asked o

abbrev pub session_answer : Disk → OwnRequest → Option MachineState → Answered
session_answer system x o = if x.lacked && takes_memory x.asked then Refused refusal.OutOfMemory else answer_alone x.answers system x.asked o

-- the session after requests, if it is still open
abbrev pub session_after : Disk → List OwnRequest → Option MachineState → Option MachineState
session_after system [] o = o
session_after system (x ∷ xs) o = session_after system xs (slot_after system (session_asks system x o) o)

-- and its replies
abbrev pub session_replies : Disk → List OwnRequest → Option MachineState → List Data
session_replies system [] o = []
session_replies system (x ∷ xs) o = reply_json x.tag (session_answer system x o) ∷ session_replies system xs (slot_after system (session_asks system x o) o)
