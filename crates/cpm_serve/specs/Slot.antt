-- What a request that names a slot asks of it, and its reply. Both follow from the request, the slot's state and the system drive.
-- All of it is own: docs/PROTOCOL.md.
use Rattle.std.specs.Prelude.{ℕ, ◌-◌, ◌==◌, not, min, List, [], ◌∷◌, ◌++◌, length, map, take, Option, Some, None, Result, Ok, Err}
use Rattle.std.specs.Prelude.{if◌then◌else◌}
use Rattle.cpm_console.specs.Terminal.{most_pending}
use Rattle.cpm_console.specs.declared.device.Device.{Device}
use Rattle.cpm_console.specs.declared.device.Device.TheVariants as device
use Rattle.cpm_geom.specs.Disk.{Disk}
use Rattle.cpm_memory.specs.Contents.{run_at}
use Rattle.cpm_machine.specs.Calls.{Key as KeyCall, Grant as GrantCall, GrantUntil, Take as TakeCall, TakeList, granted, state_after}
use Rattle.cpm_machine.specs.MachineState.{MachineState}
use Rattle.cpm_machine.specs.Serve.{look_of, taken, taken_list}
use Rattle.cpm_machine.specs.Step.{after, is_running}
use Rattle.cpm_machine.specs.ToWait.{executed_to_wait}
use Rattle.cpm_machine.specs.Until.{granted_until}
use Rattle.cpm_machine.specs.declared.reply.Look.{Look as SessionSeen}
use Rattle.cpm_slots.specs.Serving.{Ask, Calls}
use Rattle.cpm_slots.specs.declared.event.Refusal.{Refusal}
use Rattle.cpm_slots.specs.declared.event.Refusal.TheVariants as slots
use Rattle.cpm_protocol.specs.Replies.{Answered, Accepted, Granted, Looked, Refused, Text, Turned}
use Rattle.cpm_protocol.specs.Requests.{WireAsked, Key, Grant, Take, ListTake, Look, Peek, Save, Close, Turn}
use Rattle.cpm_protocol.specs.declared.request.GrantGoal.{GrantGoal}
use Rattle.cpm_protocol.specs.declared.request.GrantGoal.TheVariants as goal
use Rattle.cpm_protocol.specs.declared.word.GrantStop.{GrantStop}
use Rattle.cpm_protocol.specs.declared.word.GrantStop.TheVariants as stop
use Rattle.cpm_protocol.specs.declared.word.WireRefusal.TheVariants as refusal
use Rattle.cpm_serve.specs.Seen.{end_seen, grant_answer, look_seen}

-- ---- parts of replies

-- how many of these keys find room, from the first on: 4,096 may be pending
abbrev pub accepted_of : List ℕ → MachineState → ℕ
accepted_of keys s = min (length keys) (most_pending - length s.session.console.keys)

-- and of a slot that is not open
abbrev pub accepted_in : List ℕ → Option MachineState → ℕ
accepted_in keys None = 0
accepted_in keys (Some s) = accepted_of keys s

abbrev pub key_asks : List ℕ → List Ask
key_asks keys = map (λ key. Calls (KeyCall key)) keys

-- why a grant of n steps to a wait ended after k of them, by what is seen afterwards: the first reason that fits
abbrev pub wait_stop : (n k : ℕ) → SessionSeen → GrantStop
wait_stop n k seen = if k == n then stop.All else if not (is_running seen.ended) then stop.Stopped else if seen.waiting then stop.Waiting else stop.Blocked

-- what a grant to a wait executes, and why no more
abbrev pub granted_to_wait : Disk → (steps : ℕ) → MachineState → ℕ × GrantStop
granted_to_wait system steps s = let k = executed_to_wait system steps s in (k, wait_stop steps k (look_of (after system k s)))

-- and of a slot that may be open
abbrev pub wait_result : Disk → (steps : ℕ) → Option MachineState → Result (ℕ × GrantStop) Refusal
wait_result system steps None = Err slots.NoSuchSlot
wait_result system steps (Some s) = Ok (granted_to_wait system steps s)

abbrev pub wait_answer : Result (ℕ × GrantStop) Refusal → Answered
wait_answer (Ok r) = Granted r.0 r.1
wait_answer (Err fault) = Refused refusal.NoSuchSlot

abbrev pub granted_to : Disk → (steps : ℕ) → GrantGoal → MachineState → Answered
granted_to system steps goal.Steps s = grant_answer (granted system steps s)
granted_to system steps (goal.Address pc) s = grant_answer (granted_until system pc steps s)
granted_to system steps goal.Wait s = wait_answer (Ok (granted_to_wait system steps s))

abbrev pub grant_calls : Disk → (steps : ℕ) → GrantGoal → MachineState → List Ask
grant_calls system steps goal.Steps s = Calls (GrantCall steps) ∷ []
grant_calls system steps (goal.Address pc) s = Calls (GrantUntil steps pc) ∷ []
grant_calls system steps goal.Wait s = Calls (GrantCall (executed_to_wait system steps s)) ∷ []

-- the most bytes that a turn gives of each device
abbrev pub turn_bytes : ℕ
turn_bytes = 8192

-- the state after keys were offered, one after another
abbrev pub keys_offered : Disk → List ℕ → MachineState → MachineState
keys_offered system keys s = state_after system (map KeyCall keys) s

-- and after a grant to a wait behind them
abbrev pub turn_granted : Disk → List ℕ → (steps : ℕ) → MachineState → ℕ × GrantStop
turn_granted system keys steps s = granted_to_wait system steps (keys_offered system keys s)

abbrev pub turn_left : Disk → List ℕ → (steps : ℕ) → MachineState → MachineState
turn_left system keys steps s = after system (turn_granted system keys steps s).0 (keys_offered system keys s)

-- what is seen of a state once so many bytes of each device were taken
abbrev pub seen_behind : MachineState → SessionSeen
seen_behind s = look_of (taken_list turn_bytes (taken turn_bytes s))

-- What becomes of a turn: the replies to `key`, to `grant` with a wait, to `take` and to `list`, and two members of that to `look`, one after another.
abbrev pub turn_answer : Disk → List ℕ → (steps : ℕ) → MachineState → Answered
turn_answer system keys steps s =
    let left = turn_left system keys steps s in
    Turned (record {
      accepted = accepted_of keys s;
      executed = (turn_granted system keys steps s).0;
      why = (turn_granted system keys steps s).1;
      text = take turn_bytes left.session.console.screen;
      list = take turn_bytes left.session.console.printer;
      waiting = (seen_behind left).waiting;
      end = end_seen (seen_behind left).ended;
    })

abbrev pub turn_asks : Disk → List ℕ → (steps : ℕ) → MachineState → List Ask
turn_asks system keys steps s =
    key_asks keys ++ Calls (GrantCall (turn_granted system keys steps s).0) ∷ Calls (TakeCall turn_bytes) ∷ Calls (TakeList turn_bytes) ∷ []

abbrev pub look_answer : MachineState → Answered
look_answer s = Looked (look_seen s.cpu (look_of s))

-- ---- the tables

-- the slot that a request names and asks, if it does. A fork names one too, but asks its host.
abbrev pub slot_named : WireAsked → Option ℕ
slot_named (Key slot keys) = Some slot
slot_named (Grant slot steps goal) = Some slot
slot_named (Take slot most) = Some slot
slot_named (ListTake slot most) = Some slot
slot_named (Look slot) = Some slot
slot_named (Peek slot address length) = Some slot
slot_named (Save slot file) = Some slot
slot_named (Close slot out) = Some slot
slot_named (Turn slot keys steps) = Some slot
slot_named _ = None

-- What is asked of a slot that is open, by a request that needs no file. A look and bytes of the memory change nothing.
abbrev pub asks_of : Disk → WireAsked → MachineState → List Ask
asks_of system (Key slot keys) s = key_asks keys
asks_of system (Grant slot steps goal) s = grant_calls system steps goal s
asks_of system (Take slot most) s = Calls (TakeCall most) ∷ []
asks_of system (ListTake slot most) s = Calls (TakeList most) ∷ []
asks_of system (Turn slot keys steps) s = turn_asks system keys steps s
asks_of system _ s = []

-- And the reply. (`answer_with` has those that need a file.) Behind a memory's byte at FFFFh comes that at 0000h.
abbrev pub slot_answer : Disk → WireAsked → MachineState → Answered
slot_answer system (Key slot keys) s = Accepted (accepted_of keys s)
slot_answer system (Grant slot steps goal) s = granted_to system steps goal s
slot_answer system (Take slot most) s = Text (take most s.session.console.screen)
slot_answer system (ListTake slot most) s = Text (take most s.session.console.printer)
slot_answer system (Look slot) s = look_answer s
slot_answer system (Peek slot address length) s = Text (run_at s.memory address length)
slot_answer system (Turn slot keys steps) s = turn_answer system keys steps s
slot_answer system _ s = Refused refusal.FileFault

-- the request that takes the bytes of a device
abbrev pub device_asked : Device → (slot most : ℕ) → WireAsked
device_asked device.Console slot most = Take slot most
device_asked device.List slot most = ListTake slot most
