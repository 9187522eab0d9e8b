-- The calls to a machine with a system drive, what they are answered, and what they leave.
use Rattle.std.specs.Prelude.{ℕ, ◌+◌, List, [], ◌∷◌, ◌++◌, length, take, min, Bool, true, false}
use Rattle.cpm_geom.specs.Disk.{Disk}
use Rattle.cpm_memory.specs.Contents.{byte_at}
use Rattle.cpm_bdos.specs.Behind.{session_behind}
use Rattle.cpm_machine.specs.declared.reply.Granted.{Granted}
use Rattle.cpm_machine.specs.declared.reply.Look.{Look}
use Rattle.cpm_machine.specs.MachineState.{MachineState}
use Rattle.cpm_machine.specs.Step.{after}
use Rattle.cpm_machine.specs.Serve.{executed, why, look_of, taken, taken_list, takes_key, keyed}
use Rattle.cpm_machine.specs.Alone.{Press}
use Rattle.cpm_machine.specs.Until.{executed_until, granted_until}

-- a call: a key pressed, steps granted, steps granted up to an address, bytes taken into so much room, a look, a byte of the memory
pub data Call : Type 0 where
  Key : (key : ℕ) → Call
  Grant : (steps : ℕ) → Call
  GrantUntil : (steps pc : ℕ) → Call
  Take : (room : ℕ) → Call
  TakeList : (room : ℕ) → Call
  LookAt : Call
  Peek : (address : ℕ) → Call

pub data CallAnswer : Type 0 where
  Accepted : CallAnswer
  KeysFull : CallAnswer
  Grants : (granted : Granted) → CallAnswer
  Bytes : (bytes : List ℕ) → CallAnswer
  Looked : (look : Look) → CallAnswer
  Peeked : (byte : ℕ) → CallAnswer

pub record ServedCall : Type 0 where
  pub answer : CallAnswer
  pub state : MachineState

abbrev pub granted : Disk → ℕ → MachineState → Granted
granted system n s = let k = executed system n s in record { executed = k; why = why n k (after system k s) }

-- a key is accepted, or refused with nothing changed
abbrev pub served_key : Bool → ℕ → MachineState → ServedCall
served_key true key s = record { answer = Accepted; state = keyed key s }
served_key false key s = record { answer = KeysFull; state = s }

-- what a call is answered, and the state after it
unfoldable pub serve : Disk → Call → MachineState → ServedCall
serve system (Key key) s = served_key (takes_key s) key s
serve system (Grant steps) s = record { answer = Grants (granted system steps s); state = after system (executed system steps s) s }
serve system (GrantUntil steps pc) s = record { answer = Grants (granted_until system pc steps s); state = after system (executed_until system pc steps s) s }
serve system (Take room) s = record { answer = Bytes (take (min room (length s.session.console.screen)) s.session.console.screen); state = taken room s }
serve system (TakeList room) s =
    record { answer = Bytes (take (min room (length s.session.console.printer)) s.session.console.printer); state = taken_list room s }
serve system LookAt s = record { answer = Looked (look_of s); state = s }
serve system (Peek address) s = record { answer = Peeked (byte_at s.memory address); state = s }

-- the keys accepted, each with the number of steps executed before it, the steps executed, and the console and list bytes taken
pub record Account : Type 0 where
  pub presses : List Press
  pub executed : ℕ
  pub screen : List ℕ
  pub printer : List ℕ

abbrev pub no_account : Account
no_account = record { presses = []; executed = 0; screen = []; printer = [] }

-- an account goes on by the answers alone
abbrev pub entered : Account → Call → CallAnswer → Account
entered a (Key key) Accepted = record a { presses = a.presses ++ record { after = a.executed; key = key } ∷ [] }
entered a (Grant steps) (Grants granted) = record a { executed = a.executed + granted.executed }
entered a (GrantUntil steps pc) (Grants granted) = record a { executed = a.executed + granted.executed }
entered a (Take room) (Bytes bytes) = record a { screen = a.screen ++ bytes }
entered a (TakeList room) (Bytes bytes) = record a { printer = a.printer ++ bytes }
entered a _ _ = a

-- the state, and the account, after some calls
abbrev pub state_after : Disk → List Call → MachineState → MachineState
state_after system [] s = s
state_after system (call ∷ calls) s = state_after system calls (serve system call s).state

abbrev pub account_after : Disk → List Call → Account → MachineState → Account
account_after system [] a s = a
account_after system (call ∷ calls) a s = account_after system calls (entered a call (serve system call s).answer) (serve system call s).state

-- the state with the bytes that were taken put back in front
abbrev pub state_behind : List ℕ → List ℕ → MachineState → MachineState
state_behind p q s = record s { session = session_behind p q s.session }
