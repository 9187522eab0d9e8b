-- Sessions played by their keys: what each shows and leaves, whatever its turns are. All of it is own.
use Rattle.std.specs.Prelude.{⊤, ◌≡◌, ◌≢◌, ℕ, ◌<◌, ◌≤◌, nat_lt, Bool, true, ◌&&◌, if◌then◌else◌, List, [], ◌∷◌, ◌++◌, map}
use Rattle.cpm_geom.specs.Disk.{Disk}
use Rattle.cpm_script.specs.declared.script.Key.{Key}
use Rattle.cpm_machine.specs.Alone.{Press, alone}
use Rattle.cpm_machine.specs.MachineState.{MachineState}
use Rattle.cpm_machine.specs.Serve.{look_of, takes_key}
use Rattle.cpm_machine.specs.Step.{is_running}

-- the keys of a script, each with the number of steps executed before it
abbrev pub presses_of : List Key → List Press
presses_of keys = map (λ k. record { after = k.count; key = k.byte }) keys

-- the counts are at least this one, and do not fall
abbrev pub IsInOrder : ℕ → List Key → Type 0
IsInOrder n [] = ⊤
IsInOrder n (k ∷ ks) = (n ≤ k.count) × IsInOrder k.count ks

-- the machine run alone for these keys and so many steps
abbrev pub alone_by : Disk → List Key → ℕ → MachineState → MachineState
alone_by system keys steps start = alone system (presses_of keys) steps start

-- after so many steps it waits for a key, it runs, and it has shown and printed this
abbrev pub waits_at : Disk → MachineState → List Key → ℕ → Bool
waits_at system start keys n = (look_of (alone_by system keys n start)).waiting

abbrev pub runs_at : Disk → MachineState → List Key → ℕ → Bool
runs_at system start keys n = is_running (alone_by system keys n start).ended

abbrev pub screen_at : Disk → MachineState → List Key → ℕ → List ℕ
screen_at system start keys n = (alone_by system keys n start).session.console.screen

abbrev pub printer_at : Disk → MachineState → List Key → ℕ → List ℕ
printer_at system start keys n = (alone_by system keys n start).session.console.printer

-- each of these keys finds room where it comes, after those before it: the machine run alone by these takes it there
abbrev pub HaveRoomAfter : Disk → MachineState → (given keys : List Key) → Type 0
HaveRoomAfter system start given [] = ⊤
HaveRoomAfter system start given (k ∷ keys) =
    (takes_key (alone_by system given k.count start) ≡ true) × HaveRoomAfter system start (given ++ k ∷ []) keys

abbrev pub HaveRoom : Disk → MachineState → List Key → Type 0
HaveRoom system start keys = HaveRoomAfter system start [] keys

-- the count of the last key, or this one where there is none
abbrev pub last_count : ℕ → List Key → ℕ
last_count n [] = n
last_count n (k ∷ ks) = last_count k.count ks

-- the state with its console bytes taken, and with its list bytes taken
abbrev pub without_text : MachineState → MachineState
without_text s = record s { session = record s.session { console = record s.session.console { screen = [] } } }

abbrev pub without_list : MachineState → MachineState
without_list s = record s { session = record s.session { console = record s.session.console { printer = [] } } }

-- the machine run alone by these keys for so many steps, whose output was all taken
abbrev pub state_left : Disk → List Key → ℕ → MachineState → MachineState
state_left system keys steps start = without_list (without_text (alone_by system keys steps start))

-- of these keys those that come, behind the given ones: each before the steps are over, while the machine runs alone by those before it. The first that
-- doesn't is the end of them
abbrev pub coming_after : Disk → MachineState → (steps : ℕ) → (given keys : List Key) → List Key
coming_after system start steps given [] = []
coming_after system start steps given (k ∷ keys) =
    if nat_lt k.count steps && runs_at system start given k.count then k ∷ coming_after system start steps (given ++ k ∷ []) keys else []

abbrev pub coming_keys : Disk → MachineState → (steps : ℕ) → List Key → List Key
coming_keys system start steps keys = coming_after system start steps [] keys

-- A session was played: it has shown what the machine run alone for its keys and steps shows, and has come to its end, count, registers,
-- memory and drives, whatever the turns were. Its whole state is that which the keys leave that come, with all of its output taken.
pub record IsPlayed (system : Disk) (keys : List Key) (steps : ℕ) (start now : MachineState) (console list : List ℕ) : Type 0 where
  pub screen : console ≡ (alone system (presses_of keys) steps start).session.console.screen
  pub printer : list ≡ (alone system (presses_of keys) steps start).session.console.printer
  pub count : now.count ≡ (alone system (presses_of keys) steps start).count
  pub ended : now.ended ≡ (alone system (presses_of keys) steps start).ended
  pub regs : now.session.regs ≡ (alone system (presses_of keys) steps start).session.regs
  pub memory : now.memory ≡ (alone system (presses_of keys) steps start).memory
  pub disks : now.session.disks ≡ (alone system (presses_of keys) steps start).session.disks
  pub state : now ≡ state_left system (coming_keys system start steps keys) steps start

-- the end, count, registers, memory and drives of another state
pub record EndsAs (other now : MachineState) : Type 0 where
  pub count : now.count ≡ other.count
  pub ended : now.ended ≡ other.ended
  pub regs : now.session.regs ≡ other.session.regs
  pub memory : now.memory ≡ other.memory
  pub disks : now.session.disks ≡ other.session.disks

-- no key is pending, and no byte waits to be taken
pub record IsFresh (s : MachineState) : Type 0 where
  pub keys : s.session.console.keys ≡ []
  pub screen : s.session.console.screen ≡ []
  pub printer : s.session.console.printer ≡ []

-- no byte waits to be taken
pub record IsQuiet (s : MachineState) : Type 0 where
  pub screen : s.session.console.screen ≡ []
  pub printer : s.session.console.printer ≡ []

-- the machine run alone shows some text
abbrev pub HasText : MachineState → Type 0
HasText s = s.session.console.screen ≢ []

-- or has bytes for its list device
abbrev pub HasList : MachineState → Type 0
HasList s = s.session.console.printer ≢ []
