-- Scripted slots of a host: sessions in its slots that are played by their keys. All of it is own.
use Rattle.std.specs.Prelude.{⊤, ◌≡◌, ◌≢◌, ℕ, List, [], ◌∷◌, ◌++◌, length, take, min, Option, Some, None}
use Rattle.cpm_geom.specs.Disk.{Disk}
use Rattle.cpm_console.specs.declared.device.Device.{Device}
use Rattle.cpm_console.specs.declared.device.Device.TheVariants as device
use Rattle.cpm_console.specs.Terminal.{waiting_on}
use Rattle.cpm_script.specs.declared.script.Key.{Key}
use Rattle.cpm_slots.specs.Host.{Host, SlotState, slot_at, quotas_of, IsHost}
use Rattle.cpm_machine.specs.MachineState.{MachineState}
use Rattle.cpm_play.specs.declared.scripted_slot.ScriptedSlot.{ScriptedSlot}
use Rattle.cpm_play.specs.Pacing.{left_in, IsOn}
use Rattle.cpm_play.specs.Playing.{HaveRoom, IsInOrder, IsQuiet}

-- the keys that a scripted slot was given
abbrev pub script_keys : ScriptedSlot → List Key
script_keys p = p.keys.items

-- the steps that it is still to execute: those that it was given, before its first turn
abbrev pub steps_of : ScriptedSlot → ℕ
steps_of p = left_in p.pace

-- it has had no turn
pub record IsNew (p : ScriptedSlot) : Type 0 where
  pub console : p.console.items ≡ []
  pub list : p.list.items ≡ []
  pub pressed : p.pace.pressed ≡ 0
  pub done : p.pace.done ≡ 0

-- it has had no turn, its slot is open, in whatever state, and its keys are in order, and find room where they come
pub record IsReady (system : Disk) (slots : List SlotState) (p : ScriptedSlot) : Type 0 where
  pub unplayed : IsNew p
  pub order : IsInOrder 0 (script_keys p)
  pub start : MachineState
  pub opened : slot_at p.id.0 slots ≡ Some start
  pub room : HaveRoom system start (script_keys p)

-- the number is none of these
abbrev pub IsNone : ℕ → List ℕ → Type 0
IsNone id [] = ⊤
IsNone id (x ∷ xs) = (x ≢ id) × IsNone id xs

abbrev pub AreDifferent : List ℕ → Type 0
AreDifferent [] = ⊤
AreDifferent (x ∷ xs) = IsNone x xs × AreDifferent xs

-- nothing of the host is changed but the slots of these numbers
pub record LeavesOthers (ids : List ℕ) (old new : Host) : Type 0 where
  pub system : new.system ≡ old.system
  pub frames : new.frames ≡ old.frames
  pub openings : new.openings ≡ old.openings
  pub others : (id : ℕ) → IsNone id ids → slot_at id new.slots ≡ slot_at id old.slots

-- ---- on the way

-- so many of the bytes that wait were taken into some room
pub record AreTaken (n room : ℕ) (out waiting : List ℕ) : Type 0 where
  pub bytes : take n out ≡ take (min room (length waiting)) waiting
  pub count : n ≡ min room (length waiting)

-- the bytes that wait on a device of a slot
abbrev pub waits_in : Device → Option MachineState → List ℕ
waits_in on None = []
waits_in on (Some s) = waiting_on on s.session.console

-- what was shown on the console, and on the list device, with more bytes of a device
abbrev pub console_with : Device → List ℕ → List ℕ → List ℕ
console_with device.Console bytes shown = shown ++ bytes
console_with device.List bytes shown = shown

abbrev pub list_with : Device → List ℕ → List ℕ → List ℕ
list_with device.Console bytes shown = shown
list_with device.List bytes shown = shown ++ bytes

-- a scripted slot `p` got more bytes of a device
pub record HasAdded (on : Device) (bytes : List ℕ) (p q : ScriptedSlot) : Type 0 where
  pub same : q ≡ record p { console = q.console; list = q.list }
  pub console : q.console.items ≡ console_with on bytes p.console.items
  pub list : q.list.items ≡ list_with on bytes p.list.items

-- a slot went from a start so far
pub record IsPlaying (steps : ℕ) (start : MachineState) (p : ScriptedSlot) (h : Host) : Type 0 where
  pub now : MachineState
  pub stands : slot_at p.id.0 h.slots ≡ Some now
  pub room : HaveRoom h.system start (script_keys p)
  pub on : IsOn h.system (script_keys p) steps start p.pace p.console.items p.list.items now

-- and all its bytes are taken
pub record IsResting (steps : ℕ) (start : MachineState) (p : ScriptedSlot) (h : Host) : Type 0 where
  pub playing : IsPlaying steps start p h
  pub quiet : IsQuiet playing.now

-- an orderly host stays one, with as many slots, which have the same quotas in all
pub record StaysOrderly (old new : Host) : Type 0 where
  pub orderly : IsHost new
  pub count : length new.slots ≡ length old.slots
  pub quotas : quotas_of new.slots ≡ quotas_of old.slots

-- a scripted slot and its host, before and after a part of a turn: the scripted slot keeps its slot and its keys, and the other slots stay
pub record Moves (p q : ScriptedSlot) (old new : Host) : Type 0 where
  pub id : q.id ≡ p.id
  pub keys : script_keys q ≡ script_keys p
  pub others : LeavesOthers (p.id.0 ∷ []) old new
  pub orderly : IsHost old → StaysOrderly old new
