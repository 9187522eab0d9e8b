-- Players of a host: sessions that are played in turns, of which some are forked from others on the way. All of it is own.
use Rattle.std.specs.Prelude.{true, ⊤, ◌≡◌, ◌≢◌, ◌⊎◌, ℕ, ◌+◌, ◌<◌, ◌≤◌, List, [], ◌∷◌, ◌++◌, length, take, sum_by}
use Rattle.std.specs.Prelude.{Bool, false, ◌||◌, ◌==◌, nat_le, nat_lt, Option, Some, None, IfSome, slice_get}
use Rattle.std.specs.List.{list_any}
use Rattle.cpm_geom.specs.Disk.{Disk}
use Rattle.cpm_script.specs.declared.script.Key.{Key}
use Rattle.cpm_script.specs.Fork.{keys_before}
use Rattle.cpm_slots.specs.declared.event.ForkError.{ForkError}
use Rattle.cpm_slots.specs.declared.event.ForkError.TheVariants.{NoSlot, NoFrames, OutOfMemory as Wanting}
use Rattle.cpm_slots.specs.Host.{Host, SlotState, slot_at, quotas_of, fork_fault, with_forked, IsHost}
use Rattle.cpm_machine.specs.MachineState.{MachineState}
use Rattle.cpm_play.specs.declared.error.PlayError.{PlayError}
use Rattle.cpm_play.specs.declared.error.PlayError.TheVariants.{ForkRefused, OutOfMemory}
use Rattle.cpm_play.specs.declared.player.Fork.{Fork}
use Rattle.cpm_play.specs.declared.player.Player.{Player}
use Rattle.cpm_play.specs.declared.player.Player.TheVariants.{Playing, Waiting}
use Rattle.cpm_play.specs.declared.scripted_slot.ScriptedSlot.{ScriptedSlot}
use Rattle.cpm_play.specs.Pacing.{forked_pace}
use Rattle.cpm_play.specs.Playing.{HaveRoom, IsInOrder, IsPlayed}
use Rattle.cpm_play.specs.ScriptedSlots.{AreDifferent, IsNone, IsReady, IsResting, script_keys, steps_of}

-- ---- what is to be played

-- the keys that a player presses, and the steps that it executes in all
abbrev pub player_keys : Player → List Key
player_keys (Playing slot) = script_keys slot
player_keys (Waiting fork) = fork.keys.items

abbrev pub player_steps : Player → ℕ
player_steps (Playing slot) = steps_of slot
player_steps (Waiting fork) = fork.steps

-- the state of the slot of a player that is played
abbrev pub player_slot : List SlotState → Option Player → Option MachineState
player_slot slots (Some (Playing slot)) = slot_at slot.id.0 slots
player_slot slots _ = None

-- the state with which a player's session begins: that of its slot, or of the slot of the one that it is forked from
abbrev pub start_at : List SlotState → List Player → Player → Option MachineState
start_at slots players (Playing slot) = slot_at slot.id.0 slots
start_at slots players (Waiting fork) = player_slot slots (slice_get players fork.parent)

-- A session can be forked: the one that it is forked from is played, its keys are those of that one that come before the fork,
-- and then others that don't, in order, and all of them find room where they come after that one's start.
pub record IsForkReady (system : Disk) (slots : List SlotState) (players : List Player) (fork : Fork) : Type 0 where
  pub parent : ScriptedSlot
  pub plays : slice_get players fork.parent ≡ Some (Playing parent)
  pub own : List Key
  pub keys : fork.keys.items ≡ keys_before fork.at (script_keys parent) ++ own
  pub order : IsInOrder fork.at own
  pub start : MachineState
  pub opened : slot_at parent.id.0 slots ≡ Some start
  pub room : HaveRoom system start fork.keys.items
  pub within : fork.at ≤ fork.steps

abbrev pub IsPlayerReady : Disk → List SlotState → List Player → Player → Type 0
IsPlayerReady system slots players (Playing slot) = IsReady system slots slot
IsPlayerReady system slots players (Waiting fork) = IsForkReady system slots players fork

-- each of the players can be played, or forked, in the slots of a host with this system drive
abbrev pub AllReady : Disk → List SlotState → List Player → Type 0
AllReady system slots players = (place : ℕ) → IfSome (slice_get players place) (IsPlayerReady system slots players)

-- the numbers of the slots that are played
abbrev pub ids_of : List Player → List ℕ
ids_of [] = []
ids_of (Playing slot ∷ players) = slot.id.0 ∷ ids_of players
ids_of (Waiting fork ∷ players) = ids_of players

-- each has a slot of its own
abbrev pub AllDiffer : List Player → Type 0
AllDiffer players = AreDifferent (ids_of players)

-- ---- what was played

-- A player has become one that was played: its session came to what the machine run alone for its keys and steps,
-- from the state with which it begins, comes to.
pub record HasPlayed (system : Disk) (before now : List SlotState) (players : List Player) (player played : Player) : Type 0 where
  pub slot : ScriptedSlot
  pub plays : played ≡ Playing slot
  pub start : MachineState
  pub last : MachineState
  pub started : start_at before players player ≡ Some start
  pub stands : slot_at slot.id.0 now ≡ Some last
  pub session : IsPlayed system (player_keys player) (player_steps player) start last slot.console.items slot.list.items

-- each of the players, at its place
pub record AllPlayed (old new : Host) (players played : List Player) : Type 0 where
  pub long : length played ≡ length players
  pub differ : AllDiffer played
  pub each : (place : ℕ) (p q : Player) → slice_get players place ≡ Some p → slice_get played place ≡ Some q
      → HasPlayed old.system old.slots new.slots players p q

-- nothing of the host is changed but the slots of these numbers, and those that were forked
pub record LeavesRest (ids : List ℕ) (old new : Host) : Type 0 where
  pub system : new.system ≡ old.system
  pub frames : new.frames ≡ old.frames
  pub others : (id : ℕ) → id < old.openings → IsNone id ids → slot_at id new.slots ≡ slot_at id old.slots

-- ---- room for forks

-- how many are to be forked
abbrev pub is_fork : Player → ℕ
is_fork (Playing slot) = 0
is_fork (Waiting fork) = 1

abbrev pub forks_of : List Player → ℕ
forks_of players = sum_by is_fork players

abbrev pub quota_of : Option MachineState → ℕ
quota_of None = 0
quota_of (Some s) = s.quota

-- how many pages these reserve in all: each as many as the one that it is forked from
abbrev pub pages_of : List SlotState → List Player → Player → ℕ
pages_of slots players (Playing slot) = 0
pages_of slots players (Waiting fork) = quota_of (start_at slots players (Waiting fork))

abbrev pub fork_pages : List SlotState → List Player → ℕ
fork_pages slots players = sum_by (pages_of slots players) players

-- a host has slots, numbers and frames for so many forks that reserve so many pages
pub record HasRoomForForks (h : Host) (forks pages : ℕ) : Type 0 where
  pub slots : length h.slots + forks ≤ 64
  pub numbers : 0 < forks → h.openings + forks ≤ 18446744073709551615
  pub frames : quotas_of h.slots + pages ≤ h.frames

-- it lacks what a fork is refused for
abbrev pub IsLackFor : Host → ℕ → ℕ → ForkError → Type 0
IsLackFor h forks pages NoSlot = (64 < length h.slots + forks) ⊎ (18446744073709551615 < h.openings + forks)
IsLackFor h forks pages NoFrames = h.frames < quotas_of h.slots + pages
IsLackFor h forks pages _ = ⊥

-- what a refused fork of the session at a place comes to
abbrev pub play_error : ℕ → ForkError → PlayError
play_error place Wanting = OutOfMemory
play_error place fault = ForkRefused place fault

-- how playing is refused: for a session that is to be forked, where there is no room for all of them, or if out of memory
abbrev pub IsPlayRefusal : Host → List Player → PlayError → Type 0
IsPlayRefusal h players (ForkRefused place fault) =
    ((fork : Fork) × (slice_get players place ≡ Some (Waiting fork))) × IsLackFor h (forks_of players) (fork_pages h.slots players) fault
IsPlayRefusal h players OutOfMemory = ⊤

-- ---- on the way

-- whether a session is to be forked now: the other one has executed as many steps, or executes no more
abbrev pub is_due : Fork → ScriptedSlot → Bool
is_due fork parent = nat_le fork.at parent.pace.done || (steps_of parent == 0)

-- the other one's slot was forked, and the new slot goes on as that one does, by keys of its own
pub record IsForkedFrom (parent : ScriptedSlot) (fork : Fork) (child : ScriptedSlot) (old new : Host) : Type 0 where
  pub accepted : fork_fault old (slot_at parent.id.0 old.slots) ≡ None
  pub host : new ≡ with_forked old (slot_at parent.id.0 old.slots)
  pub id : child.id.0 ≡ old.openings
  -- (the numbers of openings are of 64 bits)
  pub number : old.openings < 18446744073709551615
  pub keys : script_keys child ≡ fork.keys.items
  pub console : child.console.items ≡ parent.console.items
  pub list : child.list.items ≡ parent.list.items
  pub pace : child.pace ≡ forked_pace parent.pace fork.steps

-- each of the keys comes before that count
abbrev pub AllBefore : ℕ → List Key → Type 0
AllBefore at [] = ⊤
AllBefore at (key ∷ keys) = (key.count < at) × AllBefore at keys

-- a session is still to be forked from one that is played, which has come no further than to the fork
pub record IsForkWaiting (players : List Player) (fork : Fork) : Type 0 where
  pub parent : ScriptedSlot
  pub plays : slice_get players fork.parent ≡ Some (Playing parent)
  pub done : parent.pace.done ≤ fork.at
  pub early : AllBefore fork.at (take parent.pace.pressed (script_keys parent))

-- a session goes on from its start, and rests between two turns
pub record IsPlayerGoing (slots : List SlotState) (players : List Player) (h : Host) (player : Player) (slot : ScriptedSlot) : Type 0 where
  pub start : MachineState
  pub started : start_at slots players player ≡ Some start
  pub keys : script_keys slot ≡ player_keys player
  pub resting : IsResting (player_steps player) start slot h

-- a player is now another: one that goes on, or the same that still waits
abbrev pub StandsAs : List SlotState → List Player → List Player → Host → Player → Player → Type 0
StandsAs slots players now h player (Playing slot) = IsPlayerGoing slots players h player slot
StandsAs slots players now h player (Waiting fork) = (player ≡ Waiting fork) × IsForkWaiting now fork

-- a host and its players have become these
pub record HaveBecome (old new : Host) (players now : List Player) : Type 0 where
  pub long : length now ≡ length players
  pub each : (place : ℕ) (p q : Player) → slice_get players place ≡ Some p → slice_get now place ≡ Some q → StandsAs old.slots players now new p q
  pub differ : AllDiffer now
  pub rest : LeavesRest (ids_of players) old new
  pub orderly : IsHost new
  pub later : old.openings ≤ new.openings
  pub counted : (new.openings ≡ old.openings) ⊎ (new.openings ≤ 18446744073709551615)
  -- a slot that is played was there, or was forked
  pub came : (id : ℕ) → id < old.openings → IsNone id (ids_of players) → IsNone id (ids_of now)
  -- those that were forked have what was wanted for them
  pub slots : length new.slots + forks_of now ≡ length old.slots + forks_of players
  pub numbers : new.openings + forks_of now ≡ old.openings + forks_of players
  pub pages : quotas_of new.slots + sum_by (pages_of old.slots players) now ≡ quotas_of old.slots + fork_pages old.slots players

-- some players that could be played, in a host before, have become these in this one
pub record AreOnTheWay (h : Host) (now : List Player) : Type 0 where
  pub old : Host
  pub given : List Player
  pub ready : AllReady old.system old.slots given
  pub come : HaveBecome old h given now

-- a session is still to be forked
abbrev pub waits : Player → Bool
waits (Playing slot) = false
waits (Waiting fork) = true

abbrev pub has_fork : List Player → Bool
has_fork players = list_any waits players

-- a session executes no more
abbrev pub is_over : Player → Bool
is_over (Playing slot) = steps_of slot == 0
is_over (Waiting fork) = false

-- The session at a place, if it waits to be forked from that at another place, is not to be forked now; that one may execute so many steps before.
abbrev pub IsFar : (parent steps : ℕ) → List Player → (place : ℕ) → Type 0
IsFar parent steps players place = (fork : Fork) (slot : ScriptedSlot) → slice_get players place ≡ Some (Waiting fork) → fork.parent ≡ parent →
    slice_get players parent ≡ Some (Playing slot) → (is_due fork slot ≡ false) × (slot.pace.done + steps ≤ fork.at)

abbrev pub NoneIsDue : (parent steps : ℕ) → List Player → Type 0
NoneIsDue parent steps players = (place : ℕ) → IsFar parent steps players place

-- those that are played stay as they are, and those at other places than one
pub record KeepsPlaying (old new : List Player) : Type 0 where
  pub long : length new ≡ length old
  pub playing : (place : ℕ) (slot : ScriptedSlot) → slice_get old place ≡ Some (Playing slot) → slice_get new place ≡ Some (Playing slot)

pub record ChangesPlayerAt (place : ℕ) (old new : List Player) : Type 0 where
  pub keeps : KeepsPlaying old new
  pub others : (other : ℕ) → other ≢ place → slice_get new other ≡ slice_get old other

-- the steps that are left to all players, and one for each fork that is left
abbrev pub left_in_player : Player → ℕ
left_in_player (Playing slot) = steps_of slot
left_in_player (Waiting fork) = fork.steps + 1

abbrev pub players_left : List Player → ℕ
players_left players = sum_by left_in_player players

-- fewer are left, or nothing was done
abbrev pub LeavesFewer : List Player → List Player → Type 0
LeavesFewer old new = (players_left new < players_left old) ⊎ (new ≡ old)

-- one of them has something left to do
abbrev pub still_plays : List Player → Bool
still_plays players = list_any (λ p. nat_lt 0 (left_in_player p)) players
