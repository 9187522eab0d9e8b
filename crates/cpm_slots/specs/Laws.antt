-- The laws of a host, for every list of what happens to it. (own)
use Rattle.std.specs.Prelude.{⊤, ◌≡◌, ◌≢◌, ℕ, ◌+◌, ◌<◌, ◌≤◌, List, [], ◌∷◌, sum_by, Option, Some, None, Result, Ok, Err}
use Rattle.cpm_geom.specs.Disk.{Disk}
use Rattle.cpm_machine.specs.MachineState.{MachineState}
use Rattle.cpm_machine.specs.Calls.{Grant, GrantUntil, no_account}
use Rattle.cpm_machine.specs.declared.opening.Opening.{Opening}
use Rattle.cpm_slots.specs.declared.event.Reply.{Reply}
use Rattle.cpm_slots.specs.declared.event.Reply.TheVariants as reply
use Rattle.cpm_slots.specs.Serving.{Ask, Calls}
use Rattle.cpm_slots.specs.Account.{account_by, slot_after, replies_of, IsRunAlone}
use Rattle.cpm_slots.specs.declared.event.ForkError.{ForkError}
use Rattle.cpm_slots.specs.declared.event.HostRestoreError.{HostRestoreError}
use Rattle.cpm_slots.specs.Restoring.{IsSlotSaved}
use Rattle.cpm_machine.specs.Saving.{Saving, restored}
use Rattle.cpm_saved.specs.declared.part.SavingDamage.{SavingDamage}
use Rattle.cpm_slots.specs.Host.{Host, Happening, Opens, Forks, Restores, Asks, new_host, slot_at, with_opened, opened_slot}
use Rattle.cpm_slots.specs.Host.{fork_fault, restore_fault, reply_at, after_ask, after_one, host_after, replies_told, told_of, own, IsHost}
use Rattle.cpm_slots.specs.Lives.{Life, NamedLife, life_of, lives}

-- what is asked of one slot leaves every other
abbrev pub Apart : Type 0
Apart = (h : Host) (id other : ℕ) (ask : Ask) → other ≢ id → slot_at other (after_ask h id ask).slots ≡ slot_at other h.slots

-- after anything that happens, a slot's state and its replies are those of the slot by itself, by its own events
abbrev pub Isolation : Type 0
Isolation = (h : Host) (events : List Happening) (id : ℕ) → id < h.openings →
    (slot_at id (host_after events h).slots ≡ slot_after h.system (own id events) (slot_at id h.slots))
    × (told_of id (replies_told events h) ≡ replies_of h.system (own id events) (slot_at id h.slots))

-- The headline. In a host that was made, to which anything happened, a slot is opened, and then anything happens, more openings among it.
-- The slot's replies are those that its machine gives by itself, and the slot is what its own events leave of its opening. While it is open it is
-- the machine run alone for its opening, its accepted keys with the counts at which they came, its executed steps and the system drive.
pub record StandsAlone (system : Disk) (opening : Opening) (asks : List Ask) (replies : List Reply) (now : Option MachineState) : Type 0 where
  pub replied : replies ≡ replies_of system asks (Some (opened_slot opening))
  pub left : now ≡ slot_after system asks (Some (opened_slot opening))
  pub state : IsRunAlone system (opened_slot opening) (account_by no_account asks replies) now

abbrev pub SlotAlone : Type 0
SlotAlone = (system : Disk) (frames : ℕ) (before : List Happening) (opening : Opening) (events : List Happening) →
    let h = host_after before (new_host system frames) in
    let id = h.openings in
    let now = with_opened h opening in
    StandsAlone system opening (own id events) (told_of id (replies_told events now)) (slot_at id (host_after events now).slots)

-- what happened to one slot, opened or forked, and what its state is now: it stands alone by its life
pub record HasLived (system : Disk) (all : List NamedLife) (id : ℕ) (now : Option MachineState) : Type 0 where
  pub life : Life
  pub named : life_of id all ≡ Some life
  pub stands : StandsAlone system life.opening life.asks life.replies now

-- what is read of the bytes of a saving comes from a life: the state in it stands alone by that
abbrev pub ComesFrom : Disk → Life → Result Saving SavingDamage → Type 0
ComesFrom system life (Err damage) = ⊤
ComesFrom system life (Ok x) = StandsAlone system life.opening life.asks life.replies (Some x.state)

-- each saving that is restored comes from the life that is told of its bytes
abbrev pub AllComeFrom : Disk → (origin : List ℕ → Life) → List Happening → Type 0
AllComeFrom system origin [] = ⊤
AllComeFrom system origin (Opens o ∷ xs) = AllComeFrom system origin xs
AllComeFrom system origin (Forks id ∷ xs) = AllComeFrom system origin xs
AllComeFrom system origin (Restores bytes ∷ xs) = ComesFrom system (origin bytes) (restored bytes) × AllComeFrom system origin xs
AllComeFrom system origin (Asks id ask ∷ xs) = AllComeFrom system origin xs

-- And each slot that was ever opened, forked or restored stands so: one that was forked by the events of the slot that it was forked from,
-- up to the fork, followed by its own; one that was restored by the events of the slot that was saved, on whatever host, up to the saving,
-- followed by its own.
abbrev pub EachAlone : Type 0
EachAlone = (system : Disk) (frames : ℕ) (events : List Happening) (origin : List ℕ → Life) (id : ℕ) →
    let h = new_host system frames in
    AllComeFrom system origin events → id < (host_after events h).openings →
    HasLived system (lives origin events h []) id (slot_at id (host_after events h).slots)

-- And the saving of a slot that stands so comes from the slot's life, whatever host it is of.
abbrev pub SavingsHaveLives : Type 0
SavingsHaveLives = (system : Disk) (h : Host) (id : ℕ) (life : Life) (bytes : List ℕ) → IsSlotSaved h id bytes →
    StandsAlone system life.opening life.asks life.replies (slot_at id h.slots) → ComesFrom system life (restored bytes)

-- a slot goes on from a state by its own events alone
pub record GoesOn (h : Host) (events : List Happening) (id : ℕ) (from : MachineState) : Type 0 where
  pub state : slot_at id (host_after events h).slots ≡ slot_after h.system (own id events) (Some from)
  pub replied : told_of id (replies_told events h) ≡ replies_of h.system (own id events) (Some from)

-- A fork that is not refused adds a slot whose whole state is that of the other one, and changes no slot.
-- Whatever happens afterwards, each of the two goes on from there by its own events: neither's replies or state depend on the other's.
pub record PartsSlot (h : Host) (id : ℕ) (s : MachineState) (events : List Happening) : Type 0 where
  pub number : (after_one h (Forks id)).openings ≡ h.openings + 1
  pub child : slot_at h.openings (after_one h (Forks id)).slots ≡ Some s
  pub others : (other : ℕ) → other < h.openings → slot_at other (after_one h (Forks id)).slots ≡ slot_at other h.slots
  pub child_goes : GoesOn (after_one h (Forks id)) events h.openings s
  pub parent_goes : GoesOn (after_one h (Forks id)) events id s

abbrev pub Parting : Type 0
Parting = (h : Host) (id : ℕ) (s : MachineState) (events : List Happening) → IsHost h →
    slot_at id h.slots ≡ Some s → fork_fault h (Some s) ≡ None → PartsSlot h id s events

-- one that is refused changes nothing
abbrev pub NoParting : Type 0
NoParting = (h : Host) (id : ℕ) (fault : ForkError) → fork_fault h (slot_at id h.slots) ≡ Some fault → after_one h (Forks id) ≡ h

-- A slot that is restored in a host, from the saving of a slot of any host over an equal system drive, has that slot's whole state, and no slot changes.
-- Whatever happens afterwards to either host, the two slots agree on their replies and their states where they agree on their own events.
pub record GoesOnAsSaved (g h : Host) (id : ℕ) (bytes : List ℕ) (es ds : List Happening) : Type 0 where
  pub number : (after_one h (Restores bytes)).openings ≡ h.openings + 1
  pub state : slot_at h.openings (after_one h (Restores bytes)).slots ≡ slot_at id g.slots
  pub others : (other : ℕ) → other < h.openings → slot_at other (after_one h (Restores bytes)).slots ≡ slot_at other h.slots
  pub replied : told_of id (replies_told es g) ≡ told_of h.openings (replies_told ds (after_one h (Restores bytes)))
  pub goes : slot_at id (host_after es g).slots ≡ slot_at h.openings (host_after ds (after_one h (Restores bytes))).slots

abbrev pub Restoring : Type 0
Restoring = (g h : Host) (id : ℕ) (bytes : List ℕ) (es ds : List Happening) → IsHost g → IsHost h →
    g.system ≡ h.system → IsSlotSaved g id bytes → restore_fault h (restored bytes) ≡ None → own id es ≡ own h.openings ds →
    GoesOnAsSaved g h id bytes es ds

-- one that is refused changes nothing
abbrev pub NoRestoring : Type 0
NoRestoring = (h : Host) (bytes : List ℕ) (fault : HostRestoreError) → restore_fault h (restored bytes) ≡ Some fault → after_one h (Restores bytes) ≡ h

-- a fork is the restoring of a saving
abbrev pub ForkIsRestored : Type 0
ForkIsRestored = (h : Host) (id : ℕ) (bytes : List ℕ) → IsSlotSaved h id bytes → after_one h (Forks id) ≡ after_one h (Restores bytes)

-- two hosts that agree on the system drive, on a slot of each and on its own events agree on its replies and its state: whatever other slots do,
-- and whatever their numbers, quotas and frames are
abbrev pub TwoWorlds : Type 0
TwoWorlds = (h g : Host) (i j : ℕ) (es ds : List Happening) → i < h.openings → j < g.openings →
    h.system ≡ g.system → slot_at i h.slots ≡ slot_at j g.slots → own i es ≡ own j ds →
    (told_of i (replies_told es h) ≡ told_of j (replies_told ds g)) × (slot_at i (host_after es h).slots ≡ slot_at j (host_after ds g).slots)

-- the steps that a grant executed
abbrev pub executed_in : Reply → ℕ
executed_in reply.Done = 0
executed_in (reply.Granted granted) = granted.executed
executed_in (reply.Bytes bytes) = 0
executed_in (reply.Looked look) = 0
executed_in (reply.Peeked byte) = 0
executed_in (reply.Refused fault) = 0

-- the steps that are granted
abbrev pub granted_in : Ask → ℕ
granted_in (Calls (Grant steps)) = steps
granted_in (Calls (GrantUntil steps pc)) = steps
granted_in _ = 0

abbrev pub granted_by : Happening → ℕ
granted_by (Opens opening) = 0
granted_by (Forks id) = 0
granted_by (Restores bytes) = 0
granted_by (Asks id ask) = granted_in ask

-- no more steps are executed than are granted
abbrev pub Within : Type 0
Within = (h : Host) (events : List Happening) → sum_by (λ t. executed_in t.reply) (replies_told events h) ≤ sum_by granted_by events

-- two grants to a slot, one after the other, are one of the sum
abbrev pub SlotCutting : Type 0
SlotCutting = (h : Host) (id a b : ℕ) →
    let first = after_ask h id (Calls (Grant a)) in
    (after_ask first id (Calls (Grant b)) ≡ after_ask h id (Calls (Grant (a + b))))
    × (executed_in (reply_at h id (Calls (Grant a))) + executed_in (reply_at first id (Calls (Grant b))) ≡ executed_in (reply_at h id (Calls (Grant (a + b)))))

-- a number that was given, and whose slot is closed, is never open again
abbrev pub NeverAgain : Type 0
NeverAgain = (h : Host) (events : List Happening) (id : ℕ) → id < h.openings → slot_at id h.slots ≡ None → slot_at id (host_after events h).slots ≡ None

-- a host that was made stays one: its slots are in the order of their numbers, all given, at most 64, and their quotas are within the frames
abbrev pub Orderly : Type 0
Orderly = (system : Disk) (frames : ℕ) (events : List Happening) → IsHost (host_after events (new_host system frames))
