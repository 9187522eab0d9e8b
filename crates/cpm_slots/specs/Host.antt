-- A host: its system drive, its frames, how many openings were made, and its open slots. There are no turns, tables or shared parts in it. (own)
use Rattle.std.specs.Prelude.{⊤, ◌≡◌, Bool, ℕ, ◌+◌, ◌<◌, ◌≤◌, List, [], ◌∷◌, ◌++◌, length, map, filter, sum_by, not}
use Rattle.std.specs.Prelude.{◌==◌, ◌||◌, nat_eq, nat_lt, nat_le, Option, Some, None, Result, Ok, Err, if◌then◌else◌, take}
use Rattle.cpm_flags.specs.declared.regs.Cpu.{Cpu}
use Rattle.cpm_geom.specs.Disk.{Disk}
use Rattle.std.specs.Cmp.Lexicographic.{pointwise}
use Rattle.cpm_saved.specs.declared.part.SavingDamage.{SavingDamage}
use Rattle.cpm_machine.specs.MachineState.{MachineState, opened_machine}
use Rattle.cpm_machine.specs.Saving.{Saving, restored, saving_with}
use Rattle.cpm_machine.specs.SystemDigest.{system_digest}
use Rattle.cpm_machine.specs.Opening.{opening_fault, fault_else}
use Rattle.cpm_machine.specs.ToWait.{executed_to_wait}
use Rattle.cpm_machine.specs.declared.opening.Opening.{Opening}
use Rattle.cpm_machine.specs.declared.opening.OpenError.{OpenError}
use Rattle.cpm_machine.specs.declared.opening.OpenError.TheVariants.{NoSlot, NoFrames}
use Rattle.cpm_machine.specs.declared.reply.Granted.{Granted}
use Rattle.cpm_machine.specs.declared.reply.Look.{Look}
use Rattle.cpm_machine.specs.declared.reply.Closed.{Closed}
use Rattle.cpm_slots.specs.declared.event.Event.{Event}
use Rattle.cpm_slots.specs.declared.event.ForkError.{ForkError}
use Rattle.cpm_slots.specs.declared.event.ForkError.TheVariants as fork
use Rattle.cpm_slots.specs.declared.event.HostRestoreError.{HostRestoreError}
use Rattle.cpm_slots.specs.declared.event.HostRestoreError.TheVariants as restore
use Rattle.cpm_slots.specs.declared.event.SaveError.{SaveError}
use Rattle.cpm_slots.specs.declared.event.SaveError.TheVariants as save
use Rattle.cpm_slots.specs.declared.event.Refusal.{Refusal}
use Rattle.cpm_slots.specs.declared.event.Refusal.TheVariants as refused
use Rattle.cpm_slots.specs.declared.event.Reply.{Reply}
use Rattle.cpm_slots.specs.declared.event.Reply.TheVariants as reply
use Rattle.cpm_slots.specs.Serving.{Ask, serve_slot, ask_of}

-- an open slot, under the number of its opening (own)
pub record SlotState : Type 0 where
  pub id : ℕ
  pub state : MachineState

pub record Host : Type 0 where
  -- the image of drive P, which all slots read
  pub system : Disk
  -- how many pages all slots may write
  pub frames : ℕ
  -- how many openings were made
  pub openings : ℕ
  -- the open slots, in the order of their openings
  pub slots : List SlotState

-- a host just made (own)
abbrev pub new_host : Disk → ℕ → Host
new_host system frames = record { system = system; frames = frames; openings = 0; slots = [] }

-- the slot of a number, if it is open (own)
abbrev pub slot_at : ℕ → List SlotState → Option MachineState
slot_at id [] = None
slot_at id (x ∷ xs) = if x.id == id then Some x.state else slot_at id xs

-- the slots, of which that of a number is now in this state, or closed (own)
abbrev pub with_slot : ℕ → Option MachineState → List SlotState → List SlotState
with_slot id None xs = filter (λ x. not (x.id == id)) xs
with_slot id (Some s) xs = map (λ x. if x.id == id then record { id = id; state = s } else x) xs

-- a slot at its opening, which has no keys and no output (own)
abbrev pub opened_slot : Opening → MachineState
opened_slot o = opened_machine o.cpu o.quota o.drives.items

-- the quotas of these slots (own)
abbrev pub quotas_of : List SlotState → ℕ
quotas_of xs = sum_by (λ x. x.state.quota) xs

-- own: 64 slots may be open; the last number is never given
abbrev pub lacks_slot : Host → Bool
lacks_slot h = nat_le 64 (length h.slots) || h.openings == 18446744073709551615

-- own: the quotas of the slots may be no more than the frames
abbrev pub lacks_frames : Host → ℕ → Bool
lacks_frames h quota = nat_lt h.frames (quotas_of h.slots + quota)

-- why there is no place for one slot more (own)
abbrev pub room_fault : Host → ℕ → Option OpenError
room_fault h quota = if lacks_slot h then Some NoSlot else if lacks_frames h quota then Some NoFrames else None

-- why an opening is refused, memory aside: by its quota, its drives, no free slot, or too few frames (own)
abbrev pub refusal_of : Host → Opening → Option OpenError
refusal_of h o = fault_else (opening_fault o) (room_fault h o.quota)

-- the host with one slot more, under the number of its opening (own)
abbrev pub with_added : Host → MachineState → Host
with_added h s = record h { openings = h.openings + 1; slots = h.slots ++ record { id = h.openings; state = s } ∷ [] }

abbrev pub with_opened : Host → Opening → Host
with_opened h o = with_added h (opened_slot o)

abbrev pub opened_if : Option OpenError → Host → Opening → Host
opened_if None h o = with_opened h o
opened_if (Some fault) h o = h

-- why a fork of a slot is refused, memory aside: it is not open, no slot is free, or there are fewer frames than it has reserved (own)
abbrev pub fork_fault : Host → Option MachineState → Option ForkError
fork_fault h None = Some fork.NoSuchSlot
fork_fault h (Some s) = if lacks_slot h then Some fork.NoSlot else if lacks_frames h s.quota then Some fork.NoFrames else None

-- a refusal names the fault, and where there is none it is out of memory (own)
abbrev pub IsForkRefusal : Option ForkError → ForkError → Type 0
IsForkRefusal None error = error ≡ fork.OutOfMemory
IsForkRefusal (Some fault) error = error ≡ fault

-- the host with one slot more, whose whole state is that of a slot that is open: its pending keys and the bytes that wait are as that slot's (own)
abbrev pub with_forked : Host → Option MachineState → Host
with_forked h None = h
with_forked h (Some s) = with_added h s

abbrev pub forked_if : Option ForkError → Host → ℕ → Host
forked_if None h id = with_forked h (slot_at id h.slots)
forked_if (Some fault) h id = h

-- a slot's saving: its state, and the digest of the system drive (own)
abbrev pub saving_of : Host → MachineState → Saving
saving_of h s = saving_with (system_digest h.system) s

-- a slot that is not open is not saved, and one that is only if out of memory (own)
abbrev pub IsSaveRefusal : Option MachineState → SaveError → Type 0
IsSaveRefusal None error = error ≡ save.NoSuchSlot
IsSaveRefusal (Some s) error = error ≡ save.OutOfMemory

-- these are the same bytes (own)
abbrev pub are_same : List ℕ → List ℕ → Bool
are_same xs ys = pointwise nat_eq xs ys

-- why no slot goes on from a saving with this digest and this quota: it is of another system drive, no slot is free, or there are too few frames (own)
abbrev pub system_fault : Host → (digest : List ℕ) → (quota : ℕ) → Option HostRestoreError
system_fault h digest quota =
    if not (are_same digest (system_digest h.system)) then Some restore.OtherSystem
    else if lacks_slot h then Some restore.NoSlot
    else if lacks_frames h quota then Some restore.NoFrames
    else None

-- why what was read of bytes opens no slot, memory aside: the bytes are no saving, or its system drive or the host refuses it (own)
abbrev pub restore_fault : Host → Result Saving SavingDamage → Option HostRestoreError
restore_fault h (Err damage) = Some (restore.Damaged damage)
restore_fault h (Ok x) = system_fault h x.system_digest x.state.quota

-- a refusal names the fault; or memory was refused, which may be before the fault is known (own)
abbrev pub IsRestoreRefusal : Option HostRestoreError → HostRestoreError → Type 0
IsRestoreRefusal fault restore.OutOfMemory = ⊤
IsRestoreRefusal fault error = fault ≡ Some error

-- the host with one slot more, whose whole state is that of the saving (own)
abbrev pub with_slot_restored : Host → Result Saving SavingDamage → Host
with_slot_restored h (Err damage) = h
with_slot_restored h (Ok x) = with_added h x.state

abbrev pub restored_if : Option HostRestoreError → Host → Result Saving SavingDamage → Host
restored_if None h read = with_slot_restored h read
restored_if (Some fault) h read = h

-- what a slot of the host replies (own)
abbrev pub reply_at : Host → ℕ → Ask → Reply
reply_at h id ask = (serve_slot h.system ask (slot_at id h.slots)).reply

-- the host after that: no other slot is looked at, and none is changed (own)
abbrev pub after_ask : Host → ℕ → Ask → Host
after_ask h id ask = record h { slots = with_slot id (serve_slot h.system ask (slot_at id h.slots)).slot h.slots }

-- What happens to a host: an opening or a fork of a slot, or a restoring of one from bytes, for which there was memory, or something asked of a slot.
-- One that wants memory changes nothing, and so is none. Nor is a saving of a slot, which changes nothing. (own)
pub data Happening : Type 0 where
  Opens : (opening : Opening) → Happening
  Forks : (id : ℕ) → Happening
  Restores : (bytes : List ℕ) → Happening
  Asks : (id : ℕ) → (ask : Ask) → Happening

-- an event of a list that is run (own)
abbrev pub happening_of : Event → Happening
happening_of e = Asks e.slot.0 (ask_of e.request)

abbrev pub after_one : Host → Happening → Host
after_one h (Opens o) = opened_if (refusal_of h o) h o
after_one h (Forks id) = forked_if (fork_fault h (slot_at id h.slots)) h id
after_one h (Restores bytes) = restored_if (restore_fault h (restored bytes)) h (restored bytes)
after_one h (Asks id ask) = after_ask h id ask

-- the host after all that happened, in order (own)
abbrev pub host_after : List Happening → Host → Host
host_after [] h = h
host_after (x ∷ xs) h = host_after xs (after_one h x)

-- a reply, with the number of the slot that was asked (own)
pub record SlotReply : Type 0 where
  pub id : ℕ
  pub reply : Reply

abbrev pub told_by : Host → Happening → List SlotReply
told_by h (Opens o) = []
told_by h (Forks id) = []
told_by h (Restores bytes) = []
told_by h (Asks id ask) = record { id = id; reply = reply_at h id ask } ∷ []

-- all replies, in order (own)
abbrev pub replies_told : List Happening → Host → List SlotReply
replies_told [] h = []
replies_told (x ∷ xs) h = told_by h x ++ replies_told xs (after_one h x)

-- the replies of one slot (own)
abbrev pub told_of : ℕ → List SlotReply → List Reply
told_of id ts = map (λ t. t.reply) (filter (λ t. t.id == id) ts)

-- what is asked of one slot; a fork of it, or a restoring of its saving, asks nothing of it (own)
abbrev pub asked_of : ℕ → Happening → List Ask
asked_of id (Opens o) = []
asked_of id (Forks parent) = []
asked_of id (Restores bytes) = []
asked_of id (Asks named ask) = if named == id then ask ∷ [] else []

-- the slot's own events, in order (own)
abbrev pub own : ℕ → List Happening → List Ask
own id [] = []
own id (x ∷ xs) = asked_of id x ++ own id xs

-- the replies to the events that name the slot, of those that stand in their places (own)
abbrev pub replies_to : ℕ → List Event → List Reply → List Reply
replies_to id [] replies = []
replies_to id (e ∷ es) [] = []
replies_to id (e ∷ es) (r ∷ rs) = if e.slot.0 == id then r ∷ replies_to id es rs else replies_to id es rs

-- the numbers rise, from at least n on (own)
abbrev pub IsOrdered : ℕ → List SlotState → Type 0
IsOrdered n [] = ⊤
IsOrdered n (x ∷ xs) = (n ≤ x.id) × IsOrdered (x.id + 1) xs

-- each is the number of an opening that was made (own)
abbrev pub AllBelow : ℕ → List SlotState → Type 0
AllBelow n [] = ⊤
AllBelow n (x ∷ xs) = (x.id < n) × AllBelow n xs

-- what holds of every host (own)
pub record IsHost (h : Host) : Type 0 where
  pub ordered : IsOrdered 0 h.slots
  pub below : AllBelow h.openings h.slots
  pub few : length h.slots ≤ 64
  pub quotas : quotas_of h.slots ≤ h.frames

-- the results of single calls, as replies (own)
abbrev pub key_reply : Result ⊤ Refusal → Reply
key_reply (Ok done) = reply.Done
key_reply (Err fault) = reply.Refused fault

abbrev pub grant_reply : Result Granted Refusal → Reply
grant_reply (Ok granted) = reply.Granted granted
grant_reply (Err fault) = reply.Refused fault

-- so many bytes were put in front of these
abbrev pub take_reply : Result ℕ Refusal → List ℕ → Reply
take_reply (Ok count) bytes = reply.Bytes (record { items = take count bytes })
take_reply (Err fault) bytes = reply.Refused fault

abbrev pub look_reply : Result Look Refusal → Reply
look_reply (Ok look) = reply.Looked look
look_reply (Err fault) = reply.Refused fault

abbrev pub peek_reply : Result ℕ Refusal → Reply
peek_reply (Ok byte) = reply.Peeked byte
peek_reply (Err fault) = reply.Refused fault

abbrev pub close_reply : Result Closed Refusal → Reply
close_reply (Ok closed) = reply.Done
close_reply (Err fault) = reply.Refused fault

-- the processor of a slot, if it is open
abbrev pub cpu_reply : Option MachineState → Result Cpu Refusal
cpu_reply None = Err refused.NoSuchSlot
cpu_reply (Some s) = Ok s.cpu

-- what a grant of a slot up to a wait executes, if it is open
abbrev pub work_reply : Disk → (steps : ℕ) → Option MachineState → Result ℕ Refusal
work_reply system steps None = Err refused.NoSuchSlot
work_reply system steps (Some s) = Ok (executed_to_wait system steps s)
