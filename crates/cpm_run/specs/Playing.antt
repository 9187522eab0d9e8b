-- Sessions of a configuration in the slots of a host. All of it is own.
use Rattle.std.specs.Prelude.{⊤, ◌≡◌, ◌≢◌, ◌+◌, ℕ, Bool, List, [], ◌∷◌, length, map, slice_get, Option, Some, None, Ok, Vec, true}
use Rattle.std.specs.List.{All}
use Rattle.std.specs.Prelude.{if◌then◌else◌, option_map, string_bytes}
use Rattle.std.specs.declared.alloc.Global.{Global}
use Rattle.cpm_batch.specs.Inputs.{Forks, Opens, Restores, StartInput}
use Rattle.cpm_batch.specs.Outputs.{SessionOutput, left_by}
use Rattle.cpm_batch.specs.declared.output.SessionFiles.{SessionFiles}
use Rattle.cpm_config.specs.declared.config.Config.{Config}
use Rattle.cpm_config.specs.declared.config.SessionConfig.{SessionConfig}
use Rattle.cpm_drives.specs.Disks.{images_of}
use Rattle.cpm_geom.specs.Disk.{Disk}
use Rattle.cpm_script.specs.declared.script.Key.{Key}
use Rattle.cpm_slots.specs.Host.{Host, SlotState, refusal_of, slot_at, with_added, with_opened}
use Rattle.cpm_machine.specs.MachineState.{MachineState, opened_machine}
use Rattle.cpm_machine.specs.Saving.{Saving, restored, saving_with}
use Rattle.cpm_machine.specs.SystemDigest.{system_digest}
use Rattle.cpm_machine.specs.declared.opening.Opening.{Opening}
use Rattle.cpm_machine.specs.declared.opening.OpenError.{OpenError}
use Rattle.cpm_play.specs.Players.{fork_pages, forks_of}
use Rattle.cpm_play.specs.Playing.{IsPlayed}
use Rattle.cpm_play.specs.ScriptedSlots.{IsNew, script_keys, steps_of}
use Rattle.cpm_play.specs.declared.player.Fork.{Fork}
use Rattle.cpm_play.specs.declared.player.Player.{Player}
use Rattle.cpm_play.specs.declared.player.Player.TheVariants.{Playing, Waiting}
use Rattle.cpm_play.specs.declared.scripted_slot.ScriptedSlot.{ScriptedSlot}
use Rattle.cpm_run.specs.Run.{IsForkAt, IsOpening, IsRefusedOr, IsRestorable, IsShortFor, IsShownAs, ReportEntry, files_left, fork_pages_in, forks_in, name_at}
use Rattle.cpm_run.specs.Run.{report_view, reports_of, restoring_fault, saving_over, start_of}
use Rattle.cpm_store.specs.Files.{StoreName}
use Rattle.cpm_run.specs.Ending.{ending_of}
use Rattle.cpm_run.specs.declared.finish.EndedSlot.{EndedSlot}
use Rattle.cpm_run.specs.declared.report.SessionReport.{SessionReport}
use Rattle.cpm_run.specs.declared.error.RunError.{RunError}
use Rattle.cpm_run.specs.declared.error.RunError.TheVariants as refusal
use Rattle.cpm_run.specs.declared.error.StartFault.{StartFault}
use Rattle.cpm_run.specs.declared.error.StartFault.TheVariants.{Elsewhere, Unopened}
use Rattle.cpm_run.specs.Settled.{SettledSession}

-- ---- before they are played

-- the scripted slot is to play the slot that comes next by these keys for so many steps
pub record PlaysNext (all : List Key) (count : ℕ) (old : Host) (p : ScriptedSlot) : Type 0 where
  pub id : p.id.0 ≡ old.openings
  pub keys : script_keys p ≡ all
  pub steps : steps_of p ≡ count
  pub unplayed : IsNew p

-- a slot was opened so, and the scripted slot is to play it
pub record OpensSlot (opening : Opening) (all : List Key) (count : ℕ) (old new : Host) (p : ScriptedSlot) : Type 0 where
  pub accepted : refusal_of old opening ≡ None
  pub host : new ≡ with_opened old opening
  pub next : PlaysNext all count old p

-- a slot goes on from a saving, and the scripted slot is to play it
pub record RestoresSlot (x : Saving) (all : List Key) (count : ℕ) (old new : Host) (p : ScriptedSlot) : Type 0 where
  pub accepted : restoring_fault old x ≡ None
  pub host : new ≡ with_added old x.state
  pub next : PlaysNext all count old p

-- what is to be forked for a session
pub record IsForkFor (i : SettledSession) (place count : ℕ) (fork : Fork) : Type 0 where
  pub parent : fork.parent ≡ place
  pub at : fork.at ≡ count
  pub keys : fork.keys.items ≡ i.keys
  pub steps : fork.steps ≡ i.steps

-- a session that begins so is prepared: its slot was opened, or is to be forked
abbrev pub IsPreparedBy : StartInput → SettledSession → Host → Host → Player → Type 0
IsPreparedBy (Opens cpu quota drives) i old new (Playing slot) = (o : Opening) × IsOpening cpu quota drives o × OpensSlot o i.keys i.steps old new slot
IsPreparedBy (Forks parent at) i old new (Waiting fork) = IsForkFor i parent at fork × (new ≡ old)
IsPreparedBy (Restores x) i old new (Playing slot) = RestoresSlot x i.keys i.steps old new slot
IsPreparedBy _ i old new _ = ⊥

abbrev pub IsPrepared : SettledSession → Host → Host → Player → Type 0
IsPrepared i old new p = IsPreparedBy i.start i old new p

-- the scripted slot is to play a session, whose slot is in the state with which it begins
pub record HasSlot (slots : List SlotState) (start : MachineState) (i : SettledSession) (p : ScriptedSlot) : Type 0 where
  pub slot : slot_at p.id.0 slots ≡ Some start
  pub keys : script_keys p ≡ i.keys
  pub steps : steps_of p ≡ i.steps
  pub unplayed : IsNew p

-- the player is to play a session that begins so
abbrev pub HasPlayerBy : List SlotState → StartInput → SettledSession → Player → Type 0
HasPlayerBy slots (Opens cpu quota drives) i (Playing slot) = HasSlot slots (opened_machine cpu quota drives) i slot
HasPlayerBy slots (Forks parent at) i (Waiting fork) = IsForkFor i parent at fork
HasPlayerBy slots (Restores x) i (Playing slot) = HasSlot slots x.state i slot
HasPlayerBy slots _ i _ = ⊥

abbrev pub HasPlayer : List SlotState → SettledSession → Player → Type 0
HasPlayer slots i p = HasPlayerBy slots i.start i p

-- each session with its player
abbrev pub HavePlayers : List SlotState → List SettledSession → List Player → Type 0
HavePlayers slots [] [] = ⊤
HavePlayers slots (i ∷ is) (p ∷ ps) = HasPlayer slots i p × HavePlayers slots is ps
HavePlayers slots [] (p ∷ ps) = ⊥
HavePlayers slots (i ∷ is) [] = ⊥

-- ---- refusals

-- the forks lack this, and one of those that are forked stands there
abbrev pub AreUnforked : List StartInput → Host → StartFault → (place : ℕ) → Type 0
AreUnforked all h (Unopened fault) place = IsForkAt all place × IsShortFor h (forks_in all) (fork_pages_in all) fault
AreUnforked all h Elsewhere place = ⊥

-- Of those that aren't forked one after another, the first of which stands at `from`, the first that is refused is refused for this reason, and it stands at
-- the place. Or all are accepted, the forks lack it, and one of those that are forked stands there: which, depends on turns.
abbrev pub IsRefusedAmong : (all : List StartInput) → Host → (from : ℕ) → List StartInput → StartFault → (place : ℕ) → Type 0
IsRefusedAmong all h from [] fault place = AreUnforked all h fault place
IsRefusedAmong all h from (b ∷ bs) fault place = IsRefusedOr h b fault (place ≡ from) (λ next. IsRefusedAmong all next (from + 1) bs fault place)

-- so it is with one of the sessions that begin so, and that one's name is shown
pub record IsRefusedByName (sessions : List SessionConfig) (h : Host) (starts : List StartInput) (fault : StartFault) (shown : List ℕ) : Type 0 where
  pub place : ℕ
  pub first : IsRefusedAmong starts h 0 starts fault place
  pub told : IsShownAs (name_at sessions place) shown

-- how an opening of the session of this name is refused
abbrev pub IsOpeningRefusal : Host → Opening → StoreName → RunError → Type 0
IsOpeningRefusal h o name (refusal.SessionRefused shown fault) = (refusal_of h o ≡ Some fault) × IsShownAs name shown.bytes
IsOpeningRefusal h o name refusal.OutOfMemory = ⊤
IsOpeningRefusal h o name _ = ⊥

-- how a saving is refused that the session of this name goes on from
abbrev pub IsRestoringRefusal : Host → Saving → StoreName → RunError → Type 0
IsRestoringRefusal h x name (refusal.SessionRefused shown fault) = (restoring_fault h x ≡ Some (Unopened fault)) × IsShownAs name shown.bytes
IsRestoringRefusal h x name (refusal.SavedElsewhere shown) = (restoring_fault h x ≡ Some Elsewhere) × IsShownAs name shown.bytes
IsRestoringRefusal h x name refusal.OutOfMemory = ⊤
IsRestoringRefusal h x name _ = ⊥

-- how a session of this name that begins so is refused
abbrev pub IsStartRefusal : Host → StartInput → StoreName → RunError → Type 0
IsStartRefusal h (Opens cpu quota drives) name e = (o : Opening) × IsOpening cpu quota drives o × IsOpeningRefusal h o name e
IsStartRefusal h (Forks parent at) name e = ⊥
IsStartRefusal h (Restores x) name e = IsRestoringRefusal h x name e

-- how opening sessions one after another is refused
abbrev pub IsSlotRefusal : List SessionConfig → Host → List StartInput → RunError → Type 0
IsSlotRefusal sessions h starts (refusal.SessionRefused name fault) = IsRefusedByName sessions h starts (Unopened fault) name.bytes
IsSlotRefusal sessions h starts (refusal.SavedElsewhere name) = IsRefusedByName sessions h starts Elsewhere name.bytes
IsSlotRefusal sessions h starts refusal.OutOfMemory = ⊤
IsSlotRefusal sessions h starts _ = ⊥

-- players of these sessions are to be forked for which a host lacks room, and the name of one of them is shown
pub record IsForkRefused (sessions : List SessionConfig) (h : Host) (players : List Player) (fault : OpenError) (shown : List ℕ) : Type 0 where
  pub place : ℕ
  pub fork : Fork
  pub there : slice_get players place ≡ Some (Waiting fork)
  pub short : IsShortFor h (forks_of players) (fork_pages h.slots players) fault
  pub told : IsShownAs (name_at sessions place) shown

-- how forks are refused in a host
abbrev pub IsForksRefusal : List SessionConfig → Host → List Player → RunError → Type 0
IsForksRefusal sessions h players (refusal.SessionRefused name fault) = IsForkRefused sessions h players fault name.bytes
IsForksRefusal sessions h players refusal.OutOfMemory = ⊤
IsForksRefusal sessions h players _ = ⊥

-- ---- once they were played

-- a player has played the session, whose slot it left so
pub record HasEnded (system : Disk) (inputs : List SettledSession) (slots : List SlotState) (i : SettledSession) (p : Player) : Type 0 where
  pub slot : ScriptedSlot
  pub plays : p ≡ Playing slot
  pub last : MachineState
  pub stands : slot_at slot.id.0 slots ≡ Some last
  pub played : IsPlayed system i.keys i.steps (start_of inputs i) last slot.console.items slot.list.items

-- each of some sessions
abbrev pub AllEnded : Disk → (inputs : List SettledSession) → List SlotState → List SettledSession → List Player → Type 0
AllEnded system inputs slots [] [] = ⊤
AllEnded system inputs slots (i ∷ is) (p ∷ ps) = HasEnded system inputs slots i p × AllEnded system inputs slots is ps
AllEnded system inputs slots [] (p ∷ ps) = ⊥
AllEnded system inputs slots (i ∷ is) [] = ⊥

-- the bytes of the saving of a state with this system drive, if it is saved
abbrev pub saving_if : (is_saved : Bool) → Disk → MachineState → Option (List ℕ)
saving_if is_saved system s = if is_saved then Some (saving_over system s) else None

-- the bytes of a saving, where there is one
abbrev pub saved_bytes : Option (Vec ℕ Global) → Option (List ℕ)
saved_bytes saved = option_map (λ v. v.items) saved

-- what is left of the first of the scripted slots, whose slot was closed: how that ended, its drives, and its saving, if it is saved
pub record IsClosed (p : ScriptedSlot) (ps : List Player) (s : MachineState) (is_saved : Bool) (old new : Host) (r : Option EndedSlot) (rest : List Player)
    : Type 0 where
  pub left : EndedSlot
  pub result : r ≡ Some left
  pub slot : left.slot ≡ p
  pub ending : left.ending ≡ ending_of s
  pub drives : left.drives ≡ images_of s.session.disks
  pub saved : saved_bytes left.saved ≡ saving_if is_saved old.system s
  pub restores : is_saved ≡ true → restored (saving_over old.system s) ≡ Ok (saving_with (system_digest old.system) s)
  pub others_play : rest ≡ ps
  pub others : (id : ℕ) → id ≢ p.id.0 → slot_at id new.slots ≡ slot_at id old.slots

-- what is reported of a session, by what is left of it
abbrev pub report_by : SessionConfig → EndedSlot → ReportEntry
report_by session left = record { name = string_bytes session.name; ending = left.ending; bytes = length left.slot.console.items }

abbrev pub files_by : SessionConfig → EndedSlot → SessionOutput
files_by session left = record {
  session = session;
  console = left.slot.console.items;
  list = left.slot.list.items;
  drives = left.drives;
  saved = saved_bytes left.saved;
}

-- each session that ended so in this host is reported, and leaves its files
abbrev pub AreFinished : List SessionConfig → Host → List Player → List SessionReport → List SessionFiles → Type 0
AreFinished sessions h players reports files = (is : List SettledSession)
    → map (λ i. i.session) is ≡ sessions → AllEnded h.system is h.slots is players
    → (map report_view reports ≡ reports_of h.system is) × (map left_by files ≡ files_left h.system is) × All (IsRestorable h.system is) is
