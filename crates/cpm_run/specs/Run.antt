-- What running the sessions of a configuration writes and reports, and when it is refused. All of it is own.
use Rattle.std.specs.Prelude.{⊤, ◌≡◌, ◌≤◌, ◌⊎◌, ◌+◌, ℕ, sum_by, ◌==◌, ◌&&◌, not, nat_le, List, [], ◌∷◌, ◌++◌, length, drop, take}
use Rattle.std.specs.Prelude.{map, slice_get, Option, Some, None, option_map, string_bytes, chars, Ok, IfSome, if◌then◌else◌}
use Rattle.std.specs.List.{All}
use Rattle.cpm_batch.specs.Inputs.{AreInputs, Forks, Opens, Restores, SessionInput, StartInput}
use Rattle.cpm_batch.specs.Outputs.{SessionOutput, files_of_all}
use Rattle.cpm_batch.specs.Reads.{AreRead}
use Rattle.cpm_checkpoint.specs.CheckpointBytes.{checkpoint_value}
use Rattle.cpm_shown.specs.Shown.{shown_of}
use Rattle.cpm_config.specs.Rules.{config_view, fault_or, forks_fault}
use Rattle.cpm_config.specs.declared.config.Config.{Config}
use Rattle.cpm_config.specs.declared.config.SessionConfig.{SessionConfig}
use Rattle.cpm_config.specs.declared.field.Field.{Field}
use Rattle.cpm_config.specs.declared.field.Field.TheVariants.{Frames, Quantum}
use Rattle.cpm_config.specs.declared.field.ConfigKey.{ConfigKey}
use Rattle.cpm_drives.specs.Disks.{images_of}
use Rattle.cpm_flags.specs.declared.regs.Cpu.{Cpu}
use Rattle.cpm_geom.specs.Disk.{Disk}
use Rattle.cpm_slots.specs.Host.{Host, are_same, new_host, refusal_of, room_fault, with_added, with_opened}
use Rattle.cpm_slots.specs.declared.event.ForkError.TheVariants as fork
use Rattle.cpm_slots.specs.declared.host.TheConstants.{LEAST_FRAMES}
use Rattle.cpm_memory.specs.declared.store.TheConstants.{MOST_FRAMES}
use Rattle.cpm_machine.specs.MachineState.{MachineState}
use Rattle.cpm_machine.specs.Saving.{Saving, bytes_of_saving, restored, saving_with}
use Rattle.cpm_machine.specs.SystemDigest.{system_digest}
use Rattle.cpm_machine.specs.declared.opening.Opening.{Opening}
use Rattle.cpm_machine.specs.declared.opening.OpenError.{OpenError}
use Rattle.cpm_machine.specs.declared.opening.OpenError.TheVariants.{NoFrames, NoSlot}
use Rattle.cpm_store.specs.Files.{StoreFiles, StoreName, WhereTold}
use Rattle.cpm_store.specs.Log.{StoreAccess, AreWrites, LogLeadsBy}
use Rattle.cpm_store.specs.Writes.{NamedBytes, WritesAll}
use Rattle.cpm_play.specs.Players.{HasRoomForForks, IsLackFor}
use Rattle.cpm_play.specs.Playing.{IsInOrder, alone_by, coming_keys, state_left}
use Rattle.cpm_run.specs.Ending.{ending_of}
use Rattle.cpm_run.specs.declared.ending.Ending.{Ending}
use Rattle.cpm_run.specs.declared.error.StartFault.{StartFault}
use Rattle.cpm_run.specs.declared.error.StartFault.TheVariants.{Elsewhere, Unopened}
use Rattle.cpm_run.specs.declared.options.RecordFile.{RecordFile}
use Rattle.cpm_run.specs.declared.options.RunOptions.{RunOptions}
use Rattle.cpm_run.specs.declared.report.Report.{Report}
use Rattle.cpm_run.specs.declared.report.SessionReport.{SessionReport}
use Rattle.cpm_run.specs.declared.report.SessionStop.{SessionStop}
use Rattle.cpm_script.specs.Recording.{recorded, recording}
use Rattle.cpm_script.specs.Script.{script, most_keys}
use Rattle.cpm_script.specs.declared.script.Key.{Key}
use Rattle.cpm_run.specs.Beginning.{run_beginning}
use Rattle.cpm_run.specs.Pressable.{ArePressable, HaveFewKeys}
use Rattle.cpm_run.specs.Rest.{RunStanding, SessionStanding, outputs_behind, rest_if, rest_of, stands_all, standing_at, standing_given}
use Rattle.cpm_run.specs.Settled.{AreSettled, IsTypedIfAny, SettledSession, Streams, TypedSession, opening_at, start_by, starts_of}

-- ---- a session

-- the machine with which a session of these begins
abbrev pub start_of : List SettledSession → SettledSession → MachineState
start_of inputs i = start_by (starts_of inputs) i.start

-- the machine run alone from there, by its keys, for its steps.
-- Of a forked session these are the keys of the other one up to the fork and then its own, and its steps are all of them
unfoldable pub run_of : Disk → List SettledSession → SettledSession → MachineState
run_of system inputs i = alone_by system i.keys i.steps (start_of inputs i)

-- its whole state then, with all of its output taken. The keys are those that come before its end; a later one is not pending
unfoldable pub left_of : Disk → List SettledSession → SettledSession → MachineState
left_of system inputs i = state_left system (coming_keys system (start_of inputs i) i.steps i.keys) i.steps (start_of inputs i)

-- the bytes of the saving of a state with this system drive
abbrev pub saving_over : Disk → MachineState → List ℕ
saving_over system s = bytes_of_saving (saving_with (system_digest system) s)

-- where it is saved, what is restored of the bytes of its saving is its saving
abbrev pub IsRestorable : Disk → List SettledSession → SettledSession → Type 0
IsRestorable system inputs i =
    IfSome i.session.save
    (λ name. restored (saving_over system (left_of system inputs i)) ≡ Ok (saving_with (system_digest system) (left_of system inputs i)))

abbrev pub AreRestorable : Disk → List SettledSession → Type 0
AreRestorable system inputs = All (IsRestorable system inputs) inputs

-- what is left of it for its files: all bytes of its console and of its list device, and its drives; and the saving of its state, where it is saved
abbrev pub session_output : Disk → SessionConfig → (s left : MachineState) → SessionOutput
session_output system session s left = record {
  session = session;
  console = s.session.console.screen;
  list = s.session.console.printer;
  drives = images_of s.session.disks;
  saved = option_map (λ name. saving_over system left) session.save;
}

-- what is reported of it: its name, how and where it ended, and the number of its console bytes
pub record ReportEntry : Type 0 where
  pub name : StoreName
  pub ending : Ending
  pub bytes : ℕ

abbrev pub reported_of : SessionConfig → MachineState → ReportEntry
reported_of session s = record { name = string_bytes session.name; ending = ending_of s; bytes = length s.session.console.screen }

abbrev pub report_view : SessionReport → ReportEntry
report_view r = record { name = string_bytes r.name; ending = r.ending; bytes = r.bytes }

-- ---- all sessions

abbrev pub reports_of : Disk → List SettledSession → List ReportEntry
reports_of system inputs = map (λ i. reported_of i.session (run_of system inputs i)) inputs

abbrev pub files_left : Disk → List SettledSession → List SessionOutput
files_left system inputs = map (λ i. session_output system i.session (run_of system inputs i) (left_of system inputs i)) inputs

-- ---- a run that goes on from where it stood

-- what is reported of a session, where this is of its rest
abbrev pub report_behind : Option SessionStanding → ReportEntry → ReportEntry
report_behind None r = r
report_behind (Some s) r = record r { bytes = length s.console + r.bytes }

-- of some sessions, the first of which stands as the first of these
abbrev pub reports_behind : RunStanding → List ReportEntry → List ReportEntry
reports_behind ss [] = []
reports_behind ss (r ∷ rs) = report_behind (standing_at ss 0) r ∷ reports_behind (drop 1 ss) rs

-- what is reported and left of all sessions, where they are played from their beginnings; or from where they stood: then what was shown before is in front
abbrev pub reports_from : Disk → List SettledSession → Option RunStanding → List ReportEntry
reports_from system inputs None = reports_of system inputs
reports_from system inputs (Some s) = reports_behind (stands_all s inputs s) (reports_of system (rest_of inputs s))

abbrev pub files_from : Disk → List SettledSession → Option RunStanding → List SessionOutput
files_from system inputs None = files_left system inputs
files_from system inputs (Some s) = outputs_behind (stands_all s inputs s) (files_left system (rest_of inputs s))

-- ---- records

-- a session's own keys: those that come after the keys that the session that it is forked from had before
abbrev pub own_keys : SettledSession → List Key
own_keys s = drop s.before s.keys

-- their lines are a recording of just these keys, and a script of them where it can have so many
pub record GivesItsKeysAgain (s : SettledSession) : Type 0 where
  pub recording : recording (recorded (own_keys s)) ≡ Ok (own_keys s)
  pub script : length (own_keys s) ≤ most_keys → script (recorded (own_keys s)) ≡ Ok (own_keys s)

-- the lines of a session's own keys, where a file is named for them, unless that wants a key and there is none
abbrev pub record_of : RecordFile → (own : List Key) → List NamedBytes
record_of r own = if r.needs_key && (length own == 0) then [] else (r.name.now, recorded own) ∷ []

-- one record for each session, in their order. Sessions beyond the records have none, and records beyond the sessions are not written
abbrev pub record_outputs : List RecordFile → List SettledSession → List NamedBytes
record_outputs [] ss = []
record_outputs (r ∷ rs) [] = []
record_outputs (r ∷ rs) (s ∷ ss) = record_of r (own_keys s) ++ record_outputs rs ss

-- all that is written, in order: what the sessions leave, and then the records of their keys
abbrev pub outputs_of : Disk → List RecordFile → List SettledSession → Option RunStanding → List NamedBytes
outputs_of system records inputs from = files_of_all (files_from system inputs from) ++ record_outputs records inputs

-- a number that no host can have, or no turn
abbrev pub top_fault : Config → Option Field
top_fault config =
    if not (nat_le LEAST_FRAMES config.frames && nat_le config.frames MOST_FRAMES) then Some Frames
    else if config.quantum == 0 then Some Quantum else None

-- the first place at which nothing can be run: a number at the top, or a fork from no earlier session that is opened, or at a count above the steps of either
abbrev pub config_fault : Config → Option ConfigKey
config_fault config = fault_or 0 (top_fault config) (forks_fault 1 [] (config_view config).sessions)

-- ---- room for all of them

-- it opens a session with these
pub record IsOpening (which : Cpu) (pages : ℕ) (images : List Disk) (o : Opening) : Type 0 where
  pub cpu : o.cpu ≡ which
  pub quota : o.quota ≡ pages
  pub drives : o.drives.items ≡ images

-- how many are forked, and how many pages these may write: each as many as the one that it is forked from
abbrev pub fork_of : StartInput → ℕ
fork_of (Opens cpu quota drives) = 0
fork_of (Forks parent at) = 1
fork_of (Restores x) = 0

abbrev pub forks_in : List StartInput → ℕ
forks_in starts = sum_by fork_of starts

abbrev pub pages_by : List StartInput → StartInput → ℕ
pages_by starts (Opens cpu quota drives) = 0
pages_by starts (Forks parent at) = (opening_at (slice_get starts parent)).quota
pages_by starts (Restores x) = 0

abbrev pub fork_pages_in : List StartInput → ℕ
fork_pages_in starts = sum_by (pages_by starts) starts

-- once those that aren't forked are open, the host has room for all that are forked
abbrev pub HasForkRoom : List StartInput → Host → Type 0
HasForkRoom starts h = HasRoomForForks h (forks_in starts) (fork_pages_in starts)

-- why no slot goes on from a saving: it was saved over another system drive; or no slot is free, or there are too few frames
abbrev pub restoring_fault : Host → Saving → Option StartFault
restoring_fault h x =
    if not (are_same x.system_digest (system_digest h.system)) then Some Elsewhere else option_map Unopened (room_fault h x.state.quota)

-- a session that begins so is accepted, and what follows holds of the host with it
abbrev pub IsAccepted : Host → StartInput → (Host → Type 0) → Type 0
IsAccepted h (Opens cpu quota drives) next = (o : Opening) × IsOpening cpu quota drives o × (refusal_of h o ≡ None) × next (with_opened h o)
IsAccepted h (Forks parent at) next = next h
IsAccepted h (Restores x) next = (restoring_fault h x ≡ None) × next (with_added h x.state)

-- those of the sessions that aren't forked are all accepted, one after another, and then there is room for the forks
abbrev pub AllAccepted : (all : List StartInput) → Host → List StartInput → Type 0
AllAccepted all h [] = HasForkRoom all h
AllAccepted all h (b ∷ bs) = IsAccepted h b (λ next. AllAccepted all next bs)

-- how those begin that were read
abbrev pub starts_read : List SessionInput → List StartInput
starts_read inputs = map (λ i. i.start) inputs

-- ---- a run that goes on, or begins

-- A run of a host with so many frames can go on from where its sessions stood: each saving was made over this system drive, the keys that are left can be
-- pressed and are few, and the host takes all that is left.
pub record CanGoOn (system : Disk) (frames : ℕ) (inputs : List SettledSession) (s : RunStanding) : Type 0 where
  pub over : (place : ℕ) → IfSome (standing_at s place) (λ x. x.saving.system_digest ≡ system_digest system)
  pub keys : ArePressable system (rest_of inputs s)
  pub few : HaveFewKeys (rest_of inputs s)
  pub accepted : AllAccepted (starts_of (rest_of inputs s)) (new_host system frames) (starts_of (rest_of inputs s))

-- It goes on from where its sessions stood, as that was kept of them, or else it begins. It goes on only from savings over its system drive, with keys that can
-- be pressed; and it begins only where nothing was kept, or where it can't go on.
abbrev pub GoesOnOrBegins : Disk → (frames : ℕ) → List SettledSession → (kept from : Option RunStanding) → Type 0
GoesOnOrBegins system frames inputs None None = ⊤
GoesOnOrBegins system frames inputs None (Some s) = ⊥
GoesOnOrBegins system frames inputs (Some s) None = CanGoOn system frames inputs s → ⊥
GoesOnOrBegins system frames inputs (Some s) (Some from) =
    (from ≡ s) × ((place : ℕ) → IfSome (standing_at s place) (λ x. x.saving.system_digest ≡ system_digest system)) × ArePressable system (rest_of inputs s)

-- what was kept of the sessions of a run: by the checkpoint that was given, if its digest is that of what they begin with, and each of its savings restores
abbrev pub kept_by_options : Disk → RunOptions → List SettledSession → Option RunStanding
kept_by_options system options inputs = standing_given (run_beginning system inputs) (option_map (λ c. checkpoint_value c.now) options.kept)

-- it was played so: from somewhere, or from its beginning, and this holds of what that leaves
pub record HasPlayedFrom (system : Disk) (frames : ℕ) (inputs : List SettledSession) (kept : Option RunStanding) (Leaves : Option RunStanding → Type 0)
    : Type 0 where
  pub from : Option RunStanding
  pub gone : GoesOnOrBegins system frames inputs kept from
  pub left : Leaves from
  pub savings : AreRestorable system (rest_if inputs from)

-- these are its reports, and its files
abbrev pub LeavesFiles : Disk → List SettledSession → List ReportEntry → List SessionOutput → (from : Option RunStanding) → Type 0
LeavesFiles system inputs reports left from = (reports ≡ reports_from system inputs from) × (left ≡ files_from system inputs from)

-- ---- a run

-- what comes together in a run: the system drive, what was read for each session, what was typed at one, what they are played by, and where they stood where
-- it goes on from there
pub record RunParts : Type 0 where
  pub system : Disk
  pub inputs : List SessionInput
  pub typed : Option TypedSession
  pub settled : List SettledSession
  pub from : Option RunStanding

-- each opening is accepted and there is room for all forks, before a key is typed; the session at which one types has its keys by that, and each one the keys
-- of its script, or those that come by it
pub record AreParts (config : Config) (options : RunOptions) (io : Streams) (r : RunParts) : Type 0 where
  pub accepted : AllAccepted (starts_read r.inputs) (new_host r.system config.frames) (starts_read r.inputs)
  pub heard : IsTypedIfAny r.system config.sessions.items (option_map (λ n. n.now) options.typed) r.inputs io r.typed
  pub keys : AreSettled r.system options.stops_idle r.typed config.sessions.items [] r.inputs r.settled
  pub gone : GoesOnOrBegins r.system config.frames r.settled (kept_by_options r.system options r.settled) r.from

abbrev pub outputs_by : RunOptions → RunParts → List NamedBytes
outputs_by options r = outputs_of r.system options.records.now r.settled r.from

-- whether a session was played by itself and stopped where it waits for a key, and why no more was typed at it, where one typed
abbrev pub stop_of : SettledSession → SessionStop
stop_of s = record { is_idle = s.is_idle; typing = s.typing }

-- each session is reported; and of each it is told how it stopped where it was played by itself
pub record AreReportedOf (system : Disk) (settled : List SettledSession) (from : Option RunStanding) (report : Report) : Type 0 where
  pub sessions : map report_view report.sessions.items ≡ reports_from system settled from
  pub stops : report.stops.items ≡ map stop_of settled

-- these are its reports, and all that it writes
abbrev pub LeavesOutputs : Disk → RunOptions → List SettledSession → Report → List NamedBytes → (from : Option RunStanding) → Type 0
LeavesOutputs system options settled report outputs from =
    AreReportedOf system settled from report × (outputs ≡ outputs_of system options.records.now settled from)

-- What a store does by its calls, and what its files hold, where it tells that.
pub record StoreActs (S : Type 0) : Type 1 where
  pub does : S → StoreAccess → S → Type 0
  pub files : S → Option StoreFiles

-- What the configuration needs was read, and it was this, by what the files hold, and by what the calls gave. These reads were all calls, in order.
pub record HasReadInputs {S : Type 0} (acts : StoreActs S) (config : Config) (options : RunOptions) (system : Disk) (inputs : List SessionInput)
    (old new : S) : Type 0 where
  pub held : AreInputs (acts.files old) config options.replays.now system inputs
  pub same : acts.files new ≡ acts.files old
  pub calls : LogLeadsBy acts.does (AreRead config options.replays.now system inputs) old new

-- These files were written, and nothing else. These writes were all calls, in order.
pub record HasWrittenOutputs {S : Type 0} (acts : StoreActs S) (outputs : List NamedBytes) (old new : S) : Type 0 where
  pub hold : WhereTold (acts.files old) (acts.files new) (WritesAll outputs)
  pub calls : LogLeadsBy acts.does (AreWrites outputs) old new

-- Of any store: with what its files gave, the sessions were run alone. Then the files that they name were written, and the records, and nothing else;
-- and each session is reported. Where they went on from where they stood, their rests were run alone, and what they had shown before stands in front.
pub record HasRun {S : Type 0} (acts : StoreActs S) (config : Config) (options : RunOptions) (report : Report) (io : Streams) (old new : S) : Type 0 where
  pub parts : RunParts
  pub between : S
  -- no refusal is due: the numbers at the top are in range, and each fork stands
  pub faultless : config_fault config ≡ None
  pub read : HasReadInputs acts config options parts.system parts.inputs old between
  pub played : AreParts config options io parts
  -- the record of each session is a script of its own keys
  pub replays : All GivesItsKeysAgain parts.settled
  -- the keys of each session are in order, and what was played of it can go on from its saving
  pub orders : All (λ s. IsInOrder 0 s.keys) parts.settled
  pub savings : AreRestorable parts.system (rest_if parts.settled parts.from)
  pub wrote : HasWrittenOutputs acts (outputs_by options parts) between new
  pub reported : AreReportedOf parts.system parts.settled parts.from report

-- ---- refusals

-- a host lacks what so many forks, which may write so many pages, want: slots or numbers, or frames
abbrev pub IsShortFor : Host → (forks pages : ℕ) → OpenError → Type 0
IsShortFor h forks pages NoSlot = IsLackFor h forks pages fork.NoSlot
IsShortFor h forks pages NoFrames = IsLackFor h forks pages fork.NoFrames
IsShortFor h forks pages _ = ⊥

-- a session that begins so is refused for this reason, and `here` holds; or it is not, and what follows holds of the host with it
abbrev pub IsRefusedOr : Host → StartInput → StartFault → (here : Type 0) → (Host → Type 0) → Type 0
IsRefusedOr h (Opens cpu quota drives) fault here next =
    (o : Opening) × IsOpening cpu quota drives o
    × (((option_map Unopened (refusal_of h o) ≡ Some fault) × here) ⊎ ((refusal_of h o ≡ None) × next (with_opened h o)))
IsRefusedOr h (Forks parent at) fault here next = next h
IsRefusedOr h (Restores x) fault here next =
    ((restoring_fault h x ≡ Some fault) × here) ⊎ ((restoring_fault h x ≡ None) × next (with_added h x.state))

-- the one at this place is forked
pub record IsForkAt (starts : List StartInput) (place : ℕ) : Type 0 where
  pub parent : ℕ
  pub at : ℕ
  pub there : slice_get starts place ≡ Some (Forks parent at)

-- how many are forked before a place, and how many pages these may write
abbrev pub forks_before : List StartInput → (place : ℕ) → ℕ
forks_before starts place = forks_in (take place starts)

abbrev pub pages_before : List StartInput → (place : ℕ) → ℕ
pages_before starts place = sum_by (pages_by starts) (take place starts)

-- The one at this place is the first that is forked for which a host has no room: there is room for those before it, and with it the host lacks this.
-- Slots are counted before frames.
pub record IsFirstShort (all : List StartInput) (h : Host) (fault : OpenError) (place : ℕ) : Type 0 where
  pub fork : IsForkAt all place
  pub before : HasRoomForForks h (forks_before all place) (pages_before all place)
  pub short : IsShortFor h (forks_before all (place + 1)) (pages_before all (place + 1)) fault
  pub order : fault ≡ NoFrames → length h.slots + forks_before all (place + 1) ≤ 64

abbrev pub IsFirstUnforked : List StartInput → Host → StartFault → (place : ℕ) → Type 0
IsFirstUnforked all h (Unopened fault) place = IsFirstShort all h fault place
IsFirstUnforked all h Elsewhere place = ⊥

-- Of those that aren't forked one after another, the first of which stands at `from`, the first that is refused is refused for this reason, and it stands at
-- the place. Or all are accepted, and the first fork that lacks room stands there.
abbrev pub IsFirstRefused : (all : List StartInput) → Host → (from : ℕ) → List StartInput → StartFault → (place : ℕ) → Type 0
IsFirstRefused all h from [] fault place = IsFirstUnforked all h fault place
IsFirstRefused all h from (b ∷ bs) fault place = IsRefusedOr h b fault (place ≡ from) (λ next. IsFirstRefused all next (from + 1) bs fault place)

-- a name stands so in a refusal
abbrev pub IsShownAs : StoreName → List ℕ → Type 0
IsShownAs name shown = shown ≡ shown_of (chars name)

-- the name of the session at a place; where none is, no byte
abbrev pub name_if_any : Option SessionConfig → StoreName
name_if_any None = []
name_if_any (Some s) = string_bytes s.name

abbrev pub name_at : List SessionConfig → ℕ → StoreName
name_at sessions place = name_if_any (slice_get sessions place)

-- a host refuses one of the sessions that begin so for this reason, and that one's name is shown
pub record IsNamedRefusal (sessions : List SessionConfig) (h : Host) (starts : List StartInput) (fault : StartFault) (shown : List ℕ) : Type 0 where
  pub place : ℕ
  pub first : IsFirstRefused starts h 0 starts fault place
  pub told : IsShownAs (name_at sessions place) shown

-- the pages that all sessions may write: one that is forked as many as the one that it is forked from
abbrev pub pages_of_starts : List StartInput → ℕ
pages_of_starts starts = sum_by (λ b. (start_by starts b).quota) starts
