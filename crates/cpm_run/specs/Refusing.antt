-- When a run is refused, and what it leaves then. All of it is own.
use Rattle.std.specs.Prelude.{⊤, Bool, true, ◌≡◌, ◌≢◌, ◌⊎◌, ◌<◌, ◌+◌, ℕ, List, [], ◌∷◌, ◌++◌, length, map, slice_get}
use Rattle.std.specs.Prelude.{Option, Some, None, option_map, string_bytes}
use Rattle.cpm_batch.specs.Inputs.{IsInputFault, IsOpened, SessionInput, StartInput}
use Rattle.cpm_batch.specs.Reads.{StopsAtInput}
use Rattle.cpm_batch.specs.declared.error.ReadError.{ReadError}
use Rattle.cpm_batch.specs.declared.error.ReadError.TheVariants as reading
use Rattle.cpm_config.specs.Rules.{is_opened, origin_view, place_of, session_view}
use Rattle.cpm_config.specs.declared.config.Config.{Config}
use Rattle.cpm_config.specs.declared.config.Origin.{Origin}
use Rattle.cpm_config.specs.declared.config.Origin.TheVariants as origin
use Rattle.cpm_config.specs.declared.config.SessionConfig.{SessionConfig}
use Rattle.cpm_config.specs.declared.fault.ConfigError.TheVariants.{Range}
use Rattle.cpm_geom.specs.Disk.{Disk}
use Rattle.cpm_machine.specs.MachineState.{MachineState}
use Rattle.cpm_machine.specs.declared.opening.OpenError.TheVariants.{NoFrames}
use Rattle.cpm_play.specs.Sitting.{IsPlayCut, sitting}
use Rattle.cpm_play.specs.declared.live.LiveError.{LiveError}
use Rattle.cpm_play.specs.declared.live.LiveError.TheVariants.{Unreadable, Unwritable, Unprinted, Unrecorded, OutOfMemory}
use Rattle.cpm_script.specs.Cues.{CueText, cue_text, cued_key_count}
use Rattle.cpm_script.specs.declared.cue.Cue.{Cue}
use Rattle.cpm_script.specs.Script.{most_keys}
use Rattle.cpm_slots.specs.Host.{new_host}
use Rattle.cpm_store.specs.Files.{StoreName, WhereTold}
use Rattle.cpm_store.specs.Log.{AreNoWrites, LogLeadsBy, StopsAfter}
use Rattle.cpm_store.specs.Writes.{NamedBytes, StopsAt}
use Rattle.cpm_run.specs.Run.{AllAccepted, AreParts, HasReadInputs, IsNamedRefusal, IsShownAs, RunParts, StoreActs, config_fault, outputs_by}
use Rattle.cpm_run.specs.Run.{pages_of_starts, starts_read}
use Rattle.cpm_run.specs.Settled.{AreSettled, AreUntouched, IsTypedIfAny, SessionPart, SettledSession, Streams, TypedSession, most_steps, opening_of, part_of}
use Rattle.cpm_run.specs.declared.error.RunError.{RunError}
use Rattle.cpm_run.specs.declared.error.RunError.TheVariants as refusal
use Rattle.cpm_run.specs.declared.error.StartFault.TheVariants.{Elsewhere, Unopened}
use Rattle.cpm_run.specs.declared.options.RunOptions.{RunOptions}

-- ---- before sessions are played

-- no session has the name of the one that is to be typed at
pub record IsNoSession (config : Config) (options : RunOptions) (shown : List ℕ) : Type 0 where
  pub name : StoreName
  pub asked : option_map (λ n. n.now) options.typed ≡ Some name
  pub none : place_of name (map session_view config.sessions.items) ≡ None
  pub told : IsShownAs name shown

abbrev pub IsForkOrigin : Origin → Type 0
IsForkOrigin (origin.Opened cpu quota drives) = ⊥
IsForkOrigin (origin.Forked parent at) = ⊤
IsForkOrigin (origin.Restored saving) = ⊥

-- the one of this name is forked
pub record IsForkedSession (config : Config) (options : RunOptions) (shown : List ℕ) : Type 0 where
  pub name : StoreName
  pub asked : option_map (λ n. n.now) options.typed ≡ Some name
  pub place : ℕ
  pub session : SessionConfig
  pub first : place_of name (map session_view config.sessions.items) ≡ Some place
  pub there : slice_get config.sessions.items place ≡ Some session
  pub forked : IsForkOrigin session.origin
  pub told : IsShownAs name shown

-- how it is refused where one is to type
abbrev pub IsPlaceRefusal : Config → RunOptions → RunError → Type 0
IsPlaceRefusal config options (refusal.NoSession shown) = IsNoSession config options shown.bytes
IsPlaceRefusal config options (refusal.NotOpened shown) = IsForkedSession config options shown.bytes
IsPlaceRefusal config options _ = ⊥

-- the place of the session that is to be typed at, where one is, which isn't forked
pub record IsTypedIn (config : Config) (name : List ℕ) (place : ℕ) : Type 0 where
  pub first : place_of name (map session_view config.sessions.items) ≡ Some place
  pub session : SessionConfig
  pub there : slice_get config.sessions.items place ≡ Some session
  pub opened : is_opened (origin_view session.origin) ≡ true

abbrev pub IsTypedPlaceOf : Config → Option (List ℕ) → Option ℕ → Type 0
IsTypedPlaceOf config None place = place ≡ None
IsTypedPlaceOf config (Some name) place = (n : ℕ) × (place ≡ Some n) × IsTypedIn config name n

abbrev pub IsTypedPlace : Config → RunOptions → Option ℕ → Type 0
IsTypedPlace config options place = IsTypedPlaceOf config (option_map (λ n. n.now) options.typed) place

-- Nothing is refused before anything is read: the numbers at the top and the forks stand, and where one is to type, there is such a session, and it is opened.
pub record IsRunnable (config : Config) (options : RunOptions) : Type 0 where
  pub faultless : config_fault config ≡ None
  pub place : Option ℕ
  pub typable : IsTypedPlace config options place

-- ---- while they are settled

-- how a session that begins so is cut short while one types, and what its streams then are
pub record IsSessionCut (system : Disk) (start : StartInput) (said : List CueText) (io : Streams) (e : LiveError) : Type 0 where
  pub cues : List Cue
  pub says : map cue_text cues ≡ said
  pub now : MachineState
  pub cut : IsPlayCut (sitting io.unread.is_patient system (opening_of start) most_steps cues) now io.before io.written io.unrecorded io.record_now
      io.unread io.left e

-- how it is refused then; where memory is refused, either before anybody is heard, or while it was played
abbrev pub IsTypingRefusal : Disk → StartInput → List CueText → Streams → RunError → Type 0
IsTypingRefusal system start said io (refusal.InputUnreadable reason) = IsSessionCut system start said io (Unreadable reason)
IsTypingRefusal system start said io (refusal.OutputUnwritable reason) = IsSessionCut system start said io (Unwritable reason)
IsTypingRefusal system start said io (refusal.ListUnwritable reason) = IsSessionCut system start said io (Unprinted reason)
IsTypingRefusal system start said io (refusal.RecordUnwritable reason) = IsSessionCut system start said io (Unrecorded reason)
IsTypingRefusal system start said io refusal.OutOfMemory = AreUntouched io ⊎ IsSessionCut system start said io OutOfMemory
IsTypingRefusal system start said io _ = ⊥

-- all openings were accepted, and then the session at which one typed was cut short
pub record IsTypingCut (config : Config) (options : RunOptions) (io : Streams) (system : Disk) (inputs : List SessionInput) (e : RunError) : Type 0 where
  pub accepted : AllAccepted (starts_read inputs) (new_host system config.frames) (starts_read inputs)
  pub name : StoreName
  pub asked : option_map (λ n. n.now) options.typed ≡ Some name
  pub place : ℕ
  pub input : SessionInput
  pub first : place_of name (map session_view config.sessions.items) ≡ Some place
  pub there : slice_get inputs place ≡ Some input
  pub opened : IsOpened input.start
  pub cut : IsTypingRefusal system input.start input.said io e

-- a session has too many keys, with those that the one had before that it is forked from
pub record IsOverfull (p : SessionPart) (i : SessionInput) (shown : List ℕ) : Type 0 where
  pub over : most_keys < length p.before + cued_key_count p.said
  pub told : IsShownAs (string_bytes i.session.name) shown

-- the first sessions were settled, and the next one has too many keys
pub record IsOverfullIn (system : Disk) (stops_idle : Bool) (typed : Option TypedSession) (sessions : List SessionConfig) (inputs : List SessionInput)
    (shown : List ℕ) : Type 0 where
  pub done : List SessionInput
  pub input : SessionInput
  pub rest : List SessionInput
  pub order : inputs ≡ done ++ input ∷ rest
  pub settled : List SettledSession
  pub before : AreSettled system stops_idle typed sessions [] done settled
  pub over : IsOverfull (part_of typed sessions settled input) input shown

-- the keys of a session are no more than a script can have: nobody types, and no session is played by a recording
abbrev pub IsLimited : RunOptions → Option TypedSession → Type 0
IsLimited options typed = (typed ≡ None) × (options.replays.now ≡ [])

-- all openings were accepted; and nobody typed, and no session is played by a recording
pub record HasTooManyKeys (config : Config) (options : RunOptions) (io : Streams) (system : Disk) (inputs : List SessionInput) (shown : List ℕ) : Type 0 where
  pub accepted : AllAccepted (starts_read inputs) (new_host system config.frames) (starts_read inputs)
  pub typed : Option TypedSession
  pub heard : IsTypedIfAny system config.sessions.items (option_map (λ n. n.now) options.typed) inputs io typed
  pub limited : IsLimited options typed
  pub over : IsOverfullIn system options.stops_idle typed config.sessions.items inputs shown

-- all openings were accepted, and what was typed was typed
pub record HasBeenTyped (config : Config) (options : RunOptions) (io : Streams) (system : Disk) (inputs : List SessionInput) : Type 0 where
  pub accepted : AllAccepted (starts_read inputs) (new_host system config.frames) (starts_read inputs)
  pub typed : Option TypedSession
  pub heard : IsTypedIfAny system config.sessions.items (option_map (λ n. n.now) options.typed) inputs io typed

-- How a run is refused once all was read: for the first session that is refused, or because there is no room for the forks, before a key is read; or
-- then while one types, or for a session with too many keys; or if out of memory, before a key is read, while one types, or after it.
abbrev pub IsSettleRefusal : Config → RunOptions → Streams → Disk → List SessionInput → RunError → Type 0
IsSettleRefusal config options io system inputs (refusal.SessionRefused name fault) =
    (fault ≢ NoFrames) × IsNamedRefusal config.sessions.items (new_host system config.frames) (starts_read inputs) (Unopened fault) name.bytes
    × AreUntouched io
IsSettleRefusal config options io system inputs (refusal.SavedElsewhere name) =
    IsNamedRefusal config.sessions.items (new_host system config.frames) (starts_read inputs) Elsewhere name.bytes × AreUntouched io
IsSettleRefusal config options io system inputs (refusal.FramesExceeded name quotas frames) =
    (quotas ≡ pages_of_starts (starts_read inputs)) × (frames ≡ config.frames)
    × IsNamedRefusal config.sessions.items (new_host system config.frames) (starts_read inputs) (Unopened NoFrames) name.bytes × AreUntouched io
IsSettleRefusal config options io system inputs (refusal.InputUnreadable reason) =
    IsTypingCut config options io system inputs (refusal.InputUnreadable reason)
IsSettleRefusal config options io system inputs (refusal.OutputUnwritable reason) =
    IsTypingCut config options io system inputs (refusal.OutputUnwritable reason)
IsSettleRefusal config options io system inputs (refusal.ListUnwritable reason) =
    IsTypingCut config options io system inputs (refusal.ListUnwritable reason)
IsSettleRefusal config options io system inputs (refusal.RecordUnwritable reason) =
    IsTypingCut config options io system inputs (refusal.RecordUnwritable reason)
IsSettleRefusal config options io system inputs (refusal.TooManyKeys shown) = HasTooManyKeys config options io system inputs shown.bytes
IsSettleRefusal config options io system inputs refusal.OutOfMemory =
    AreUntouched io ⊎ IsTypingCut config options io system inputs refusal.OutOfMemory ⊎ HasBeenTyped config options io system inputs
IsSettleRefusal config options io system inputs _ = ⊥

-- ---- where files are written

-- the one at this place stands so in a refusal
pub record IsOutputAt (outputs : List NamedBytes) (place : ℕ) (shown : List ℕ) : Type 0 where
  pub output : NamedBytes
  pub there : slice_get outputs place ≡ Some output
  pub told : IsShownAs output.0 shown

-- how writing is refused: for the file at a place, which is named, or if out of memory
abbrev pub IsWriteRefusal : List NamedBytes → (place : ℕ) → RunError → Type 0
IsWriteRefusal outputs place (refusal.WriteFault shown) = IsOutputAt outputs place shown.bytes
IsWriteRefusal outputs place refusal.OutOfMemory = ⊤
IsWriteRefusal outputs place _ = ⊥

-- ---- all of it

-- No call was made of the store, and no key was read.
pub record LeavesAll {S : Type 0} (io : Streams) (old new : S) : Type 0 where
  pub same : new ≡ old
  pub untouched : AreUntouched io

-- No call was a write, and no key was read.
pub record LeavesUnwritten {S : Type 0} (acts : StoreActs S) (io : Streams) (old new : S) : Type 0 where
  pub same : acts.files new ≡ acts.files old
  pub calls : LogLeadsBy acts.does AreNoWrites old new
  pub untouched : AreUntouched io

-- What the configuration needs was read up to this fault, by what the files hold, and by what the calls gave. These reads were all calls; and no key was read.
pub record FailsAtInput {S : Type 0} (acts : StoreActs S) (config : Config) (options : RunOptions) (io : Streams) (old new : S) (e : ReadError) : Type 0 where
  pub held : IsInputFault (acts.files old) config options.replays.now e
  pub same : acts.files new ≡ acts.files old
  pub calls : LogLeadsBy acts.does (StopsAtInput config options.replays.now e) old new
  pub untouched : AreUntouched io

-- All of it was read, no other call was made, and by what was read the run is refused so.
pub record StopsAfterReading {S : Type 0} (acts : StoreActs S) (config : Config) (options : RunOptions) (io : Streams) (old new : S) (e : RunError)
    : Type 0 where
  pub system : Disk
  pub inputs : List SessionInput
  pub read : HasReadInputs acts config options system inputs old new
  pub refused : IsSettleRefusal config options io system inputs e

-- All was read, and the sessions were played. Then the files before one were written as they should be, and writing that one failed. No other name has changed,
-- and no other call was made.
pub record StopsWriting {S : Type 0} (acts : StoreActs S) (config : Config) (options : RunOptions) (io : Streams) (old new : S) (e : RunError) : Type 0 where
  pub parts : RunParts
  pub between : S
  pub read : HasReadInputs acts config options parts.system parts.inputs old between
  pub played : AreParts config options io parts
  pub place : ℕ
  pub hold : WhereTold (acts.files between) (acts.files new) (StopsAt (outputs_by options parts) place)
  pub calls : LogLeadsBy acts.does (StopsAfter (outputs_by options parts) place) between new
  pub why : IsWriteRefusal (outputs_by options parts) place e

-- How a run is refused, of any store: for a number at the top or a fork, and then for a session that can't be typed at, before anything is read; then for the
-- first fault of what is needed; then for the first session whose opening is refused, or because there is no room for the forks. Nothing was written then, and
-- no key was read. Afterwards it may be cut short while one types, or a forked session may have too many keys; then too nothing was written. And a file can't
-- be written. It may be out of memory before a key is read; once all was read, when nothing was written; or where files are written.
abbrev pub IsRunRefusal : {S : Type 0} → StoreActs S → Config → RunOptions → Streams → S → S → RunError → Type 0
IsRunRefusal {S} acts config options io old new (refusal.ConfigRefused (Range place)) = (config_fault config ≡ Some place) × LeavesAll io old new
IsRunRefusal {S} acts config options io old new (refusal.NoSession name) =
    (config_fault config ≡ None) × IsNoSession config options name.bytes × LeavesAll io old new
IsRunRefusal {S} acts config options io old new (refusal.NotOpened name) =
    (config_fault config ≡ None) × IsForkedSession config options name.bytes × LeavesAll io old new
IsRunRefusal {S} acts config options io old new (refusal.FileRefused e) = IsRunnable config options × FailsAtInput acts config options io old new e
IsRunRefusal {S} acts config options io old new (refusal.WriteFault name) =
    IsRunnable config options × StopsWriting acts config options io old new (refusal.WriteFault name)
IsRunRefusal {S} acts config options io old new refusal.OutOfMemory =
    IsRunnable config options
    × (LeavesUnwritten acts io old new ⊎ StopsAfterReading acts config options io old new refusal.OutOfMemory
    ⊎ StopsWriting acts config options io old new refusal.OutOfMemory)
IsRunRefusal {S} acts config options io old new e = IsRunnable config options × StopsAfterReading acts config options io old new e

-- a device failed
abbrev pub IsDeviceFault : RunError → Type 0
IsDeviceFault (refusal.FileRefused (reading.File name)) = ⊤
IsDeviceFault (refusal.WriteFault name) = ⊤
IsDeviceFault _ = ⊥
