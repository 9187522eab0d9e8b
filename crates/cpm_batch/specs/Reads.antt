-- What is read for the sessions of a configuration, as the calls of a store in their order. All of it is own.
use Rattle.std.specs.Prelude.{◌≡◌, ◌≤◌, ◌⊎◌, ℕ, List, [], ◌∷◌, ◌++◌, length, map, chars}
use Rattle.std.specs.Prelude.{Option, Some, None, IsSomeAnd, Result, Ok, Err, IfErr, OnOk, String, string_bytes}
use Rattle.std.specs.declared.alloc.Global.{Global}
use Rattle.cpm_shown.specs.Shown.{shown_of}
use Rattle.cpm_config.specs.declared.config.Config.{Config}
use Rattle.cpm_config.specs.declared.config.Origin.{Origin}
use Rattle.cpm_config.specs.declared.config.Origin.TheVariants as origin
use Rattle.cpm_config.specs.declared.config.SessionConfig.{SessionConfig}
use Rattle.cpm_flags.specs.declared.regs.Cpu.{Cpu}
use Rattle.cpm_geom.specs.Disk.{Disk}
use Rattle.cpm_geom.specs.Geometry.{format_of_length}
use Rattle.cpm_machine.specs.Saving.{Saving, restored}
use Rattle.cpm_saved.specs.declared.part.SavingDamage.{SavingDamage}
use Rattle.cpm_script.specs.Cues.{CueText, cues}
use Rattle.cpm_script.specs.Fork.{forked_cues}
use Rattle.cpm_script.specs.declared.fault.LineFault.{LineFault}
use Rattle.cpm_store.specs.Files.{CountsFailure, StoreFiles, StoreName}
use Rattle.cpm_store.specs.Log.{StoreAccess, AreNoWrites, Gave, Missed, LogLeadsBy, Then}
use Rattle.cpm_batch.specs.Held.{IsImage}
use Rattle.cpm_batch.specs.Inputs.{CanFork, ForkOf, Forks, ForkedScriptIn, ImageIn, IsFileFault, IsForkFault, IsParent, Need, Opens, RecordingIn}
use Rattle.cpm_batch.specs.Inputs.{Restores, SavingIn, ScriptIn, SessionInput, known_of, needed_name, needs_of, own_count}
use Rattle.cpm_batch.specs.Savings.{AreAllNamed, IsMisnamed, names_wanted}
use Rattle.cpm_batch.specs.Sources.{IsRecordingOf, NoSource, RecordingFile, ScriptFile, SourceOfKeys, key_source, recording_fault}
use Rattle.cpm_batch.specs.declared.error.ReadError.{ReadError}
use Rattle.cpm_batch.specs.declared.error.ReadError.TheVariants.{File, Image, OutOfMemory, SavedDrives, Script}
use Rattle.cpm_batch.specs.declared.error.ReadError.TheVariants as error
use Rattle.cpm_batch.specs.declared.source.Replay.{Replay}

-- one read, in which the file gave the image of the disk
pub record IsImageRead (name : StoreName) (d : Disk) (log : List StoreAccess) : Type 0 where
  pub bytes : List ℕ
  pub image : IsImage bytes d
  pub calls : log ≡ Gave name bytes ∷ []

-- one read, in which the file gave a key script that says this
pub record IsScriptRead (name : StoreName) (said : List CueText) (log : List StoreAccess) : Type 0 where
  pub text : List ℕ
  pub read : cues text ≡ Ok said
  pub calls : log ≡ Gave name text ∷ []

-- one read, in which the file gave a key script that says this for a session that is forked at this count of steps, after so many keys that its parent had
-- before
pub record IsForkedScriptRead (name : StoreName) (at before : ℕ) (said : List CueText) (log : List StoreAccess) : Type 0 where
  pub text : List ℕ
  pub read : forked_cues at before text ≡ Ok said
  pub calls : log ≡ Gave name text ∷ []

-- one read, in which the file gave a recording that says this, all of it at this count or later
pub record IsRecordingRead (name : StoreName) (at : ℕ) (said : List CueText) (log : List StoreAccess) : Type 0 where
  pub text : List ℕ
  pub read : IsRecordingOf at text said
  pub calls : log ≡ Gave name text ∷ []

-- one read, in which the file gave a saving, with as many drives as files are named for their images, where any are
pub record IsSavingRead (name : StoreName) (names : Option ℕ) (x : Saving) (log : List StoreAccess) : Type 0 where
  pub bytes : List ℕ
  pub read : restored bytes ≡ Ok x
  pub named : AreAllNamed names x.state
  pub calls : log ≡ Gave name bytes ∷ []

-- a read of each of these files in order, in which it gave the image of its disk
abbrev pub AreImagesRead : List (String Global) → List Disk → List StoreAccess → Type 0
AreImagesRead [] [] log = log ≡ []
AreImagesRead (name ∷ names) (d ∷ ds) log = Then (IsImageRead (string_bytes name) d) (AreImagesRead names ds) log
AreImagesRead [] (d ∷ ds) log = ⊥
AreImagesRead (name ∷ names) [] log = ⊥

-- a read of the script, or of the recording in place of it, if there is one, in which it said this
abbrev pub IsSaidRead : SourceOfKeys → List CueText → List StoreAccess → Type 0
IsSaidRead NoSource said log = (said ≡ []) × (log ≡ [])
IsSaidRead (ScriptFile name) said log = IsScriptRead name said log
IsSaidRead (RecordingFile name) said log = IsRecordingRead name 0 said log

-- a read of the script of a forked session, if there is one, in which it said this after so many keys before the fork; or of the recording in place of it
abbrev pub IsForkedSaidRead : SourceOfKeys → (at before : ℕ) → List CueText → List StoreAccess → Type 0
IsForkedSaidRead NoSource at before said log = (said ≡ []) × (log ≡ [])
IsForkedSaidRead (ScriptFile name) at before said log = IsForkedScriptRead name at before said log
IsForkedSaidRead (RecordingFile name) at before said log = IsRecordingRead name at said log

-- that of a session that is forked from this one, at this count that begins where this one's counts begin in the run
abbrev pub IsSaidReadFrom : List Replay → SessionConfig → (parent : SessionInput) → (at : ℕ) → List CueText → List StoreAccess → Type 0
IsSaidReadFrom replays s parent at said log = IsForkedSaidRead (key_source replays s) at (known_of replays at parent) said log

-- the reads of a session that is opened: its drives, then its script, or the recording in place of that
pub record IsOpenedRead (replays : List Replay) (cpu : Cpu) (quota : ℕ) (names : List (String Global)) (i : SessionInput) (log : List StoreAccess)
    : Type 0 where
  pub drives : List Disk
  pub start : i.start ≡ Opens cpu quota drives
  pub calls : Then (AreImagesRead names drives) (IsSaidRead (key_source replays i.session) i.said) log

-- those of a session that goes on from a saving: that, then its script, or the recording in place of it
pub record IsRestoredRead (replays : List Replay) (name : StoreName) (i : SessionInput) (log : List StoreAccess) : Type 0 where
  pub saving : Saving
  pub start : i.start ≡ Restores saving
  pub calls : Then (IsSavingRead name (names_wanted i.session) saving) (IsSaidRead (key_source replays i.session) i.said) log

-- those of a session that is forked, after what was read for the sessions before it: its script, or the recording in place of that
pub record IsForkedRead (replays : List Replay) (before : List SessionInput) (name : StoreName) (at : ℕ) (i : SessionInput) (log : List StoreAccess)
    : Type 0 where
  pub place : ℕ
  pub parent : SessionInput
  pub found : IsParent before name place parent
  pub fits : CanFork parent.start at (names_wanted i.session)
  pub start : i.start ≡ Forks place (own_count parent at)
  pub calls : IsSaidReadFrom replays i.session parent (own_count parent at) i.said log

-- those of a session that begins so
abbrev pub IsInputReadOf : List Replay → (before : List SessionInput) → Origin → SessionInput → List StoreAccess → Type 0
IsInputReadOf replays before (origin.Opened cpu quota drives) i log = IsOpenedRead replays cpu quota drives.items i log
IsInputReadOf replays before (origin.Forked parent at) i log = IsForkedRead replays before (string_bytes parent) at i log
IsInputReadOf replays before (origin.Restored saving) i log = IsRestoredRead replays (string_bytes saving) i log

abbrev pub IsInputRead : List Replay → (before : List SessionInput) → SessionInput → List StoreAccess → Type 0
IsInputRead replays before i log = IsInputReadOf replays before i.session.origin i log

-- those of each session in order, after what was read for those before them
abbrev pub AreInputsRead : List Replay → (before is : List SessionInput) → List StoreAccess → Type 0
AreInputsRead replays before [] log = log ≡ []
AreInputsRead replays before (i ∷ is) log = Then (IsInputRead replays before i) (AreInputsRead replays (before ++ i ∷ []) is) log

-- those of a configuration: the system drive, then the sessions in its order
pub record AreRead (config : Config) (replays : List Replay) (system : Disk) (inputs : List SessionInput) (log : List StoreAccess) : Type 0 where
  pub sessions : map (λ i. i.session) inputs ≡ config.sessions.items
  pub calls : Then (IsImageRead (string_bytes config.system) system) (AreInputsRead replays [] inputs) log

-- ---- where reading is given up

-- one read, in which the file gave so many bytes, which no image has
pub record IsNoImageRead (name : StoreName) (count : ℕ) (log : List StoreAccess) : Type 0 where
  pub bytes : List ℕ
  pub size : count ≡ length bytes
  pub format : format_of_length (length bytes) ≡ None
  pub calls : log ≡ Gave name bytes ∷ []

-- one read, in which the file gave a text whose first line with a fault has this number
pub record IsNoScriptRead (name : StoreName) (line : ℕ) (fault : LineFault) (log : List StoreAccess) : Type 0 where
  pub text : List ℕ
  pub read : cues text ≡ Err (line, fault)
  pub calls : log ≡ Gave name text ∷ []

-- the same of a session that is forked at this count of steps, after so many keys
pub record IsNoForkedScriptRead (name : StoreName) (at before line : ℕ) (fault : LineFault) (log : List StoreAccess) : Type 0 where
  pub text : List ℕ
  pub read : forked_cues at before text ≡ Err (line, fault)
  pub calls : log ≡ Gave name text ∷ []

-- the same of a recording whose keys come at this count or later
pub record IsNoRecordingRead (name : StoreName) (at line : ℕ) (fault : LineFault) (log : List StoreAccess) : Type 0 where
  pub text : List ℕ
  pub read : recording_fault at text ≡ Some (line, fault)
  pub calls : log ≡ Gave name text ∷ []

-- one read, in which the file gave bytes that are no saving, for this part of them
pub record IsNoSavingRead (name : StoreName) (damage : SavingDamage) (log : List StoreAccess) : Type 0 where
  pub bytes : List ℕ
  pub read : restored bytes ≡ Err damage
  pub calls : log ≡ Gave name bytes ∷ []

-- one read, in which the file gave a saving with this many drives, and another number of files is named for their images
pub record IsMisnamedRead (name : StoreName) (names : Option ℕ) (drives count : ℕ) (log : List StoreAccess) : Type 0 where
  pub bytes : List ℕ
  pub saving : Saving
  pub read : restored bytes ≡ Ok saving
  pub misnamed : IsMisnamed names saving.state drives count
  pub calls : log ≡ Gave name bytes ∷ []

-- one read, in which the file held what is needed; none for a fork, which can be made
abbrev pub IsNeedRead : Need → List StoreAccess → Type 0
IsNeedRead (ImageIn name) log = (d : Disk) × IsImageRead name d log
IsNeedRead (ScriptIn name) log = (said : List CueText) × IsScriptRead name said log
IsNeedRead (ForkedScriptIn name at before) log = (said : List CueText) × IsForkedScriptRead name at before said log
IsNeedRead (RecordingIn name at) log = (said : List CueText) × IsRecordingRead name at said log
IsNeedRead (SavingIn name session names) log = (x : Saving) × IsSavingRead name names x log
IsNeedRead (ForkOf session parent at names) log = CanFork parent at names × (log ≡ [])

-- one read, which failed, or in which the file didn't hold it, as the error says; none for a fork, which can't be made
abbrev pub IsFaultRead : Need → ReadError → List StoreAccess → Type 0
IsFaultRead need (File shown) log = IsSomeAnd (needed_name need) (λ name. (shown.bytes ≡ shown_of (chars name)) × (log ≡ Missed name ∷ []))
IsFaultRead (ImageIn name) (Image shown count) log = (shown.bytes ≡ shown_of (chars name)) × IsNoImageRead name count log
IsFaultRead (ScriptIn name) (Script shown line fault) log = (shown.bytes ≡ shown_of (chars name)) × IsNoScriptRead name line fault log
IsFaultRead (ForkedScriptIn name at before) (Script shown line fault) log =
    (shown.bytes ≡ shown_of (chars name)) × IsNoForkedScriptRead name at before line fault log
IsFaultRead (RecordingIn name at) (Script shown line fault) log = (shown.bytes ≡ shown_of (chars name)) × IsNoRecordingRead name at line fault log
IsFaultRead (SavingIn name session names) (error.Saving refusal) log =
    (refusal.name.bytes ≡ shown_of (chars name)) × IsNoSavingRead name refusal.damage log
IsFaultRead (SavingIn name session names) (SavedDrives shown drives count) log =
    (shown.bytes ≡ shown_of (chars session)) × IsMisnamedRead name names drives count log
IsFaultRead (ForkOf session parent at names) e log = IsForkFault session parent at names e × (log ≡ [])
IsFaultRead need _ log = ⊥

-- a read of each of the needs in order, up to the first that isn't met, and none after it
abbrev pub StopsAtFault : List Need → ReadError → List StoreAccess → Type 0
StopsAtFault [] e log = ⊥
StopsAtFault (need ∷ needs) e log = IsFaultRead need e log ⊎ Then (IsNeedRead need) (StopsAtFault needs e) log

-- the reads of sessions in order, each after what was read for those before it, up to the first need that isn't met, and none after it
abbrev pub StopsAtSession : List Replay → (before : List SessionInput) → List SessionConfig → ReadError → List StoreAccess → Type 0
StopsAtSession replays before [] e log = ⊥
StopsAtSession replays before (s ∷ ss) e log =
    StopsAtFault (needs_of replays before s) e log
    ⊎ ((i : SessionInput) × (i.session ≡ s) × Then (IsInputRead replays before i) (StopsAtSession replays (before ++ i ∷ []) ss e) log)

-- the reads of a configuration, the system drive and then its sessions, up to the first need that isn't met, and none after it
abbrev pub StopsAtInput : Config → List Replay → ReadError → List StoreAccess → Type 0
StopsAtInput config replays e log =
    IsFaultRead (ImageIn (string_bytes config.system)) e log
    ⊎ Then (IsNeedRead (ImageIn (string_bytes config.system))) (StopsAtSession replays [] config.sessions.items e) log

-- the calls of reading that is refused: if out of memory, none that writes; else those up to the first fault
abbrev pub StopsAmongNeeds : List Need → ReadError → List StoreAccess → Type 0
StopsAmongNeeds needs e log = ((e ≡ OutOfMemory) × AreNoWrites log) ⊎ StopsAtFault needs e log

abbrev pub StopsAmongSessions : List Replay → (before : List SessionInput) → List SessionConfig → ReadError → List StoreAccess → Type 0
StopsAmongSessions replays before sessions e log = ((e ≡ OutOfMemory) × AreNoWrites log) ⊎ StopsAtSession replays before sessions e log

abbrev pub StopsReading : Config → List Replay → ReadError → List StoreAccess → Type 0
StopsReading config replays e log = ((e ≡ OutOfMemory) × AreNoWrites log) ⊎ StopsAtInput config replays e log

-- ---- what reading leaves of the store

-- a store that was only read: its files hold what they held, nothing was written, and a failure is counted where a file couldn't be read
pub record OnlyRead {S X : Type 0} (does : S → StoreAccess → S → Type 0) (files : S → Option StoreFiles) (failed : S → ℕ)
    (result : Result X ReadError) (old new : S) : Type 0 where
  -- where a file couldn't be read, a failure was counted
  pub device : IfErr result (λ e. IsFileFault e → CountsFailure (failed old) (failed new))
  -- the files hold what they held, where the store tells it
  pub same : files new ≡ files old
  -- none of the calls was a write
  pub unwritten : LogLeadsBy does AreNoWrites old new
  -- where all was read, no failure was counted
  pub uncounted : OnOk result (failed new ≡ failed old)
  -- nor was one where memory was refused
  pub memory : IfErr result (λ e. e ≡ OutOfMemory → failed new ≡ failed old)
  -- and none that was counted before is forgotten
  pub counted : failed old ≤ failed new
