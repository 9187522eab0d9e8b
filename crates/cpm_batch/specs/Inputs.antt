-- What the sessions of a configuration need, and what is read for them. All of it is own.
use Rattle.std.specs.Prelude.{⊤, ◌≡◌, ◌≤◌, ◌<◌, ◌⊎◌, ◌-◌, ℕ, is_some, if◌then◌else◌, List, [], ◌∷◌, ◌++◌, length, map, chars, slice_get}
use Rattle.std.specs.Prelude.{Option, Some, None, IsSomeAnd, option_and_then, option_map, String, string_bytes}
use Rattle.std.specs.Option.{option_map_or}
use Rattle.std.specs.declared.alloc.Global.{Global}
use Rattle.cpm_shown.specs.Shown.{shown_of}
use Rattle.cpm_config.specs.Rules.{place_of, session_view}
use Rattle.cpm_config.specs.declared.config.Config.{Config}
use Rattle.cpm_config.specs.declared.config.Origin.{Origin}
use Rattle.cpm_config.specs.declared.config.Origin.TheVariants as origin
use Rattle.cpm_config.specs.declared.config.SessionConfig.{SessionConfig}
use Rattle.cpm_flags.specs.declared.regs.Cpu.{Cpu}
use Rattle.cpm_geom.specs.Disk.{Disk}
use Rattle.cpm_machine.specs.Saving.{Saving}
use Rattle.cpm_refusals.specs.declared.code.RefusalCode.{RefusalCode}
use Rattle.cpm_refusals.specs.declared.code.RefusalCode.TheVariants as code
use Rattle.cpm_script.specs.Cues.{Awaited, Counted, CueText, Pressed, all_said}
use Rattle.cpm_script.specs.Fork.{keys_before}
use Rattle.cpm_script.specs.declared.script.Key.{Key}
use Rattle.cpm_store.specs.Files.{StoreFiles, StoreName}
use Rattle.cpm_batch.specs.declared.error.ReadError.{ReadError}
use Rattle.cpm_batch.specs.declared.error.ReadError.TheVariants.{File, ForkedEarly, Image, OutOfMemory, SavedDrives, Script}
use Rattle.cpm_batch.specs.declared.error.ReadError.TheVariants as error
use Rattle.cpm_batch.specs.declared.input.Input.{Input}
use Rattle.cpm_batch.specs.declared.input.Start.{Start}
use Rattle.cpm_batch.specs.declared.input.Start.TheVariants as start
use Rattle.cpm_batch.specs.declared.source.Replay.{Replay}
use Rattle.cpm_batch.specs.Held.{IsForkedScriptIn, IsImageIn, IsMisnamedIn, IsNoForkedScriptIn, IsNoImageIn, IsNoRecordingIn, IsNoSavingIn}
use Rattle.cpm_batch.specs.Held.{IsNoScriptIn, IsRecordingIn, IsSavingIn, IsScriptIn}
use Rattle.cpm_batch.specs.Savings.{AreAllNamed, IsMisnamed, names_wanted, saving_view}
use Rattle.cpm_batch.specs.Sources.{NoSource, RecordingFile, ScriptFile, SourceOfKeys, key_source, replay_of}

-- ---- what is read for a session

-- how a session begins: it is opened with images of its drives, A first; or forked from the session at an earlier place, after this many of the steps that
-- that one executes in the run; or it goes on from a saving
pub data StartInput : Type 0 where
  Opens : (cpu : Cpu) (quota : ℕ) (drives : List Disk) → StartInput
  Forks : (parent at : ℕ) → StartInput
  Restores : (saving : Saving) → StartInput

abbrev pub start_view : Start → StartInput
start_view (start.Opened cpu quota drives) = Opens cpu quota drives.items
start_view (start.Forked parent at) = Forks parent at
start_view (start.Restored saved) = Restores (saving_view saved)

-- the count of steps that a session was saved at, where it goes on from a saving; its counts in the run begin there
abbrev pub saved_count : StartInput → ℕ
saved_count (Opens cpu quota drives) = 0
saved_count (Forks parent at) = 0
saved_count (Restores saving) = saving.state.count

pub record SessionInput : Type 0 where
  pub session : SessionConfig
  pub start : StartInput
  -- the most steps that it executes in the run; of a forked session its parent's before the fork are among them
  pub steps : ℕ
  -- what its own script says, or the recording in place of that
  pub said : List CueText

abbrev pub given : Input → SessionInput
given i = record { session = i.session.now; start = start_view i.start; steps = i.steps; said = all_said i.cues }

-- the keys of a script, each with its count; none where one of its lines waits, before it is played
abbrev pub timed_keys : List CueText → Option (List Key)
timed_keys [] = Some []
timed_keys (Counted key ∷ cs) = option_map (λ keys. key ∷ keys) (timed_keys cs)
timed_keys (Awaited text ∷ cs) = None
timed_keys (Pressed byte ∷ cs) = None

-- how many keys a script is known to have before a count
abbrev pub known_before : ℕ → List CueText → ℕ
known_before at said = option_map_or (λ keys. length (keys_before at keys)) (timed_keys said) 0

-- how many keys a session is known to have before a count; those of a recording aren't counted, which may have any number
abbrev pub known_of : List Replay → ℕ → SessionInput → ℕ
known_of replays at i = if is_some (replay_of replays (string_bytes i.session.name)) then 0 else known_before at i.said

-- ---- for one that is opened

-- the disks are the images in these files, in order
abbrev pub AllImages : Option StoreFiles → List (String Global) → List Disk → Type 0
AllImages files [] [] = ⊤
AllImages files (name ∷ names) (d ∷ ds) = IsImageIn files (string_bytes name) d × AllImages files names ds
AllImages files [] (d ∷ ds) = ⊥
AllImages files (name ∷ names) [] = ⊥

-- this is said by the script, or by the recording in place of it, if there is one
abbrev pub HasSaid : Option StoreFiles → SourceOfKeys → List CueText → Type 0
HasSaid files NoSource said = said ≡ []
HasSaid files (ScriptFile name) said = IsScriptIn files name said
HasSaid files (RecordingFile name) said = IsRecordingIn files name 0 said

pub record IsOpenedInput (files : Option StoreFiles) (replays : List Replay) (cpu : Cpu) (quota : ℕ) (names : List (String Global)) (i : SessionInput)
    : Type 0 where
  pub drives : List Disk
  pub start : i.start ≡ Opens cpu quota drives
  pub steps : i.steps ≡ i.session.steps
  pub images : AllImages files names drives
  pub said : HasSaid files (key_source replays i.session) i.said

-- ---- for one that goes on from a saving

-- of its steps those before the saving are executed already; its script counts from the saving
pub record IsRestoredInput (files : Option StoreFiles) (replays : List Replay) (name : StoreName) (i : SessionInput) : Type 0 where
  pub saving : Saving
  pub start : i.start ≡ Restores saving
  pub steps : i.steps ≡ i.session.steps - saving.state.count
  pub read : IsSavingIn files name (names_wanted i.session) saving
  pub said : HasSaid files (key_source replays i.session) i.said

-- ---- for one that is forked, after what was read for the sessions before it

-- it is not forked
abbrev pub IsOpened : StartInput → Type 0
IsOpened (Opens cpu quota drives) = ⊤
IsOpened (Forks parent at) = ⊥
IsOpened (Restores saving) = ⊤

-- as many files are named as a session has drives that goes on from a saving, where any are
abbrev pub AreDrivesNamed : (names : Option ℕ) → StartInput → Type 0
AreDrivesNamed names (Opens cpu quota drives) = ⊤
AreDrivesNamed names (Forks parent at) = ⊤
AreDrivesNamed names (Restores saving) = AreAllNamed names saving.state

-- the place of the first session that has this name
abbrev pub session_place : List SessionInput → StoreName → Option ℕ
session_place before name = place_of name (map (λ i. session_view i.session) before)

-- it is opened, it stands at this place, and this was read for it
pub record IsParent (before : List SessionInput) (name : StoreName) (place : ℕ) (parent : SessionInput) : Type 0 where
  pub first : session_place before name ≡ Some place
  pub there : slice_get before place ≡ Some parent
  pub opened : IsOpened parent.start

-- this is said by its own script, if there is one, after so many keys before the fork; or by the recording in place of it, whatever came before
abbrev pub HasForkedSaid : Option StoreFiles → SourceOfKeys → (at before : ℕ) → List CueText → Type 0
HasForkedSaid files NoSource at before said = said ≡ []
HasForkedSaid files (ScriptFile name) at before said = IsForkedScriptIn files name at before said
HasForkedSaid files (RecordingFile name) at before said = IsRecordingIn files name at said

-- a session can be forked from one that begins so, at this whole count, with so many files named
pub record CanFork (parent : StartInput) (at : ℕ) (names : Option ℕ) : Type 0 where
  pub begun : saved_count parent ≤ at
  pub named : AreDrivesNamed names parent

-- a whole count of the session, or of one that is forked from it, as one that begins where its counts begin in the run
abbrev pub own_count : SessionInput → ℕ → ℕ
own_count i count = count - saved_count i.start

-- a session that is forked from this one, at this count that begins where this one's counts begin in the run, says this
abbrev pub HasSaidFrom : Option StoreFiles → List Replay → SessionConfig → (parent : SessionInput) → (at : ℕ) → List CueText → Type 0
HasSaidFrom files replays s parent at said = HasForkedSaid files (key_source replays s) at (known_of replays at parent) said

-- its counts begin where its parent's begin in the run, which is not behind the fork
pub record IsForkedInput (files : Option StoreFiles) (replays : List Replay) (before : List SessionInput) (name : StoreName) (at : ℕ) (i : SessionInput)
    : Type 0 where
  pub place : ℕ
  pub parent : SessionInput
  pub found : IsParent before name place parent
  pub fits : CanFork parent.start at (names_wanted i.session)
  pub start : i.start ≡ Forks place (own_count parent at)
  pub steps : i.steps ≡ own_count parent i.session.steps
  pub said : HasSaidFrom files replays i.session parent (own_count parent at) i.said

-- ---- for each

-- for a session that begins so
abbrev pub HasInputOf : Option StoreFiles → List Replay → (before : List SessionInput) → Origin → SessionInput → Type 0
HasInputOf files replays before (origin.Opened cpu quota drives) i = IsOpenedInput files replays cpu quota drives.items i
HasInputOf files replays before (origin.Forked parent at) i = IsForkedInput files replays before (string_bytes parent) at i
HasInputOf files replays before (origin.Restored saving) i = IsRestoredInput files replays (string_bytes saving) i

abbrev pub HasInput : Option StoreFiles → List Replay → (before : List SessionInput) → SessionInput → Type 0
HasInput files replays before i = HasInputOf files replays before i.session.origin i

-- for each session in order, after what was read for those before it
abbrev pub AllInputs : Option StoreFiles → List Replay → (before is : List SessionInput) → Type 0
AllInputs files replays before [] = ⊤
AllInputs files replays before (i ∷ is) = HasInput files replays before i × AllInputs files replays (before ++ i ∷ []) is

-- the system drive and the sessions of the configuration, in its order, with what the files hold; some are played by recordings in place of their scripts
pub record AreInputs (files : Option StoreFiles) (config : Config) (replays : List Replay) (system : Disk) (inputs : List SessionInput) : Type 0 where
  pub drive : IsImageIn files (string_bytes config.system) system
  pub sessions : map (λ i. i.session) inputs ≡ config.sessions.items
  pub all : AllInputs files replays [] inputs

-- ---- what a session needs, in the order in which it is read

-- a file that is to hold an image, or a key script; one of a session that is forked at a count of steps stands after so many keys that its parent had before;
-- or a recording of keys that come at this count or later; or the saving that the session of this name goes on from, with as many drives as files are named
-- for their images. Or, without a file, that the session of this name can be forked from one that begins so, at this whole count, with so many files named.
pub data Need : Type 0 where
  ImageIn : (name : StoreName) → Need
  ScriptIn : (name : StoreName) → Need
  ForkedScriptIn : (name : StoreName) (at before : ℕ) → Need
  RecordingIn : (name : StoreName) (at : ℕ) → Need
  SavingIn : (name session : StoreName) (names : Option ℕ) → Need
  ForkOf : (session : StoreName) (parent : StartInput) (at : ℕ) (names : Option ℕ) → Need

abbrev pub image_needs : List (String Global) → List Need
image_needs names = map (λ name. ImageIn (string_bytes name)) names

abbrev pub key_needs : SourceOfKeys → List Need
key_needs NoSource = []
key_needs (ScriptFile name) = ScriptIn name ∷ []
key_needs (RecordingFile name) = RecordingIn name 0 ∷ []

abbrev pub forked_key_needs : (at before : ℕ) → SourceOfKeys → List Need
forked_key_needs at before NoSource = []
forked_key_needs at before (ScriptFile name) = ForkedScriptIn name at before ∷ []
forked_key_needs at before (RecordingFile name) = RecordingIn name at ∷ []

-- the first session of this name
abbrev pub session_named : List SessionInput → StoreName → Option SessionInput
session_named before name = option_and_then (slice_get before) (session_place before name)

-- of the keys of a session that is forked from this one, at a count that begins where this one's counts begin in the run
abbrev pub keys_from : List Replay → SourceOfKeys → SessionInput → (at : ℕ) → List Need
keys_from replays keys parent at = forked_key_needs at (known_of replays at parent) keys

abbrev pub fork_need : SessionConfig → (parent : StartInput) → (at : ℕ) → Need
fork_need s parent at = ForkOf (string_bytes s.name) parent at (names_wanted s)

-- of a session that is forked from the one that was found, at a whole count
abbrev pub forked_needs : List Replay → SessionConfig → (at : ℕ) → Option SessionInput → List Need
forked_needs replays s at None = []
forked_needs replays s at (Some parent) = fork_need s parent.start at ∷ keys_from replays (key_source replays s) parent (own_count parent at)

abbrev pub saving_need : SessionConfig → (saving : StoreName) → Need
saving_need s saving = SavingIn saving (string_bytes s.name) (names_wanted s)

-- of a session that goes on from the saving in a file
abbrev pub restored_needs : List Replay → SessionConfig → (saving : StoreName) → List Need
restored_needs replays s saving = saving_need s saving ∷ key_needs (key_source replays s)

-- of a session that begins so
abbrev pub needs_from : List Replay → (before : List SessionInput) → SessionConfig → Origin → List Need
needs_from replays before s (origin.Opened cpu quota drives) = image_needs drives.items ++ key_needs (key_source replays s)
needs_from replays before s (origin.Forked parent at) = forked_needs replays s at (session_named before (string_bytes parent))
needs_from replays before s (origin.Restored saving) = restored_needs replays s (string_bytes saving)

-- of a session, after what was read for those before it
abbrev pub needs_of : List Replay → (before : List SessionInput) → SessionConfig → List Need
needs_of replays before s = needs_from replays before s s.origin

-- ---- the first fault

-- the fork is not before its parent's saving, which has this many drives, and another number of files is named for their images
pub record IsForkMisnamed (parent : StartInput) (at : ℕ) (names : Option ℕ) (drives count : ℕ) : Type 0 where
  pub begun : saved_count parent ≤ at
  pub saving : Saving
  pub from : parent ≡ Restores saving
  pub misnamed : IsMisnamed names saving.state drives count

-- it can't, as the error says, with the forked session's name as it is shown: it is before the saving, or else another number of files is named
abbrev pub IsForkFault : (session : StoreName) → (parent : StartInput) → (at : ℕ) → (names : Option ℕ) → ReadError → Type 0
IsForkFault session parent at names (ForkedEarly shown told count) =
    (shown.bytes ≡ shown_of (chars session)) × (told ≡ at) × (count ≡ saved_count parent) × (at < count)
IsForkFault session parent at names (SavedDrives shown drives count) =
    (shown.bytes ≡ shown_of (chars session)) × IsForkMisnamed parent at names drives count
IsForkFault session parent at names _ = ⊥

-- how a session is refused that is forked so: for that, or if out of memory
abbrev pub IsForkGivenUp : SessionConfig → (parent : StartInput) → (at : ℕ) → ReadError → Type 0
IsForkGivenUp s parent at e = (e ≡ OutOfMemory) ⊎ IsForkFault (string_bytes s.name) parent at (names_wanted s) e

-- the file holds what is needed, or the fork can be made
abbrev pub IsMet : Option StoreFiles → Need → Type 0
IsMet files (ImageIn name) = (d : Disk) × IsImageIn files name d
IsMet files (ScriptIn name) = (said : List CueText) × IsScriptIn files name said
IsMet files (ForkedScriptIn name at before) = (said : List CueText) × IsForkedScriptIn files name at before said
IsMet files (RecordingIn name at) = (said : List CueText) × IsRecordingIn files name at said
IsMet files (SavingIn name session names) = (x : Saving) × IsSavingIn files name names x
IsMet files (ForkOf session parent at names) = CanFork parent at names

-- the name of the file, where there is one
abbrev pub needed_name : Need → Option StoreName
needed_name (ImageIn name) = Some name
needed_name (ScriptIn name) = Some name
needed_name (ForkedScriptIn name at before) = Some name
needed_name (RecordingIn name at) = Some name
needed_name (SavingIn name session names) = Some name
needed_name (ForkOf session parent at names) = None

-- the file of this name couldn't be read, as the error says with the name as it is shown
abbrev pub IsMissed : StoreName → ReadError → Type 0
IsMissed name (File shown) = shown.bytes ≡ shown_of (chars name)
IsMissed name _ = ⊥

-- it doesn't, or can't, as the error says, with the file's or the session's name as it is shown; any file may be one that can't be read
abbrev pub IsFault : Option StoreFiles → Need → ReadError → Type 0
IsFault files need (File shown) = IsSomeAnd (needed_name need) (λ name. shown.bytes ≡ shown_of (chars name))
IsFault files (ImageIn name) (Image shown count) = (shown.bytes ≡ shown_of (chars name)) × IsNoImageIn files name count
IsFault files (ScriptIn name) (Script shown line fault) = (shown.bytes ≡ shown_of (chars name)) × IsNoScriptIn files name line fault
IsFault files (ForkedScriptIn name at before) (Script shown line fault) =
    (shown.bytes ≡ shown_of (chars name)) × IsNoForkedScriptIn files name at before line fault
IsFault files (RecordingIn name at) (Script shown line fault) = (shown.bytes ≡ shown_of (chars name)) × IsNoRecordingIn files name at line fault
IsFault files (SavingIn name session names) (error.Saving refusal) = (refusal.name.bytes ≡ shown_of (chars name)) × IsNoSavingIn files name refusal.damage
IsFault files (SavingIn name session names) (SavedDrives shown drives count) =
    (shown.bytes ≡ shown_of (chars session)) × IsMisnamedIn files name names drives count
IsFault files (ForkOf session parent at names) e = IsForkFault session parent at names e
IsFault files need _ = ⊥

-- the first of the needs that isn't met is refused so
abbrev pub IsFirstFault : Option StoreFiles → List Need → ReadError → Type 0
IsFirstFault files [] e = ⊥
IsFirstFault files (need ∷ needs) e = IsFault files need e ⊎ (IsMet files need × IsFirstFault files needs e)

-- the first need that isn't met of sessions, after what was read for those before them, is refused so
abbrev pub AreFirstFault : Option StoreFiles → List Replay → (before : List SessionInput) → List SessionConfig → ReadError → Type 0
AreFirstFault files replays before [] e = ⊥
AreFirstFault files replays before (s ∷ ss) e =
    IsFirstFault files (needs_of replays before s) e
    ⊎ ((i : SessionInput) × (i.session ≡ s) × HasInput files replays before i × AreFirstFault files replays (before ++ i ∷ []) ss e)

-- the first need of a configuration that isn't met is refused so: the image of the system drive, or what its sessions need
abbrev pub IsInputFault : Option StoreFiles → Config → List Replay → ReadError → Type 0
IsInputFault files config replays e =
    IsFault files (ImageIn (string_bytes config.system)) e
    ⊎ (IsMet files (ImageIn (string_bytes config.system)) × AreFirstFault files replays [] config.sessions.items e)

-- how reading is refused: for the first fault, or if out of memory
abbrev pub IsNeedRefusal : Option StoreFiles → List Need → ReadError → Type 0
IsNeedRefusal files needs e = (e ≡ OutOfMemory) ⊎ IsFirstFault files needs e

abbrev pub IsSessionRefusal : Option StoreFiles → List Replay → (before : List SessionInput) → List SessionConfig → ReadError → Type 0
IsSessionRefusal files replays before sessions e = (e ≡ OutOfMemory) ⊎ AreFirstFault files replays before sessions e

abbrev pub IsReadRefusal : Option StoreFiles → Config → List Replay → ReadError → Type 0
IsReadRefusal files config replays e = (e ≡ OutOfMemory) ⊎ IsInputFault files config replays e

-- the code of each
abbrev pub code_of_reading : ReadError → RefusalCode
code_of_reading (Script name line fault) = code.Script
code_of_reading (File name) = code.Unreadable
code_of_reading (Image name count) = code.Image
code_of_reading (error.Saving refusal) = code.Machine
code_of_reading (SavedDrives session drives count) = code.Configuration
code_of_reading (ForkedEarly session at count) = code.Configuration
code_of_reading OutOfMemory = code.OutOfMemory

-- the file couldn't be read
abbrev pub IsFileFault : ReadError → Type 0
IsFileFault (File name) = ⊤
IsFileFault _ = ⊥
