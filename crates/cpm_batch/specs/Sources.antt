-- Where the keys of a session come from, and what a recording of them says. All of it is own.
use Rattle.std.specs.Prelude.{⊤, ◌≡◌, ◌+◌, ℕ, Bool, is_some, nat_le, if◌then◌else◌, List, [], ◌∷◌, map, Option, Some, None}
use Rattle.std.specs.Prelude.{Result, Ok, Err, String, string_bytes}
use Rattle.std.specs.List.{before_first, list_all}
use Rattle.std.specs.Str.{bytes_eq}
use Rattle.std.specs.Str.Lines.{lines}
use Rattle.std.specs.declared.alloc.Global.{Global}
use Rattle.cpm_config.specs.declared.config.SessionConfig.{SessionConfig}
use Rattle.cpm_script.specs.Cues.{Counted, CueText}
use Rattle.cpm_script.specs.KeyText.{count_of}
use Rattle.cpm_script.specs.Laws.{AreFrom}
use Rattle.cpm_script.specs.Recording.{recording}
use Rattle.cpm_script.specs.Script.{is_script_space}
use Rattle.cpm_script.specs.declared.fault.LineFault.{LineFault}
use Rattle.cpm_script.specs.declared.fault.LineFault.TheVariants.{BeforeFork}
use Rattle.cpm_script.specs.declared.fault.ScriptError.{ScriptError}
use Rattle.cpm_script.specs.declared.fault.ScriptError.TheVariants.{Line, OutOfMemory}
use Rattle.cpm_script.specs.declared.script.Key.{Key}
use Rattle.cpm_store.specs.Files.{StoreName}
use Rattle.cpm_batch.specs.declared.source.KeySource as code
use Rattle.cpm_batch.specs.declared.source.KeySource.TheVariants as source
use Rattle.cpm_batch.specs.declared.source.Replay.{Replay}

-- ---- a script, or a recording in place of it

-- the file of the first recording that the session of this name is played by
abbrev pub replay_of : List Replay → StoreName → Option StoreName
replay_of [] name = None
replay_of (r ∷ rs) name = if bytes_eq r.session.now name then Some r.file.now else replay_of rs name

-- where the keys of a session come from: it has none, they are those of the script in a file, or those of the recording in a file
pub data SourceOfKeys : Type 0 where
  NoSource : SourceOfKeys
  ScriptFile : (name : StoreName) → SourceOfKeys
  RecordingFile : (name : StoreName) → SourceOfKeys

-- where no recording stands in place of its script
abbrev pub script_source : Option (String Global) → SourceOfKeys
script_source None = NoSource
script_source (Some name) = ScriptFile (string_bytes name)

abbrev pub source_or : Option StoreName → Option (String Global) → SourceOfKeys
source_or None keys = script_source keys
source_or (Some file) keys = RecordingFile file

abbrev pub key_source : List Replay → SessionConfig → SourceOfKeys
key_source replays s = source_or (replay_of replays (string_bytes s.name)) s.keys

-- the file that they are in
abbrev pub key_file : SourceOfKeys → Option StoreName
key_file NoSource = None
key_file (ScriptFile name) = Some name
key_file (RecordingFile name) = Some name

-- the code's value
abbrev pub source_view : code.KeySource → SourceOfKeys
source_view source.Nothing = NoSource
source_view (source.Script name) = ScriptFile name.now
source_view (source.Recording name) = RecordingFile name.now

-- ---- a recording from a count on: 0, or that at which the session is forked

-- the text is a recording of keys that come at this count or later, and it says these, each at its count, however many they are
pub record IsRecordingOf (at : ℕ) (text : List ℕ) (said : List CueText) : Type 0 where
  pub keys : List Key
  pub read : recording text ≡ Ok keys
  pub late : AreFrom at keys
  pub says : said ≡ map Counted keys

-- a line whose first word is a count
abbrev pub is_line_counted : List ℕ → Bool
is_line_counted line = is_some (count_of (before_first is_script_space line))

-- the number of the first of them, where the first line of all has this one
abbrev pub first_counted : ℕ → List (List ℕ) → ℕ
first_counted number [] = number
first_counted number (line ∷ rest) = if is_line_counted line then number else first_counted (number + 1) rest

-- none of the keys comes before this count
abbrev pub are_late : ℕ → List Key → Bool
are_late at keys = list_all (λ k. nat_le at k.count) keys

-- the first line with a fault, and the fault: the recording's own, or else that of its first key, which comes before the fork where any does
abbrev pub fault_from : ℕ → List ℕ → Result (List Key) (ℕ × LineFault) → Option (ℕ × LineFault)
fault_from at text (Err fault) = Some fault
fault_from at text (Ok keys) = if are_late at keys then None else Some (first_counted 1 (lines text), BeforeFork)

abbrev pub recording_fault : ℕ → List ℕ → Option (ℕ × LineFault)
recording_fault at text = fault_from at text (recording text)

-- the code's value
abbrev pub IsRecordingFault : (at : ℕ) → (text : List ℕ) → ScriptError → Type 0
IsRecordingFault at text (Line number fault) = recording_fault at text ≡ Some (number, fault)
IsRecordingFault at text OutOfMemory = ⊤
