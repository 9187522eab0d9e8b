-- The sessions that `run --replay NAME=FILE` plays by recordings. All of it is own.
use Rattle.std.specs.Prelude.{◌≡◌, ◌⊎◌, ◌==◌, ℕ, Bool, is_some, not, if◌then◌else◌, List, [], ◌∷◌, ◌++◌, chars, length, map}
use Rattle.std.specs.Prelude.{Option, Some, None, Result, Ok, Err}
use Rattle.std.specs.List.{after_first, before_first, list_any}
use Rattle.std.specs.Str.{bytes_eq}
use Rattle.cpm_batch.specs.declared.source.Replay.{Replay}
use Rattle.cpm_shown.specs.Shown.{shown_of}
use Rattle.cpm_config.specs.Rules.{place_of, session_view}
use Rattle.cpm_config.specs.declared.config.SessionConfig.{SessionConfig}
use Rattle.cpm_host.specs.declared.error.HostError.{HostError}
use Rattle.cpm_host.specs.declared.error.HostError.TheVariants.{NoReplay, OutOfMemory, ReplayedTwice, RunRefused}
use Rattle.cpm_run.specs.declared.error.RunError.TheVariants.{NoSession}
use Rattle.cpm_store.specs.Files.{StoreName}

-- ---- a word

-- a session's name, and the file of its recording
pub record NamedReplay : Type 0 where
  pub session : StoreName
  pub file : StoreName

abbrev pub replay_view : Replay → NamedReplay
replay_view r = record { session = r.session.now; file = r.file.now }

-- (=)
abbrev pub is_equals : ℕ → Bool
is_equals b = b == 0x3D

-- both, where neither is empty
abbrev pub replay_of_parts : (name file : StoreName) → Option NamedReplay
replay_of_parts name file =
    if length name == 0 then None else (if length file == 0 then None else Some (record { session = name; file = file }))

-- what stands before the first equals sign of a word and what stands behind it; nothing does where it has none
abbrev pub replay_parts : StoreName → Option NamedReplay
replay_parts word = replay_of_parts (before_first is_equals word) (after_first is_equals word)

-- what is wrong with a word: it is not NAME=FILE; or no session has this name, or an earlier word has it
pub data ReplayFault : Type 0 where
  NotParted : (word : StoreName) → ReplayFault
  NotThere : (name : StoreName) → ReplayFault
  Repeated : (name : StoreName) → ReplayFault

abbrev pub is_replayed : List NamedReplay → StoreName → Bool
is_replayed before name = list_any (λ r. bytes_eq r.session name) before

-- a word after these, by its parts
abbrev pub replay_by : List SessionConfig → (before : List NamedReplay) → (word : StoreName) → Option NamedReplay → Result NamedReplay ReplayFault
replay_by sessions before word None = Err (NotParted word)
replay_by sessions before word (Some r) =
    if not (is_some (place_of r.session (map session_view sessions))) then Err (NotThere r.session)
    else (if is_replayed before r.session then Err (Repeated r.session) else Ok r)

abbrev pub next_replay : List SessionConfig → (before : List NamedReplay) → (word : StoreName) → Result NamedReplay ReplayFault
next_replay sessions before word = replay_by sessions before word (replay_parts word)

-- ---- all words

-- what follows from a word, unless that is refused
abbrev pub or_refused : Result NamedReplay ReplayFault → (NamedReplay → Result (List NamedReplay) ReplayFault) → Result (List NamedReplay) ReplayFault
or_refused (Ok r) next = next r
or_refused (Err fault) next = Err fault

-- the sessions of these words with their recordings, after those of earlier words; or what is wrong with the first word that is refused
abbrev pub replays_from : List SessionConfig → (before : List NamedReplay) → (words : List StoreName) → Result (List NamedReplay) ReplayFault
replays_from sessions before [] = Ok before
replays_from sessions before (w ∷ ws) = or_refused (next_replay sessions before w) (λ r. replays_from sessions (before ++ r ∷ []) ws)

-- ---- refusals

-- a fault is told so
abbrev pub IsFaultTold : ReplayFault → HostError → Type 0
IsFaultTold (NotParted word) (NoReplay shown) = shown.bytes ≡ shown_of (chars word)
IsFaultTold (NotThere name) (RunRefused (NoSession shown)) = shown.bytes ≡ shown_of (chars name)
IsFaultTold (Repeated name) (ReplayedTwice shown) = shown.bytes ≡ shown_of (chars name)
IsFaultTold fault e = ⊥

-- how a word after these is refused
abbrev pub IsNextRefused : List SessionConfig → (before : List NamedReplay) → (word : StoreName) → HostError → Type 0
IsNextRefused sessions before word e = (fault : ReplayFault) × (next_replay sessions before word ≡ Err fault) × IsFaultTold fault e

-- how the words are refused: for the first that has a fault, or if out of memory
abbrev pub IsReplayRefusal : List SessionConfig → (words : List StoreName) → HostError → Type 0
IsReplayRefusal sessions words e = (e ≡ OutOfMemory) ⊎ ((fault : ReplayFault) × (replays_from sessions [] words ≡ Err fault) × IsFaultTold fault e)
