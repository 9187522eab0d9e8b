-- What the sessions of a run are played by: all their keys, each with its count, and their steps; and how these come of what was read and typed.
-- All of it is own.
use Rattle.std.specs.Prelude.{⊤, ◌≡◌, ◌≤◌, ◌^◌, ◌+◌, ◌-◌, ℕ, max, nat_le, Bool, true, false, ◌&&◌, ◌==◌, if◌then◌else◌, List, [], ◌∷◌, ◌++◌, length, map, drop}
use Rattle.std.specs.Prelude.{Option, Some, None, slice_get, string_bytes}
use Rattle.std.specs.Io.KnownBytes.{Appends}
use Rattle.std.specs.Str.{bytes_eq}
use Rattle.cpm_batch.specs.Inputs.{Forks, IsOpened, Opens, Restores, SessionInput, StartInput, saved_count, start_view, timed_keys}
use Rattle.cpm_config.specs.Rules.{place_of, session_view}
use Rattle.cpm_config.specs.declared.config.Origin.{Origin}
use Rattle.cpm_config.specs.declared.config.Origin.TheVariants as origin
use Rattle.cpm_config.specs.declared.config.SessionConfig.{SessionConfig}
use Rattle.cpm_flags.specs.declared.regs.Cpu.TheVariants.{I8080}
use Rattle.cpm_geom.specs.Disk.{Disk}
use Rattle.cpm_machine.specs.MachineState.{MachineState, opened_machine}
use Rattle.cpm_play.specs.Cued.{HasEndedCued, IsCued, waits_at}
use Rattle.cpm_play.specs.Live.{AreGiven}
use Rattle.cpm_play.specs.Output.{OutputState, output_state}
use Rattle.cpm_play.specs.Playing.{alone_by}
use Rattle.cpm_play.specs.Sitting.{IsTypedPlay, sitting}
use Rattle.cpm_play.specs.Typist.{TypingState}
use Rattle.cpm_play.specs.declared.live.PlayEnd.{PlayEnd}
use Rattle.cpm_play.specs.declared.live.TypedPlay.{TypedPlay}
use Rattle.cpm_script.specs.Cues.{Counted, CueText, cue_text}
use Rattle.cpm_script.specs.Fork.{keys_before}
use Rattle.cpm_script.specs.Recording.{recorded}
use Rattle.cpm_script.specs.Script.{most_keys}
use Rattle.cpm_script.specs.declared.cue.Cue.{Cue}
use Rattle.cpm_script.specs.declared.script.Key.{Key}
use Rattle.cpm_run.specs.declared.settled.SettledInput.{SettledInput}

-- ---- what a session is played by

pub record SettledSession : Type 0 where
  pub session : SessionConfig
  pub start : StartInput
  -- all its keys: those that the session that it is forked from had before, so many, and then its own
  pub keys : List Key
  pub before : ℕ
  -- how many steps it executes in all
  pub steps : ℕ
  -- whether it stopped idle where it was played by itself
  pub is_idle : Bool
  -- why no more was typed at it, where one typed
  pub typing : Option PlayEnd

abbrev pub settled_view : SettledInput → SettledSession
settled_view i = record {
  session = i.session.now;
  start = start_view i.start;
  keys = i.keys.items;
  before = i.before;
  steps = i.steps;
  is_idle = i.is_idle;
  typing = i.typing;
}

-- the machine with which a session begins that isn't forked: at its opening, or the one that was saved. One that is forked has none of its own
abbrev pub opening_of : StartInput → MachineState
opening_of (Opens cpu quota drives) = opened_machine cpu quota drives
opening_of (Forks parent at) = opened_machine I8080 0 []
opening_of (Restores x) = x.state

abbrev pub opening_at : Option StartInput → MachineState
opening_at None = opened_machine I8080 0 []
opening_at (Some b) = opening_of b

-- the machine with which a session begins that has this one among the starts of all: at its opening, which has its processor, its quota and its drives,
-- or where it is forked that with which the session begins that it is forked from, or the one that was saved
abbrev pub start_by : List StartInput → StartInput → MachineState
start_by starts (Opens cpu quota drives) = opened_machine cpu quota drives
start_by starts (Forks parent at) = opening_at (slice_get starts parent)
start_by starts (Restores x) = x.state

abbrev pub starts_of : List SettledSession → List StartInput
starts_of sessions = map (λ s. s.start) sessions

-- ---- what was typed

-- what was typed at the session at a place: its keys with the counts at which they were accepted, the steps that it then has, and why no more was typed
pub record TypedSession : Type 0 where
  pub place : ℕ
  pub keys : List Key
  pub steps : ℕ
  pub end : PlayEnd

abbrev pub typed_view : Option (ℕ × TypedPlay) → Option TypedSession
typed_view None = None
typed_view (Some t) = Some (record { place = t.0; keys = t.1.live.keys.items; steps = t.1.live.steps; end = t.1.end })

-- what the session at a place says: the keys that were typed at it, or else what its script says
abbrev pub said_at : Option TypedSession → ℕ → List CueText → List CueText
said_at None place said = said
said_at (Some t) place said = if place == t.place then map Counted t.keys else said

-- the steps that it has: those for which it was typed at, or else these
abbrev pub steps_at : Option TypedSession → ℕ → ℕ → ℕ
steps_at None place steps = steps
steps_at (Some t) place steps = if place == t.place then t.steps else steps

-- why no more was typed at it, where one typed
abbrev pub typing_at : Option TypedSession → ℕ → Option PlayEnd
typing_at None place = None
typing_at (Some t) place = if place == t.place then Some t.end else None

-- the whole count at which a session is forked from the one of this name
abbrev pub fork_count : List ℕ → Origin → ℕ
fork_count name (origin.Opened cpu quota drives) = 0
fork_count name (origin.Forked parent at) = if bytes_eq (string_bytes parent) name then at else 0
fork_count name (origin.Restored saving) = 0

-- the greatest of all
abbrev pub last_fork : List ℕ → List SessionConfig → ℕ
last_fork name [] = 0
last_fork name (s ∷ ss) = max (fork_count name s.origin) (last_fork name ss)

-- ---- how a session is settled

-- What there is to play a session by: the machine with which it begins, or the session that it is forked from, with the keys that that one had before the
-- fork; at which count it is forked, or 0; what it says; its steps; and the greatest count at which one is forked from it. The counts begin where it does.
pub record SessionPart : Type 0 where
  pub opening : MachineState
  pub before : List Key
  pub at : ℕ
  pub said : List CueText
  pub limit : ℕ
  pub last : ℕ

abbrev pub keys_if_settled : Option SettledSession → List Key
keys_if_settled None = []
keys_if_settled (Some s) = s.keys

abbrev pub before_in : List SettledSession → StartInput → List Key
before_in settled (Opens cpu quota drives) = []
before_in settled (Forks parent at) = keys_before at (keys_if_settled (slice_get settled parent))
before_in settled (Restores x) = []

-- how the session begins that isn't forked, or the one of these that it is forked from
abbrev pub opened_by : List StartInput → StartInput → Option StartInput
opened_by starts (Opens cpu quota drives) = Some (Opens cpu quota drives)
opened_by starts (Forks parent at) = slice_get starts parent
opened_by starts (Restores x) = Some (Restores x)

abbrev pub forked_at : StartInput → ℕ
forked_at (Opens cpu quota drives) = 0
forked_at (Forks parent at) = at
forked_at (Restores x) = 0

-- that of a session, after those before it were settled
abbrev pub part_of : Option TypedSession → List SessionConfig → List SettledSession → SessionInput → SessionPart
part_of typed sessions settled i = record {
  opening = start_by (starts_of settled) i.start;
  before = before_in settled i.start;
  at = forked_at i.start;
  said = said_at typed (length settled) i.said;
  limit = steps_at typed (length settled) i.steps;
  last = last_fork (string_bytes i.session.name) sessions - saved_count i.start;
}

-- It was played by itself, by the keys that it has from before and by what it says. These keys came, and it ended after so many steps.
-- Waits count from its fork on.
pub record IsPlayedAlone (system : Disk) (p : SessionPart) (stops_idle : Bool) (came : List Key) (done : ℕ) : Type 0 where
  pub cues : List Cue
  pub says : map cue_text cues ≡ map Counted p.before ++ p.said
  pub by : IsCued system p.opening p.limit p.at cues came
  pub ends : HasEndedCued system p.opening p.limit p.at stops_idle came done (alone_by system came done p.opening)
  pub within : done ≤ p.limit

-- its own keys are those that came, and where sessions stop idle, so are its steps, up to the last fork
abbrev pub settled_steps : (stops_idle : Bool) → SessionPart → (done : ℕ) → ℕ
settled_steps false p done = p.limit
settled_steps true p done = max done (max p.at p.last)

pub record HasPlayedKeys (system : Disk) (p : SessionPart) (stops_idle : Bool) (keys : List Key) (steps : ℕ) (is_idle : Bool) : Type 0 where
  pub came : List Key
  pub done : ℕ
  pub played : IsPlayedAlone system p stops_idle came done
  pub all : keys ≡ p.before ++ drop (length p.before) came
  pub long : steps ≡ settled_steps stops_idle p done
  pub idle : is_idle ≡ stops_idle && waits_at system p.opening came done

-- A session has these keys and steps: all keys as they are written where each has a count, a script can have so many, with those that are pending where the
-- session begins, and no session stops idle; and else those that come.
abbrev pub HasSettledTimed : (is_few : Bool) → Disk → SessionPart → (own keys : List Key) → (steps : ℕ) → (is_idle : Bool) → Type 0
HasSettledTimed true system p own keys steps is_idle = (keys ≡ p.before ++ own) × (steps ≡ p.limit) × (is_idle ≡ false)
HasSettledTimed false system p own keys steps is_idle = HasPlayedKeys system p false keys steps is_idle

abbrev pub HasSettledBy : Disk → SessionPart → (stops_idle : Bool) → Option (List Key) → (keys : List Key) → (steps : ℕ) → (is_idle : Bool) → Type 0
HasSettledBy system p true timed keys steps is_idle = HasPlayedKeys system p true keys steps is_idle
HasSettledBy system p false None keys steps is_idle = HasPlayedKeys system p false keys steps is_idle
HasSettledBy system p false (Some own) keys steps is_idle =
    HasSettledTimed (nat_le (length p.opening.session.console.keys + length p.before + length own) most_keys) system p own keys steps is_idle

pub record IsSettled (system : Disk) (stops_idle : Bool) (end : Option PlayEnd) (p : SessionPart) (i : SessionInput) (s : SettledSession) : Type 0 where
  pub session : s.session ≡ i.session
  pub start : s.start ≡ i.start
  pub before : s.before ≡ length p.before
  pub keys : HasSettledBy system p stops_idle (timed_keys p.said) s.keys s.steps s.is_idle
  pub typing : s.typing ≡ end

-- each session in order, after those before it
abbrev pub AreSettled : Disk → (stops_idle : Bool) → Option TypedSession → List SessionConfig
    → (settled : List SettledSession) → List SessionInput → List SettledSession → Type 0
AreSettled system stops_idle typed sessions settled [] [] = ⊤
AreSettled system stops_idle typed sessions settled (i ∷ is) (s ∷ ss) =
    IsSettled system stops_idle (typing_at typed (length settled)) (part_of typed sessions settled i) i s
    × AreSettled system stops_idle typed sessions (settled ++ s ∷ []) is ss
AreSettled system stops_idle typed sessions settled [] (s ∷ ss) = ⊥
AreSettled system stops_idle typed sessions settled (i ∷ is) [] = ⊥

-- ---- typing

-- what was known of a typist and is known, what a console and a list device had got and have got, and what a record had and has
pub record Streams : Type 0 where
  pub unread : TypingState
  pub left : TypingState
  pub before : OutputState
  pub written : OutputState
  pub unrecorded : Option (List ℕ)
  pub record_now : Option (List ℕ)

abbrev pub play_streams : (unread left : TypingState) → (before written : OutputState) → (unrecorded record_now : Option (List ℕ)) → Streams
play_streams unread left before written unrecorded record_now = record {
  unread = unread;
  left = left;
  before = before;
  written = written;
  unrecorded = unrecorded;
  record_now = record_now;
}

-- those of a console alone
abbrev pub streams : (unread left : TypingState) → (before written unrecorded record_now : Option (List ℕ)) → Streams
streams unread left before written unrecorded record_now =
    play_streams unread left (output_state before None) (output_state written None) unrecorded record_now

-- nobody was heard, and nothing was written
pub record AreUntouched (io : Streams) : Type 0 where
  pub unread : io.left ≡ io.unread
  pub unwritten : io.written ≡ io.before
  pub unrecorded : io.record_now ≡ io.unrecorded

-- the most steps that can be counted
abbrev pub most_steps : ℕ
most_steps = 2 ^ 64 - 1

-- A session that begins so was played by itself by what it says, or by as much of that as came before who types broke in, and then by the keys that were
-- typed: it has shown what the machine run alone by these shows, each at the count at which it was accepted; and the record has got just these. It has the
-- steps that were executed meanwhile, up to the last fork.
pub record IsTypedBy (system : Disk) (sessions : List SessionConfig) (name : List ℕ) (start : StartInput) (said : List CueText) (io : Streams)
    (keys : List Key) (steps : ℕ) (end : PlayEnd) : Type 0 where
  pub done : ℕ
  pub cues : List Cue
  pub says : map cue_text cues ≡ said
  pub given : AreGiven (length keys) done keys
  pub played : IsTypedPlay (sitting io.unread.is_patient system (opening_of start) most_steps cues) io.unread io.left keys done end
  pub text : Appends io.before.console io.written.console (alone_by system keys done (opening_of start)).session.console.screen
  pub lines : Appends io.unrecorded io.record_now (recorded keys)
  pub long : steps ≡ max done (last_fork name sessions - saved_count start)

-- so it was with the session of this name, which isn't forked
pub record IsTypedAt (system : Disk) (sessions : List SessionConfig) (name : List ℕ) (inputs : List SessionInput) (io : Streams)
    (t : TypedSession) : Type 0 where
  pub input : SessionInput
  pub place : place_of name (map session_view sessions) ≡ Some t.place
  pub there : slice_get inputs t.place ≡ Some input
  pub opened : IsOpened input.start
  pub typed : IsTypedBy system sessions name input.start input.said io t.keys t.steps t.end

-- a session was typed at, where one is named; and else nothing was read
abbrev pub IsTypedIfAny : Disk → List SessionConfig → Option (List ℕ) → List SessionInput → Streams → Option TypedSession → Type 0
IsTypedIfAny system sessions None inputs io typed = (typed ≡ None) × AreUntouched io
IsTypedIfAny system sessions (Some name) inputs io typed = (t : TypedSession) × (typed ≡ Some t) × IsTypedAt system sessions name inputs io t
