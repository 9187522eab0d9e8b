-- What settling the sessions of a run rests on, and how it is refused. All of it is own.
use Rattle.std.specs.Prelude.{⊤, ◌≡◌, ◌≤◌, ◌<◌, ◌⊎◌, ◌^◌, ◌+◌, ◌++◌, ◌∷◌, ℕ, Bool, true, false, List, [], length, map, slice_get}
use Rattle.std.specs.Prelude.{Option, Some, None, option_map, IfSome, IsSome}
use Rattle.std.specs.List.{All}
use Rattle.cpm_batch.specs.Inputs.{Forks, IsOpened, Opens, Restores, SessionInput, StartInput, start_view, timed_keys}
use Rattle.cpm_config.specs.Rules.{is_opened, origin_view}
use Rattle.cpm_config.specs.declared.config.Config.{Config}
use Rattle.cpm_config.specs.declared.config.SessionConfig.{SessionConfig}
use Rattle.cpm_geom.specs.Disk.{Disk}
use Rattle.cpm_machine.specs.Opening.{opening_fault}
use Rattle.cpm_machine.specs.declared.opening.Opening.{Opening}
use Rattle.cpm_play.specs.Playing.{HaveRoom, IsInOrder}
use Rattle.cpm_script.specs.Cues.{CueText, all_said, cued_key_count}
use Rattle.cpm_script.specs.Laws.{CountsRise, KeysAreAscii, PressesFollow}
use Rattle.cpm_script.specs.Script.{most_keys}
use Rattle.cpm_script.specs.declared.script.Key.{Key}
use Rattle.cpm_run.specs.Pressable.{IsPressableBy}
use Rattle.cpm_run.specs.Refusing.{IsLimited, IsOverfull}
use Rattle.cpm_slots.specs.Host.{new_host}
use Rattle.cpm_run.specs.Run.{AllAccepted, GivesItsKeysAgain, IsOpening, starts_read}
use Rattle.cpm_run.specs.Settled.{AreSettled, AreUntouched, IsTypedIfAny, SessionPart, SettledSession, Streams, TypedSession}
use Rattle.cpm_run.specs.Settled.{forked_at, opening_of, part_of, said_at, steps_at}
use Rattle.cpm_run.specs.declared.options.RunOptions.{RunOptions}
use Rattle.cpm_run.specs.declared.error.RunError.{RunError}
use Rattle.cpm_run.specs.declared.error.RunError.TheVariants as refusal
use Rattle.cpm_run.specs.declared.part.Part.{Part}

-- ---- openings

-- it opens a session that begins so
abbrev pub IsOpeningOf : StartInput → Opening → Type 0
IsOpeningOf (Opens cpu quota drives) o = IsOpening cpu quota drives o
IsOpeningOf (Forks parent at) o = ⊥
IsOpeningOf (Restores x) o = ⊥

-- such an opening has no fault
abbrev pub IsOpenable : StartInput → Type 0
IsOpenable b = (o : Opening) → IsOpeningOf b o → opening_fault o ≡ None

-- ---- keys

abbrev pub AreBelow80h : List Key → Type 0
AreBelow80h = All (λ k. k.byte < 128)

-- each count has 64 bits
abbrev pub AreCounts : List Key → Type 0
AreCounts = All (λ k. k.count < 2 ^ 64)

-- the code's value
abbrev pub part_view : Part → SessionPart
part_view p = record {
  opening = opening_of (start_view p.opened.now);
  before = p.before.items;
  at = p.at;
  said = all_said p.cues;
  limit = p.steps;
  last = p.last;
}

-- what a session says can be pressed after its keys from before, which are in order, and for each of which there is room: it is in order, from the fork on;
-- and the fork is within its steps
pub record IsFitPart (system : Disk) (p : SessionPart) : Type 0 where
  pub before : AreBelow80h p.before
  pub order : IsInOrder 0 p.before
  pub ascii : KeysAreAscii p.said
  pub counts : CountsRise p.at p.said
  pub presses : PressesFollow false p.said
  pub room : HaveRoom system p.opening p.before
  pub within : p.at ≤ p.limit

-- its keys are then those from before and own ones, which come at the fork or later, in order; the machine takes each where it comes; and they can be
-- written as a recording
pub record AreSoundKeys (system : Disk) (p : SessionPart) (keys : List Key) (steps : ℕ) : Type 0 where
  pub own : List Key
  pub joined : keys ≡ p.before ++ own
  pub order : IsInOrder p.at own
  pub ascii : AreBelow80h own
  pub counts : AreCounts own
  pub room : HaveRoom system p.opening keys
  pub within : p.at ≤ steps

-- ---- all sessions

-- each that was settled can be pressed in the run, has keys below 80h, and has own keys that their lines give again
abbrev pub AreSound : Disk → List SettledSession → Type 0
AreSound system ss = (place : ℕ) → IfSome (slice_get ss place) (λ s. IsPressableBy system ss s.start s × AreBelow80h s.keys × GivesItsKeysAgain s)

-- one that comes after them, too
pub record IsSoundAfter (system : Disk) (ss : List SettledSession) (s : SettledSession) : Type 0 where
  pub pressable : IsPressableBy system ss s.start s
  pub ascii : AreBelow80h s.keys
  pub replays : GivesItsKeysAgain s

-- the one that a session is forked from stands among those that begin so, and isn't forked
abbrev pub HasParent : List StartInput → StartInput → Type 0
HasParent starts (Opens cpu quota drives) = ⊤
HasParent starts (Forks parent at) = (b : StartInput) × (slice_get starts parent ≡ Some b) × IsOpened b
HasParent starts (Restores x) = ⊤

-- a session can be settled after those that begin so
pub record IsFitInput (typed : Option TypedSession) (starts : List StartInput) (i : SessionInput) : Type 0 where
  pub ascii : KeysAreAscii (said_at typed (length starts) i.said)
  pub presses : PressesFollow false (said_at typed (length starts) i.said)
  pub from_fork : CountsRise (forked_at i.start) (said_at typed (length starts) i.said)
  pub within : forked_at i.start ≤ steps_at typed (length starts) i.steps
  pub parent : HasParent starts i.start

abbrev pub AreFitInputs : Option TypedSession → List StartInput → List SessionInput → Type 0
AreFitInputs typed starts [] = ⊤
AreFitInputs typed starts (i ∷ is) = IsFitInput typed starts i × AreFitInputs typed (starts ++ i.start ∷ []) is

-- each that is opened has no fault
abbrev pub AreOpenable : List StartInput → Type 0
AreOpenable = All (λ b. IsOpened b → IsOpenable b)

-- a session that isn't forked in the configuration isn't in the run
abbrev pub BeginsAsConfigured : SessionInput → Type 0
BeginsAsConfigured i = is_opened (origin_view i.session.origin) ≡ true → IsOpened i.start

-- All sessions are settled, by what was typed at the one that is named. Their openings were all accepted before.
pub record AreSettledBy (config : Config) (options : RunOptions) (io : Streams) (system : Disk) (inputs : List SessionInput) (settled : List SettledSession)
    : Type 0 where
  pub typed : Option TypedSession
  pub accepted : AllAccepted (starts_read inputs) (new_host system config.frames) (starts_read inputs)
  pub heard : IsTypedIfAny system config.sessions.items (option_map (λ n. n.now) options.typed) inputs io typed
  pub keys : AreSettled system options.stops_idle typed config.sessions.items [] inputs settled

-- ---- refusals

-- how settling a session is refused: keys are limited and it has too many, or memory was refused
abbrev pub IsPartRefusal : RunOptions → Option TypedSession → SessionPart → SessionInput → RunError → Type 0
IsPartRefusal options typed p i (refusal.TooManyKeys shown) = IsLimited options typed × IsOverfull p i shown.bytes
IsPartRefusal options typed p i refusal.OutOfMemory = ⊤
IsPartRefusal options typed p i _ = ⊥

-- how settling all is refused: the first are settled, and the next is refused so
pub record IsSettlingRefusal (system : Disk) (options : RunOptions) (typed : Option TypedSession) (sessions : List SessionConfig) (inputs : List SessionInput)
    (e : RunError) : Type 0 where
  pub done : List SessionInput
  pub input : SessionInput
  pub rest : List SessionInput
  pub order : inputs ≡ done ++ input ∷ rest
  pub settled : List SettledSession
  pub before : AreSettled system options.stops_idle typed sessions [] done settled
  pub refused : IsPartRefusal options typed (part_of typed sessions settled input) input e
