-- A machine that is typed at, behind a script or from its start: which keys it has, when the typist is asked, and why it ends. All of it is own.
use Rattle.std.specs.Prelude.{◌≡◌, ℕ, Bool, true, false, List, [], ◌++◌, length, Option, ◌⊎◌}
use Rattle.std.specs.Io.KnownBytes.{Appends}
use Rattle.cpm_geom.specs.Disk.{Disk}
use Rattle.cpm_script.specs.Recording.{recorded}
use Rattle.cpm_script.specs.declared.cue.Cue.{Cue}
use Rattle.cpm_script.specs.declared.script.Key.{Key}
use Rattle.cpm_machine.specs.MachineState.{MachineState}
use Rattle.cpm_play.specs.Cued.{IsCued, IsCuedUpTo, IsCutOff}
use Rattle.cpm_play.specs.Live.{HadList, HadText, HasCome, bytes_of}
use Rattle.cpm_play.specs.Output.{OutputState}
use Rattle.cpm_play.specs.Playing.{runs_at}
use Rattle.cpm_play.specs.Typing.{HasReadKeys}
use Rattle.cpm_play.specs.Typist.{AreOften, HasAttended, HasHeard, Hearing, IsHeard, TypingState, is_over, keys_heard}
use Rattle.cpm_play.specs.Wanting.{AreWantedAfter, HasNoLongPoll, HasNoLongWait, IsKeyWanted}
use Rattle.cpm_play.specs.declared.live.LiveError.{LiveError}
use Rattle.cpm_play.specs.declared.live.LiveError.TheVariants.{Unreadable, Unwritable, Unprinted, Unrecorded, OutOfMemory}
use Rattle.cpm_play.specs.declared.live.PlayEnd.{PlayEnd}
use Rattle.cpm_play.specs.declared.live.PlayEnd.TheVariants.{Steps, Ended, Typing}
use Rattle.cpm_play.specs.declared.typist.Heard.TheVariants as heard

-- One sits at a machine: whether the typist is patient, the system drive, the machine at its start, the steps that it has at most, and what a script says
-- that is played before.
pub record Sitting : Type 0 where
  pub is_patient : Bool
  pub system : Disk
  pub start : MachineState
  pub steps : ℕ
  pub cues : List Cue

abbrev pub sitting : Bool → Disk → MachineState → ℕ → List Cue → Sitting
sitting is_patient system start steps cues = record { is_patient = is_patient; system = system; start = start; steps = steps; cues = cues }

-- These are the keys of the script, of which the typist is asked from a count on: all that come. Or one who isn't patient broke in there, and they are those so
-- far.
abbrev pub AreScripted : Sitting → (after : TypingState) → (scripted : List Key) → (begun : ℕ) → Type 0
AreScripted s after scripted begun =
    IsCued s.system s.start s.steps 0 s.cues scripted
    ⊎ ((s.is_patient ≡ false) × (is_over after ≡ true) × IsCuedUpTo s.system s.start s.steps begun 0 s.cues scripted)

-- The session has these keys after so many steps: those of the script, as far as they come, and then those that the typist gave, each at the count at which
-- it did. The typist is asked from the end of the script on, often. A patient one gives a key only where one is wanted, and the machine polls steadily for no
-- longer than 150 turns. Whoever it is, the machine waits for a key for no longer than a turn.
pub record HasListened (s : Sitting) (before after : TypingState) (keys : List Key) (done : ℕ) : Type 0 where
  pub scripted : List Key
  pub typed : List Key
  pub joined : keys ≡ scripted ++ typed
  -- where the script ended
  pub begun : ℕ
  pub script : AreScripted s after scripted begun
  pub at_once : s.cues ≡ [] → begun ≡ 0
  pub answers : List Hearing
  pub said : HasHeard before.heard after.heard answers
  pub given : keys_heard answers ≡ typed
  pub often : AreOften begun done answers
  pub read : HasReadKeys before.unread after.unread (bytes_of typed)
  pub wanted : s.is_patient ≡ true → AreWantedAfter s.system s.start scripted typed
  pub brief : HasNoLongWait s.system s.start keys begun done
  pub answered : s.is_patient ≡ true → HasNoLongPoll s.system s.start keys begun done

-- where the typist is patient a key is wanted
abbrev pub IsWantedByPatient : Sitting → List Key → ℕ → Type 0
IsWantedByPatient s keys done = s.is_patient ≡ true → IsKeyWanted s.system s.start keys done

-- Why it ends: after its steps, or where the machine has ended, and then the typist isn't asked again; or since the typist says that no more is typed.
abbrev pub HasReason : Sitting → (asked after : TypingState) → List Key → ℕ → PlayEnd → Type 0
HasReason s asked after keys done Steps = (done ≡ s.steps) × (after ≡ asked)
HasReason s asked after keys done Ended = (runs_at s.system s.start keys done ≡ false) × (after ≡ asked)
HasReason s asked after keys done (Typing end) = IsHeard done asked after (heard.End end) × IsWantedByPatient s keys done

-- the session was played so, and ended for this reason
pub record IsTypedPlay (s : Sitting) (before after : TypingState) (keys : List Key) (done : ℕ) (end : PlayEnd) : Type 0 where
  pub asked : TypingState
  pub listened : HasListened s before asked keys done
  pub why : HasReason s asked after keys done end

-- ---- one that was not played to its end

-- it has come so far by these keys, which are those of the script and those that were typed
pub record HasPaused (s : Sitting) (now : MachineState) (written_before written : OutputState) (before after : TypingState) (keys : List Key) : Type 0 where
  pub come : HasCome s.system s.steps (length keys) s.start now written_before written keys
  pub listened : HasListened s before after keys come.done

-- and then one more key was heard
pub record HasHeardOneMore (s : Sitting) (now : MachineState) (written_before written : OutputState) (before after : TypingState) (keys : List Key)
    : Type 0 where
  pub asked : TypingState
  pub paused : HasPaused s now written_before written before asked keys
  pub byte : ℕ
  pub next : IsHeard paused.come.done asked after (heard.Key byte)
  pub wanted : IsWantedByPatient s keys paused.come.done

-- it had text to show after these keys, of which the last was heard before
pub record HadTextToShow (s : Sitting) (before after : TypingState) (keys : List Key) : Type 0 where
  pub at : ℕ
  pub listened : HasListened s before after keys at
  pub text : HadText s.system s.steps (length keys) s.start keys

-- it had bytes for its list device after these keys, of which the last was heard before, and showed all of its text
pub record HadListToPrint (s : Sitting) (written_before written : OutputState) (before after : TypingState) (keys : List Key) : Type 0 where
  pub at : ℕ
  pub listened : HasListened s before after keys at
  pub list : HadList s.system s.steps (length keys) s.start written_before written keys

-- Why it was cut short where keys were typed, and what it had come to. The typist fails, and all is shown, printed and recorded; a patient one fails where a
-- key is wanted. The console fails where there is text, and all keys are recorded. The list device fails where there are list bytes, and all text is shown
-- and all keys are recorded. The record fails at a key that was heard and is not pressed, and all is shown and printed. Memory is refused for such a key, and
-- all is shown, printed and recorded.
abbrev pub IsCutShort : Sitting → (now : MachineState) → (written_before written : OutputState) → (unrecorded record_now : Option (List ℕ))
    → (before after : TypingState) → LiveError → Type 0
IsCutShort s now written_before written unrecorded record_now before after (Unreadable e) =
    (keys : List Key) × (p : HasPaused s now written_before written before after keys) × IsWantedByPatient s keys p.come.done
    × Appends unrecorded record_now (recorded keys)
IsCutShort s now written_before written unrecorded record_now before after OutOfMemory =
    (keys : List Key) × HasHeardOneMore s now written_before written before after keys × Appends unrecorded record_now (recorded keys)
IsCutShort s now written_before written unrecorded record_now before after (Unwritable e) =
    (keys : List Key) × HadTextToShow s before after keys × Appends unrecorded record_now (recorded keys)
IsCutShort s now written_before written unrecorded record_now before after (Unprinted e) =
    (keys : List Key) × HadListToPrint s written_before written before after keys × Appends unrecorded record_now (recorded keys)
IsCutShort s now written_before written unrecorded record_now before after (Unrecorded e) =
    (keys : List Key) × HasHeardOneMore s now written_before written before after keys

-- or the script was cut off, and nobody was heard
pub record IsScriptCut (s : Sitting) (now : MachineState) (written_before written : OutputState) (unrecorded record_now : Option (List ℕ))
    (before after : TypingState) (e : LiveError) : Type 0 where
  pub off : IsCutOff s.system s.steps 0 s.cues s.start now written_before written unrecorded record_now e
  pub unheard : HasAttended before after

abbrev pub IsPlayCut : Sitting → (now : MachineState) → (written_before written : OutputState) → (unrecorded record_now : Option (List ℕ))
    → (before after : TypingState) → LiveError → Type 0
IsPlayCut s now written_before written unrecorded record_now before after e =
    IsScriptCut s now written_before written unrecorded record_now before after e
    ⊎ IsCutShort s now written_before written unrecorded record_now before after e
