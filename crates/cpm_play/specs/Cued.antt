-- One machine that is played by a script that may wait: which keys come by the script, where the session ends, and what its parts do.
-- All of it is own: this project's form of key scripts.
use Rattle.std.specs.Prelude.{◌≡◌, ℕ, ◌+◌, ◌-◌, ◌<◌, ◌≤◌, max, min, Bool, true, false, ◌||◌, not, List, [], ◌∷◌, ◌++◌, length, map, drop, ◌==◌, Option, ◌⊎◌}
use Rattle.std.specs.Io.KnownBytes.{Appends}
use Rattle.memchr.specs.Find.{OccursAt}
use Rattle.cpm_geom.specs.Disk.{Disk}
use Rattle.cpm_script.specs.Cues.{cued_key_count, cue_text}
use Rattle.cpm_script.specs.Laws.{KeysAreAscii}
use Rattle.cpm_script.specs.Recording.{key_line, recorded}
use Rattle.cpm_script.specs.declared.cue.Cue.{Cue}
use Rattle.cpm_script.specs.declared.cue.Cue.TheVariants.{Key as Timed, Wait, Press}
use Rattle.cpm_script.specs.declared.script.Key.{Key}
use Rattle.cpm_machine.specs.MachineState.{MachineState}
use Rattle.cpm_machine.specs.Serve.{keyed, look_of, takes_key}
use Rattle.cpm_machine.specs.Step.{after, is_running}
use Rattle.cpm_play.specs.Live.{HadList, HadText, HasCome, IsUnshown}
use Rattle.cpm_play.specs.declared.live.LiveError.{LiveError}
use Rattle.cpm_play.specs.declared.live.LiveError.TheVariants.{Unreadable, Unwritable, Unprinted, Unrecorded, OutOfMemory}
use Rattle.cpm_play.specs.Output.{GetsOutput, OutputState}
use Rattle.cpm_play.specs.Playing.{alone_by, without_list, without_text}
pub use Rattle.cpm_play.specs.Playing.{last_count, runs_at, screen_at, waits_at}

-- ---- the machine run alone

-- it waits at none of the counts from one up to another
abbrev pub HasNoWait : Disk → MachineState → List Key → (from until : ℕ) → Type 0
HasNoWait system start keys from until = (i : ℕ) → from ≤ i → i < until → waits_at system start keys i ≡ false

-- from one count on it first waits at another
pub record IsNextWait (system : Disk) (start : MachineState) (keys : List Key) (from at : ℕ) : Type 0 where
  pub later : from ≤ at
  pub waits : waits_at system start keys at ≡ true
  pub first : HasNoWait system start keys from at

-- ---- the keys of a script

-- this text stands somewhere in what was shown
abbrev pub HasShown : List ℕ → List ℕ → Type 0
HasShown text shown = (place : ℕ) × OccursAt shown text place

-- a key comes at a count within the steps, while the machine runs, and finds room
abbrev pub Comes : Disk → MachineState → ℕ → List Key → ℕ → Type 0
Comes system start steps keys at = (at < steps) × (runs_at system start keys at ≡ true) × (takes_key (alone_by system keys at start) ≡ true)

-- from one count on, and from where waits count, it next waits at another within the steps, and then has shown this text after so many bytes
pub record IsCueMet (system : Disk) (start : MachineState) (steps waits_from : ℕ) (keys : List Key) (from mark : ℕ) (text : List ℕ) (at : ℕ) : Type 0 where
  pub next : IsNextWait system start keys (max waits_from from) at
  pub within : at < steps
  pub shown : HasShown text (drop mark (screen_at system start keys at))

-- The keys of the rest of a script after those that were given, where its next cue counts from this count on,
-- and so many bytes had been shown when the last key came. A key that does not come is the end of the script,
-- and so is a text that has not been shown where the machine next waits: while it waits it shows nothing more. A wait before `waits_from` steps does not count.
-- All that comes within `least` steps is there, and nothing else but what comes within `most`.
abbrev pub IsCuedFrom : Disk → MachineState → (least most waits_from : ℕ) → (given : List Key) → (from mark : ℕ) → List Cue → List Key → Type 0
IsCuedFrom system start least most waits_from given from mark [] keys = keys ≡ given
IsCuedFrom system start least most waits_from given from mark (Timed k ∷ cues) keys =
    let at = max from k.count in
    let shown = length (screen_at system start given at) in
    (Comes system start most given at
    × IsCuedFrom system start least most waits_from (given ++ record { count = at; byte = k.byte } ∷ []) at shown cues keys)
    ⊎ ((Comes system start least given at → ⊥) × (keys ≡ given))
IsCuedFrom system start least most waits_from given from mark (Press b ∷ cues) keys =
    let shown = length (screen_at system start given from) in
    (Comes system start most given from
    × IsCuedFrom system start least most waits_from (given ++ record { count = from; byte = b } ∷ []) from shown cues keys)
    ⊎ ((Comes system start least given from → ⊥) × (keys ≡ given))
IsCuedFrom system start least most waits_from given from mark (Wait text ∷ cues) keys =
    ((at : ℕ) × IsCueMet system start most waits_from given from mark text.items at × IsCuedFrom system start least most waits_from given at mark cues keys)
    ⊎ (((at : ℕ) → IsCueMet system start least waits_from given from mark text.items at → ⊥) × (keys ≡ given))

-- the keys of a script, for at most so many steps, where waits count from this step on
abbrev pub IsCued : Disk → MachineState → (steps waits_from : ℕ) → List Cue → List Key → Type 0
IsCued system start steps waits_from cues keys = IsCuedFrom system start steps steps waits_from [] 0 0 cues keys

-- Its keys so far, in a session that has executed so many of its steps: all that come before that count, and of those that come at that count all, some of
-- the first, or none.
abbrev pub IsCuedUpTo : Disk → MachineState → (steps done waits_from : ℕ) → List Cue → List Key → Type 0
IsCuedUpTo system start steps done waits_from cues keys = IsCuedFrom system start done (min steps (done + 1)) waits_from [] 0 0 cues keys

-- ---- what can be played

-- how many keys a script has
abbrev pub key_count : List Cue → ℕ
key_count cues = cued_key_count (map cue_text cues)

-- each of them is below 80h
abbrev pub AreAscii : List Cue → Type 0
AreAscii cues = KeysAreAscii (map cue_text cues)

-- a text is looked for before the next key
abbrev pub looks_back : List Cue → Bool
looks_back [] = false
looks_back (Timed k ∷ cues) = false
looks_back (Press b ∷ cues) = false
looks_back (Wait text ∷ cues) = not (length text.items == 0) || looks_back cues

-- ---- where a session ends

-- It ends where the machine has, and else after its steps. One that stops where it is idle ends sooner,
-- where the machine next waits after the last key, if waits count there.
abbrev pub HasEndedCued : Disk → MachineState → (steps waits_from : ℕ) → (stops_idle : Bool) → List Key → ℕ → MachineState → Type 0
HasEndedCued system start steps waits_from false keys done now = (done ≡ steps) ⊎ (is_running now.ended ≡ false)
HasEndedCued system start steps waits_from true keys done now =
    (is_running now.ended ≡ false)
    ⊎ (HasNoWait system start keys (max waits_from (last_count 0 keys)) done
    × ((done ≡ steps) ⊎ ((waits_from ≤ done) × (waits_at system start keys done ≡ true))))

-- ---- where one was cut short

-- it has come so far by the script's keys so far, and gave on all of its output
pub record HasComeByCues (system : Disk) (steps waits_from : ℕ) (cues : List Cue) (start now : MachineState) (before written : OutputState)
    (keys : List Key) : Type 0 where
  pub come : HasCome system steps (key_count cues) start now before written keys
  pub cued : IsCuedUpTo system start steps come.done waits_from cues keys

-- and so far a key comes
pub record HasComeToKey (system : Disk) (steps waits_from : ℕ) (cues : List Cue) (start now : MachineState) (before written : OutputState)
    (keys : List Key) : Type 0 where
  pub by : HasComeByCues system steps waits_from cues start now before written keys
  pub key : Key
  pub comes : IsCuedUpTo system start steps by.come.done waits_from cues (keys ++ key ∷ [])

-- it had text to show by the script's keys so far
pub record HadTextByCues (system : Disk) (steps waits_from : ℕ) (cues : List Cue) (start : MachineState) (keys : List Key) : Type 0 where
  pub text : HadText system steps (key_count cues) start keys
  pub cued : IsCuedUpTo system start steps text.done waits_from cues keys

-- it had bytes for its list device by the script's keys so far, and showed all of its text
pub record HadListByCues (system : Disk) (steps waits_from : ℕ) (cues : List Cue) (start : MachineState) (before written : OutputState)
    (keys : List Key) : Type 0 where
  pub list : HadList system steps (key_count cues) start before written keys
  pub cued : IsCuedUpTo system start steps list.done waits_from cues keys

-- Why it was not played to its end, and what it had come to. The console fails where there is text, and all keys are recorded.
-- The list device fails where there are list bytes, and all text is shown and all keys are recorded.
-- The record fails at a key that comes and is not pressed, and all is shown and printed; where memory is refused all is shown, printed and recorded.
abbrev pub IsCutOff : Disk → (steps waits_from : ℕ) → List Cue → (start now : MachineState)
    → (before written : OutputState) → (unrecorded record_now : Option (List ℕ)) → LiveError → Type 0
IsCutOff system steps waits_from cues start now before written unrecorded record_now OutOfMemory =
    (keys : List Key) × HasComeByCues system steps waits_from cues start now before written keys × Appends unrecorded record_now (recorded keys)
IsCutOff system steps waits_from cues start now before written unrecorded record_now (Unwritable e) =
    (keys : List Key) × HadTextByCues system steps waits_from cues start keys × Appends unrecorded record_now (recorded keys)
IsCutOff system steps waits_from cues start now before written unrecorded record_now (Unprinted e) =
    (keys : List Key) × HadListByCues system steps waits_from cues start before written keys × Appends unrecorded record_now (recorded keys)
IsCutOff system steps waits_from cues start now before written unrecorded record_now (Unrecorded e) =
    (keys : List Key) × HasComeToKey system steps waits_from cues start now before written keys
IsCutOff system steps waits_from cues start now before written unrecorded record_now (Unreadable e) = ⊥

-- ---- the parts of a session

-- up to which count it is known which keys a script has: to the end of the session, or where somebody broke in
abbrev pub known_to : (is_over : Bool) → (done steps : ℕ) → ℕ
known_to true done steps = done
known_to false done steps = steps

-- from so many of its steps on, up to a limit, these are the keys of the script, as far as the session goes
abbrev pub StaysCued : Disk → MachineState → (steps limit done waits_from : ℕ) → List Cue → List Key → Type 0
StaysCued system start steps limit done waits_from cues keys =
    (until : ℕ) → done ≤ until → until ≤ limit → IsCuedUpTo system start steps until waits_from cues keys

-- the output of a state was taken: console and list device got it
pub record IsOutputTaken (old now : MachineState) (before written : OutputState) : Type 0 where
  pub state : now ≡ without_list (without_text old)
  pub output : GetsOutput before written old

-- why it was not: one of them failed; or it was, but memory was refused in which to keep it
abbrev pub IsUntaken : (old now : MachineState) → (before written : OutputState) → LiveError → Type 0
IsUntaken old now before written OutOfMemory = IsOutputTaken old now before written
IsUntaken old now before written e = IsUnshown old before written e

-- so many steps were executed, and their output taken
abbrev pub HasExecuted : Disk → ℕ → (old now : MachineState) → (before written : OutputState) → Type 0
HasExecuted system k old now before written = IsOutputTaken (after system k old) now before written

-- the first of these steps did not wait for a key
abbrev pub IsBusyFor : Disk → ℕ → MachineState → Type 0
IsBusyFor system k s = (i : ℕ) → i < k → (look_of (after system i s)).waiting ≡ false

-- it does not wait for a key at the counts from one up to another, where this is the state at the count `done`
abbrev pub IsBusyFrom : Disk → (from until done : ℕ) → MachineState → Type 0
IsBusyFrom system from until done s = (i : ℕ) → from ≤ i → i < until → (look_of (after system (i - done) s)).waiting ≡ false

-- the steps up to where it waits for a key and waits count, or to its end, or to where it is over; else all
pub record HasIdled (is_over : Bool) (system : Disk) (steps waits_from done done_now : ℕ) (old now : MachineState) (before written : OutputState) : Type 0 where
  pub low : done ≤ done_now
  pub run : HasExecuted system (done_now - done) old now before written
  pub busy : IsBusyFrom system (max waits_from done) done_now done old
  pub why : (done_now ≡ steps) ⊎ (is_running now.ended ≡ false) ⊎ ((waits_from ≤ done_now) × ((look_of now).waiting ≡ true)) ⊎ (is_over ≡ true)

-- why not all of so many steps were executed, and what was: where they are to go up to a wait, there was none so far
abbrev pub IsRunCut : (to_wait : Bool) → Disk → ℕ → (old now : MachineState) → (before written : OutputState) → LiveError → Type 0
IsRunCut to_wait system steps old now before written e =
    (k : ℕ) × (k ≤ steps) × IsUntaken (after system k old) now before written e × (to_wait ≡ true → IsBusyFor system k old)

-- why those up to a wait that counts were not, and what was: it did not wait so far, where waits count
abbrev pub IsIdleCut : Disk → (steps waits_from done : ℕ) → (old now : MachineState) → (before written : OutputState) → LiveError → Type 0
IsIdleCut system steps waits_from done old now before written e =
    (k : ℕ) × (k ≤ steps - done) × IsUntaken (after system k old) now before written e × IsBusyFrom system (max waits_from done) (done + k) done old

-- so many steps were executed, after which the machine still runs and has room, and a key was recorded and pressed
pub record HasPressed (system : Disk) (key : Key) (k : ℕ) (old now : MachineState) (before written : OutputState) (unrecorded record_now : Option (List ℕ))
    : Type 0 where
  pub runs : is_running (after system k old).ended ≡ true
  pub room : takes_key (after system k old) ≡ true
  pub state : now ≡ keyed key.byte (without_list (without_text (after system k old)))
  pub output : GetsOutput before written (after system k old)
  pub noted : Appends unrecorded record_now (key_line key)

-- a key does not come: its count is past the steps, and nothing was done; or the machine ends before it, or has no room for it there, or it is over before,
-- and all is shown and printed
pub record HasMissed (is_over : Bool) (system : Disk) (key : Key) (steps done done_now : ℕ) (old now : MachineState) (before written : OutputState)
    : Type 0 where
  pub low : done ≤ done_now
  pub run : HasExecuted system (done_now - done) old now before written
  pub why : ((steps ≤ key.count) × (done_now ≡ done)) ⊎ ((key.count < steps) × (done_now ≤ key.count) × (is_running now.ended ≡ false))
      ⊎ ((key.count < steps) × (done_now ≡ key.count) × (takes_key now ≡ false))
      ⊎ ((key.count < steps) × (done_now < key.count) × (is_over ≡ true))

-- why a key was not pressed after so many steps: not all of them were executed, or memory was refused, and nothing was recorded;
-- or it can't be recorded where the machine runs and has room, and all is shown and printed
abbrev pub IsPressCut : Disk → ℕ → (old now : MachineState) → (before written : OutputState) → (unrecorded record_now : Option (List ℕ))
    → LiveError → Type 0
IsPressCut system steps old now before written unrecorded record_now (Unrecorded e) =
    HasExecuted system steps old now before written × (is_running now.ended ≡ true) × (takes_key now ≡ true)
IsPressCut system steps old now before written unrecorded record_now (Unwritable e) =
    IsRunCut false system steps old now before written (Unwritable e) × (record_now ≡ unrecorded)
IsPressCut system steps old now before written unrecorded record_now (Unprinted e) =
    IsRunCut false system steps old now before written (Unprinted e) × (record_now ≡ unrecorded)
IsPressCut system steps old now before written unrecorded record_now OutOfMemory =
    IsRunCut false system steps old now before written OutOfMemory × (record_now ≡ unrecorded)
IsPressCut system steps old now before written unrecorded record_now (Unreadable e) = ⊥

-- as far as a session was run on, and why: for all steps, to the machine's end, to where it waits for a key, or to where it is over
abbrev pub HasStopped : (is_over to_wait : Bool) → Disk → (steps k : ℕ) → (old now : MachineState) → Type 0
HasStopped is_over false system steps k old now = (k ≡ steps) ⊎ (is_running now.ended ≡ false) ⊎ (is_over ≡ true)
HasStopped is_over true system steps k old now =
    IsBusyFor system k old × ((k ≡ steps) ⊎ (is_running now.ended ≡ false) ⊎ ((look_of now).waiting ≡ true) ⊎ (is_over ≡ true))
