-- One machine that is played live: its keys so far, and what it then has shown, recorded and become. All of it is own.
use Rattle.std.specs.Prelude.{⊤, ◌≡◌, ℕ, ◌≤◌, List, [], ◌∷◌, length, map, Option}
use Rattle.std.specs.Io.KnownBytes.{Appends}
use Rattle.cpm_geom.specs.Disk.{Disk}
use Rattle.cpm_script.specs.Recording.{AreTyped, recorded}
use Rattle.cpm_script.specs.declared.script.Key.{Key}
use Rattle.cpm_machine.specs.Calls.{state_behind}
use Rattle.cpm_machine.specs.MachineState.{MachineState}
use Rattle.cpm_play.specs.declared.live.LiveError.{LiveError}
use Rattle.cpm_play.specs.declared.live.LiveError.TheVariants.{Unreadable, Unwritable, Unprinted, Unrecorded, OutOfMemory}
use Rattle.cpm_play.specs.Output.{GetsOutput, OutputState}
use Rattle.cpm_play.specs.Playing.{EndsAs, HasList, HasText, IsQuiet, alone_by}

-- ---- the keys

-- each of the keys comes after no more steps than these
abbrev pub AreBy : ℕ → List Key → Type 0
AreBy n [] = ⊤
AreBy n (k ∷ ks) = (k.count ≤ n) × AreBy n ks

-- the keys of a live session of so many steps: typed in order, none of them past its end, and no more than it may have
pub record AreGiven (most steps : ℕ) (keys : List Key) : Type 0 where
  pub typed : AreTyped 0 keys
  pub come : AreBy steps keys
  pub few : length keys ≤ most

-- their bytes
abbrev pub bytes_of : List Key → List ℕ
bytes_of keys = map (λ k. k.byte) keys

-- ---- how a session goes

-- The session went from a start so far: with the bytes that were taken put back in front,
-- it is the machine run alone for its keys and steps, and all of them have come.
pub record HasGone (system : Disk) (start : MachineState) (keys : List Key) (done : ℕ) (console list : List ℕ) (now : MachineState) : Type 0 where
  pub state : state_behind console list now ≡ alone_by system keys done start
  pub come : AreBy done keys
  pub typed : AreTyped 0 keys

-- and its console got its text, its list device the list bytes, and the record its keys
pub record IsGoing (system : Disk) (steps most : ℕ) (start now : MachineState)
    (before written : OutputState) (unrecorded record_now : Option (List ℕ)) (keys : List Key) (done : ℕ) : Type 0 where
  pub console : List ℕ
  pub list : List ℕ
  pub gone : HasGone system start keys done console list now
  pub shown : Appends before.console written.console console
  pub printed : Appends before.list written.list list
  pub quiet : IsQuiet now
  pub within : done ≤ steps
  pub few : length keys ≤ most
  pub noted : Appends unrecorded record_now (recorded keys)

-- ---- as far as it came

-- it has come so far by these keys, all of them and no other, and gave on all of its output
pub record HasCome (system : Disk) (steps most : ℕ) (start now : MachineState) (before written : OutputState) (keys : List Key) : Type 0 where
  pub done : ℕ
  pub within : done ≤ steps
  pub given : AreGiven most done keys
  pub output : GetsOutput before written (alone_by system keys done start)
  pub ending : EndsAs (alone_by system keys done start) now

-- it had text to show by these keys
pub record HadText (system : Disk) (steps most : ℕ) (start : MachineState) (keys : List Key) : Type 0 where
  pub done : ℕ
  pub within : done ≤ steps
  pub given : AreGiven most done keys
  pub text : HasText (alone_by system keys done start)

-- it had bytes for its list device by these keys, and showed all of its text
pub record HadList (system : Disk) (steps most : ℕ) (start : MachineState) (before written : OutputState) (keys : List Key) : Type 0 where
  pub done : ℕ
  pub within : done ≤ steps
  pub given : AreGiven most done keys
  pub list : HasList (alone_by system keys done start)
  pub text : Appends before.console written.console (alone_by system keys done start).session.console.screen

-- ---- the errors of its parts

-- why a key is not taken: memory was refused before it is recorded, or it can't be recorded
abbrev pub IsNotGiven : LiveError → (unrecorded record_now : Option (List ℕ)) → Type 0
IsNotGiven OutOfMemory unrecorded record_now = record_now ≡ unrecorded
IsNotGiven (Unrecorded e) unrecorded record_now = ⊤
IsNotGiven _ unrecorded record_now = ⊥

abbrev pub IsUnreadable : LiveError → Type 0
IsUnreadable (Unreadable e) = ⊤
IsUnreadable _ = ⊥

-- why the output of a state is not given on: its text can't be written; or the list bytes can't, and its text was
abbrev pub IsUnshown : MachineState → (before written : OutputState) → LiveError → Type 0
IsUnshown s before written (Unwritable e) = HasText s
IsUnshown s before written (Unprinted e) = HasList s × Appends before.console written.console s.session.console.screen
IsUnshown s before written _ = ⊥
