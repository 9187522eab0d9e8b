-- Where ^S holds a step of a call: exactly where the step would show a byte.
-- CP/M 2.2 Operating System Manual, section 5, functions 2 and 9 (start/stop scroll by ^S); own: which steps look for it.
use Rattle.std.specs.Prelude.{◌≡◌, ◌≢◌, ℕ, Bool, true, false, List, [], Option, Some, None}
use Rattle.cpm_geom.specs.Disk.{Disk}
use Rattle.cpm_memory.specs.Contents.{Contents}
use Rattle.cpm_bdos.specs.Function.{function_of}
use Rattle.cpm_bdos.specs.StepResult.{StepResult, did}
use Rattle.cpm_bdos.specs.Keys.{first_key}
use Rattle.cpm_bdos.specs.Hold.{is_stop, held_at}
use Rattle.cpm_bdos.specs.Step.{bdos}
use Rattle.cpm_bdos.specs.declared.function.Function.{Function}
use Rattle.cpm_bdos.specs.declared.function.Function.TheVariants.{WriteByte, WriteText}
use Rattle.cpm_bdos.specs.declared.session.Session.{Session}
use Rattle.cpm_bdos.specs.declared.session.HeldOutput.{HeldOutput}
use Rattle.cpm_bdos.specs.declared.session.HeldOutput.TheVariants as held
use Rattle.cpm_bdos.specs.declared.session.Mode.{Mode}
use Rattle.cpm_bdos.specs.declared.session.Mode.TheVariants.{Program, Text, Hold}

-- own: the session with these keys pending in place of its own, and with none
abbrev pub session_with_keys : List ℕ → Session → Session
session_with_keys keys s = record s { console = record s.console { keys = keys } }

abbrev pub without_keys : Session → Session
without_keys s = session_with_keys [] s

-- own: what a step did, with these keys pending
abbrev pub did_with_keys : List ℕ → StepResult → StepResult
did_with_keys keys d = did (session_with_keys keys d.session) d.memory d.went

-- own: the mode is a hold
abbrev pub is_hold : Mode → Bool
is_hold (Hold held) = true
is_hold _ = false

-- own: what a hold of the next step keeps, where the step looks for ^S: function 2, and function 9 from its first step to its last
abbrev pub held_by : Function → Option HeldOutput
held_by WriteByte = Some held.Call
held_by WriteText = Some held.Call
held_by _ = None

abbrev pub held_in : Mode → ℕ → Option HeldOutput
held_in Program number = held_by (function_of number)
held_in (Text next) number = Some (held.Text next)
held_in _ number = None

-- Where ^S is read next, a step that looks for it is held if with no key pending it would show a byte,
-- and else it does what it would do with no key pending, and takes none. Every other step, and each with another key or none, is never held.
pub record HoldsOutput (system : Disk) (s : Session) (m : Contents) : Type 0 where
  pub shows : (held : HeldOutput) → held_in s.mode s.regs.c ≡ Some held → is_stop (first_key s) ≡ true
      → (bdos system (without_keys s) m).session.console.screen ≢ s.console.screen → bdos system s m ≡ held_at held s m
  pub silent : (held : HeldOutput) → held_in s.mode s.regs.c ≡ Some held → is_stop (first_key s) ≡ true
      → (bdos system (without_keys s) m).session.console.screen ≡ s.console.screen
      → bdos system s m ≡ did_with_keys s.console.keys (bdos system (without_keys s) m)
  pub others : is_hold s.mode ≡ false → held_in s.mode s.regs.c ≡ None → is_hold (bdos system s m).session.mode ≡ false
  pub other_keys : is_hold s.mode ≡ false → is_stop (first_key s) ≡ false → is_hold (bdos system s m).session.mode ≡ false

abbrev pub HoldingLaw : Type 0
HoldingLaw = (system : Disk) (s : Session) (m : Contents) → HoldsOutput system s m
