-- Where a session stands while it is played. All of it is own.
use Rattle.std.specs.Prelude.{⊤, ◌≡◌, ℕ, ◌-◌, ◌<◌, ◌≤◌, nat_le, min, List, [], ◌∷◌, ◌++◌, length, take, drop, slice_get, Option, Some, None, ◌⊎◌}
use Rattle.std.specs.Prelude.{true, false, if◌then◌else◌}
use Rattle.cpm_geom.specs.Disk.{Disk}
use Rattle.cpm_script.specs.declared.script.Key.{Key}
use Rattle.cpm_machine.specs.Alone.{due, alone}
use Rattle.cpm_machine.specs.Calls.{state_behind}
use Rattle.cpm_machine.specs.MachineState.{MachineState}
use Rattle.cpm_machine.specs.Step.{is_running}
use Rattle.cpm_play.specs.declared.pace.Pace.{Pace}
use Rattle.cpm_play.specs.Playing.{presses_of, runs_at, IsInOrder}

-- before the first turn
abbrev pub first_pace : ℕ → Pace
first_pace steps = record { pressed = 0; done = 0; until = steps }

-- that of a fork, which has come as far and executes so many steps in all
abbrev pub forked_pace : Pace → ℕ → Pace
forked_pace pace steps = record pace { until = steps }

-- the steps that it may still execute
abbrev pub left_in : Pace → ℕ
left_in pace = pace.until - pace.done

-- a key that comes after no more steps than were executed
abbrev pub due_at : ℕ → Option Key → Option ℕ
due_at done None = None
due_at done (Some key) = if nat_le key.count done then Some key.byte else None

-- no more steps than those to the next key
abbrev pub up_to : Option Key → ℕ → ℕ → ℕ
up_to None done n = n
up_to (Some key) done n = min n (key.count - done)

-- the next turn: at most a quantum, and none past the next key
abbrev pub turn_of : Pace → List Key → ℕ → ℕ
turn_of pace keys quantum = up_to (slice_get keys pace.pressed) pace.done (min (left_in pace) quantum)

-- the session is to execute all steps, or has ended
pub record IsOfAll (steps : ℕ) (pace : Pace) (now : MachineState) : Type 0 where
  pub within : pace.done ≤ pace.until
  pub most : pace.until ≤ steps
  pub all : (pace.until ≡ steps) ⊎ (is_running now.ended ≡ false)

-- each of these keys comes, behind the given ones
abbrev pub HaveComeAfter : Disk → MachineState → (steps : ℕ) → (given keys : List Key) → Type 0
HaveComeAfter system start steps given [] = ⊤
HaveComeAfter system start steps given (k ∷ keys) =
    (k.count < steps) × (runs_at system start given k.count ≡ true) × HaveComeAfter system start steps (given ++ k ∷ []) keys

-- The session went from a start so far: with the bytes that were taken put back in front,
-- it is the machine run alone for the keys that were pressed and the steps that were executed. The other keys are still to come.
pub record IsOn (system : Disk) (keys : List Key) (steps : ℕ) (start : MachineState) (pace : Pace) (console list : List ℕ) (now : MachineState) : Type 0 where
  pub state : state_behind console list now ≡ alone system (presses_of (take pace.pressed keys)) pace.done start
  pub came : (i : ℕ) → pace.done < i → due i (presses_of (take pace.pressed keys)) ≡ []
  pub coming : HaveComeAfter system start steps [] (take pace.pressed keys)
  pub later : IsInOrder pace.done (drop pace.pressed keys)
  pub within : pace.pressed ≤ length keys
  pub all : IsOfAll steps pace now
