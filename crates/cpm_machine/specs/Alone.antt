-- The machine run alone, whose keys are given beforehand.
use Rattle.std.specs.Prelude.{ℕ, zero, suc, List, [], ◌∷◌, ◌++◌, ◌==◌, if◌then◌else◌}
use Rattle.cpm_geom.specs.Disk.{Disk}
use Rattle.cpm_machine.specs.MachineState.{MachineState}
use Rattle.cpm_machine.specs.Step.{step}

-- a key, and how many steps are executed before it comes
pub record Press : Type 0 where
  pub after : ℕ
  pub key : ℕ

-- the keys that come after so many steps, in their order
abbrev pub due : ℕ → List Press → List ℕ
due count [] = []
due count (press ∷ presses) = if press.after == count then press.key ∷ due count presses else due count presses

-- the state with keys pressed
abbrev pub with_keys : List ℕ → MachineState → MachineState
with_keys keys s =
    record s { session = record s.session { console = record s.session.console { keys = s.session.console.keys ++ keys } } }

-- own: the machine run alone for so many steps with this system drive.
-- A key that comes after some steps can be read by the step that begins then, and by later ones.
abbrev pub alone : Disk → List Press → ℕ → MachineState → MachineState
alone system presses zero s = with_keys (due 0 presses) s
alone system presses (suc n) s = with_keys (due (suc n) presses) (step system (alone system presses n s))
