-- Whether the keys of sessions can be pressed. All of it is own.
use Rattle.std.specs.Prelude.{◌≡◌, ◌+◌, ℕ, List, ◌++◌, ◌≤◌, length, slice_get, Some, IfSome}
use Rattle.cpm_batch.specs.Inputs.{Forks, IsOpened, Opens, Restores, StartInput}
use Rattle.cpm_geom.specs.Disk.{Disk}
use Rattle.cpm_machine.specs.MachineState.{opened_machine}
use Rattle.cpm_play.specs.Playing.{HaveRoom, IsInOrder}
use Rattle.cpm_script.specs.Fork.{keys_before}
use Rattle.cpm_script.specs.Script.{most_keys}
use Rattle.cpm_script.specs.declared.script.Key.{Key}
use Rattle.cpm_run.specs.Settled.{SettledSession, opening_of, start_by, starts_of}

-- the keys of a forked session can be pressed: they are those of a session that isn't before the fork and then others in order,
-- the machine takes each where it comes, and it has the steps up to the fork
pub record IsForkPressable (system : Disk) (inputs : List SettledSession) (i : SettledSession) (parent at : ℕ) : Type 0 where
  pub other : SettledSession
  pub there : slice_get inputs parent ≡ Some other
  pub opened : IsOpened other.start
  pub own : List Key
  pub keys : i.keys ≡ keys_before at other.keys ++ own
  pub order : IsInOrder at own
  pub room : HaveRoom system (opening_of other.start) i.keys
  pub within : at ≤ i.steps

-- those of one that isn't: their counts don't fall, and the machine takes each where it comes
abbrev pub IsPressableBy : Disk → List SettledSession → StartInput → SettledSession → Type 0
IsPressableBy system inputs (Opens cpu quota drives) i = IsInOrder 0 i.keys × HaveRoom system (opened_machine cpu quota drives) i.keys
IsPressableBy system inputs (Forks parent at) i = IsForkPressable system inputs i parent at
IsPressableBy system inputs (Restores x) i = IsInOrder 0 i.keys × HaveRoom system x.state i.keys

-- those of each session
abbrev pub ArePressable : Disk → List SettledSession → Type 0
ArePressable system inputs = (place : ℕ) → IfSome (slice_get inputs place) (λ i. IsPressableBy system inputs i.start i)

-- a session has no more keys than may be pending, with those that are where it begins
abbrev pub HasFewKeys : List SettledSession → SettledSession → Type 0
HasFewKeys inputs i = length (start_by (starts_of inputs) i.start).session.console.keys + length i.keys ≤ most_keys

-- and so each of a run
abbrev pub HaveFewKeys : List SettledSession → Type 0
HaveFewKeys inputs = (place : ℕ) → IfSome (slice_get inputs place) (HasFewKeys inputs)
