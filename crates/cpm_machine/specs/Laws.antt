-- Laws over the step, whatever the system drive.
use Rattle.std.specs.Prelude.{◌≡◌, ℕ, ◌+◌, ◌<◌, ◌≤◌, List, [], ◌++◌, length, Bool, true, false}
use Rattle.cpm_geom.specs.Disk.{Disk}
use Rattle.cpm_memory.specs.Contents.{touched_of}
use Rattle.cpm_console.specs.Terminal.{IsWithin, step_output}
use Rattle.cpm_bdos.specs.Bounds.{IsFit}
use Rattle.cpm_bdos.specs.KeysTaken.{IsFromFront}
use Rattle.cpm_machine.specs.declared.steps.Outcome.TheVariants as outcome
use Rattle.cpm_machine.specs.MachineState.{MachineState}
use Rattle.cpm_machine.specs.Step.{step, after, can_step, after_part, part_made}
use Rattle.cpm_machine.specs.Serve.{executed, look_of}
use Rattle.cpm_machine.specs.ToWait.{can_work, executed_to_wait}
use Rattle.cpm_machine.specs.Until.{can_go_on, executed_until}
use Rattle.cpm_machine.specs.Waits.{WaitsWhereItSays}
use Rattle.cpm_machine.specs.Alone.{Press, due, alone}
use Rattle.cpm_machine.specs.Calls.{Call, no_account, account_after, state_after, state_behind}
use Rattle.cpm_machine.specs.MachineCalls.{MachineCall, account_after_all, state_after_all}

-- the number is the greatest up to n below which the test holds everywhere
pub record IsLongest (test : ℕ → Bool) (n k : ℕ) : Type 0 where
  pub within : k ≤ n
  pub each : (i : ℕ) → i < k → test i ≡ true
  pub greatest : k < n → test k ≡ false

-- what a grant executes is the greatest number of steps that can be made
abbrev pub Greatest : Type 0
Greatest = (system : Disk) (n : ℕ) (s : MachineState) → IsLongest (λ k. can_step (after system k s)) n (executed system n s)

-- a grant up to a wait executes the greatest number of steps of which each can be made and waits for no key
abbrev pub GreatestToWait : Type 0
GreatestToWait = (system : Disk) (n : ℕ) (s : MachineState) → IsLongest (λ k. can_work (after system k s)) n (executed_to_wait system n s)

-- a grant up to an address executes the greatest number of steps of which each can be made and none but the first begins there in the program
abbrev pub GreatestUntil : Type 0
GreatestUntil = (system : Disk) (pc n : ℕ) (s : MachineState) → IsLongest (λ k. can_go_on pc k (after system k s)) n (executed_until system pc n s)

-- two grants are one of the sum
abbrev pub Cutting : Type 0
Cutting = (system : Disk) (a b : ℕ) (s : MachineState) →
    let k = executed system a s in
    let l = executed system b (after system k s) in
    (executed system (a + b) s ≡ k + l) × (after system (k + l) s ≡ after system l (after system k s))

-- a step newly writes at most 8 pages, and puts at most 4,096 bytes on each device
pub record IsStepBounded (old new : MachineState) : Type 0 where
  pub pages : touched_of new.memory ≤ touched_of old.memory + 8
  pub output : IsWithin step_output old.session.console new.session.console

abbrev pub BoundedSteps : Type 0
BoundedSteps = (system : Disk) (s : MachineState) → IsFit s.session → IsStepBounded s (step system s)

-- a step takes pending keys from the front alone, and adds none
abbrev pub KeysLeave : Type 0
KeysLeave = (system : Disk) (s : MachineState) → length (step system s).session.console.keys ≤ length s.session.console.keys

-- it takes the first one or none, and the others stay in their order
abbrev pub KeysFromFront : Type 0
KeysFromFront = (system : Disk) (s : MachineState) → IsFromFront s.session.console.keys (step system s).session.console.keys

-- After any calls the state, with the bytes that were taken put back in front, is that of the machine run alone from the start, for the keys that were accepted
-- and the steps that were executed: whatever was taken and looked at, however the grants were cut, and as if the keys had been known beforehand.
abbrev pub Alone : Type 0
Alone = (system : Disk) (calls : List Call) (start : MachineState) →
    let a = account_after system calls no_account start in
    state_behind a.screen a.printer (state_after system calls start) ≡ alone system a.presses a.executed start

-- And so it is with all calls that a machine has, single steps and grants up to a wait among them.
abbrev pub AloneByAllCalls : Type 0
AloneByAllCalls = (system : Disk) (calls : List MachineCall) (start : MachineState) →
    let a = account_after_all system calls no_account start in
    state_behind a.screen a.printer (state_after_all system calls start) ≡ alone system a.presses a.executed start

-- a step of a machine that waits for a key changes its count alone, and its end by that
abbrev pub WaitingSteps : Type 0
WaitingSteps = (system : Disk) (s : MachineState) → (look_of s).waiting ≡ true → step system s ≡ after_part s (part_made s.session s.memory outcome.GoesOn)

-- And it is said to wait nowhere else: exactly where its next step is that of a call which needs a key and finds none.
abbrev pub WaitsExactly : Type 0
WaitsExactly = (system : Disk) (s : MachineState) → WaitsWhereItSays system s

-- keys that come later make no difference
abbrev pub LateKeys : Type 0
LateKeys = (system : Disk) (presses later : List Press) (n : ℕ) (start : MachineState) → ((i : ℕ) → i ≤ n → due i later ≡ []) →
    alone system (presses ++ later) n start ≡ alone system presses n start
