-- The calls to one machine: those that a slot of a host has too, and two of its own. (own)
use Rattle.std.specs.Prelude.{ℕ, ◌+◌, List, [], ◌∷◌, if◌then◌else◌}
use Rattle.cpm_geom.specs.Disk.{Disk}
use Rattle.cpm_machine.specs.MachineState.{MachineState}
use Rattle.cpm_machine.specs.Step.{step, after, can_step}
use Rattle.cpm_machine.specs.ToWait.{executed_to_wait}
use Rattle.cpm_machine.specs.Calls.{Call, Account, serve, entered}

-- a call that a slot has too, one step, or steps granted up to a wait for a key
pub data MachineCall : Type 0 where
  SlotCall : (call : Call) → MachineCall
  OneStep : MachineCall
  GrantToWait : (steps : ℕ) → MachineCall

-- the state after a call
abbrev pub state_after_call : Disk → MachineCall → MachineState → MachineState
state_after_call system (SlotCall call) s = (serve system call s).state
state_after_call system OneStep s = if can_step s then step system s else s
state_after_call system (GrantToWait steps) s = after system (executed_to_wait system steps s) s

-- the account after it: the two others execute steps and do nothing else
abbrev pub account_after_call : Disk → MachineCall → Account → MachineState → Account
account_after_call system (SlotCall call) a s = entered a call (serve system call s).answer
account_after_call system OneStep a s = record a { executed = a.executed + (if can_step s then 1 else 0) }
account_after_call system (GrantToWait steps) a s = record a { executed = a.executed + executed_to_wait system steps s }

-- the state, and the account, after some of these calls
abbrev pub state_after_all : Disk → List MachineCall → MachineState → MachineState
state_after_all system [] s = s
state_after_all system (call ∷ calls) s = state_after_all system calls (state_after_call system call s)

abbrev pub account_after_all : Disk → List MachineCall → Account → MachineState → Account
account_after_all system [] a s = a
account_after_all system (call ∷ calls) a s = account_after_all system calls (account_after_call system call a s) (state_after_call system call s)
