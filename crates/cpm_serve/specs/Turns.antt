-- The parts of a turn, of a slot that is open. All of it is own.
use Rattle.std.specs.Prelude.{◌≡◌, ℕ, Bool, List, take}
use Rattle.cpm_console.specs.Terminal.{waiting_on}
use Rattle.cpm_console.specs.declared.device.Device.{Device}
use Rattle.cpm_machine.specs.Calls.{Grant}
use Rattle.cpm_machine.specs.MachineState.{MachineState}
use Rattle.cpm_machine.specs.Serve.{look_of}
use Rattle.cpm_slots.specs.Host.{Host, after_ask}
use Rattle.cpm_slots.specs.Serving.{Calls, take_call}
use Rattle.cpm_protocol.specs.declared.word.GrantStop.{GrantStop}
use Rattle.cpm_protocol.specs.declared.word.WireEnd.{WireEnd}
use Rattle.cpm_serve.specs.Seen.{end_seen}
use Rattle.cpm_serve.specs.Slot.{granted_to_wait, turn_bytes}

-- it was granted steps up to a wait
pub record IsWorked (id steps : ℕ) (made : ℕ × GrantStop) (old new : Host) (s : MachineState) : Type 0 where
  pub made_is : made ≡ granted_to_wait old.system steps s
  pub host : new ≡ after_ask old id (Calls (Grant made.0))

-- the first bytes of a device were taken
pub record IsMoved (id : ℕ) (device : Device) (bytes : List ℕ) (old new : Host) (s : MachineState) : Type 0 where
  pub bytes_are : bytes ≡ take turn_bytes (waiting_on device s.session.console)
  pub host : new ≡ after_ask old id (Calls (take_call device turn_bytes))

-- it was looked at
pub record IsSeen (seen : Bool × WireEnd) (old new : Host) (s : MachineState) : Type 0 where
  pub seen_is : seen ≡ ((look_of s).waiting, end_seen (look_of s).ended)
  pub host : new ≡ old
