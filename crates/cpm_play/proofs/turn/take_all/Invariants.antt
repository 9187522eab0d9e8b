use Rattle.std.proofs.Common.{◌≡◌, ℕ, [], length}
use Rattle.cpm_console.specs.declared.device.Device.{Device}
use Rattle.cpm_slots.specs.Host.{slot_at}
use Rattle.cpm_machine.specs.MachineState.{MachineState}
use Rattle.cpm_play.specs.ScriptedSlots.{waits_in, IsPlaying, Moves}
use Rattle.cpm_play.proofs.turn.take_all.Given as goal

abbrev pub invariant-loop : goal.invariant-loop
invariant-loop l = record {
  playing : (steps : ℕ) (start : MachineState) → IsPlaying steps start l.fn.slot l.fn.host.host → IsPlaying steps start l.slot l.host.host;
  stays : (other : Device) → waits_in other (slot_at l.fn.slot.id.0 l.fn.host.host.slots) ≡ [] → waits_in other (slot_at l.slot.id.0 l.host.host.slots) ≡ [];
  moves : Moves l.fn.slot l.slot l.fn.host.host l.host.host;
  pace : l.slot.pace ≡ l.fn.slot.pace;
  room : length l.chunk ≡ 512;
}

abbrev pub decreases-loop : goal.decreases-loop
decreases-loop l = length (waits_in l.device (slot_at l.slot.id.0 l.host.host.slots))
