use Rattle.std.proofs.Common.{◌≡◌, ◌-◌, ◌++◌, Some}
use Rattle.cpm_machine.specs.MachineState.{MachineState}
use Rattle.cpm_memory.specs.Contents.{run_at}
use Rattle.cpm_slots.specs.Host.{slot_at}
use Rattle.cpm_serve.proofs.slot.memory_bytes.Given as goal

-- the bytes so far, and those to come, are all
abbrev pub invariant-loop : goal.invariant-loop
invariant-loop l = (s : MachineState) → slot_at l.id.0 l.host.host.slots ≡ Some s →
    l.bytes.items ++ run_at s.memory l.place (l.length - l.counter) ≡ run_at s.memory l.address l.length
