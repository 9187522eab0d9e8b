-- A step of a machine takes the first key at most.
use Rattle.std.proofs.Common.{Bool, true, false, Option, Some, None}
use Rattle.cpm_geom.specs.Disk.{Disk}
use Rattle.cpm_memory.specs.Contents.{Contents}
use Rattle.cpm_flags.specs.declared.regs.Cpu.{Cpu}
use Rattle.cpm_bdos.specs.KeysTaken.{IsFromFront}
use Rattle.cpm_bdos.proofs.KeyLaws.{none_taken, length-left, keys-bdos, keys-bios}
use Rattle.cpm_ccp.proofs.KeyLaws.{keys-ccp}
use Rattle.cpm_bdos.specs.declared.session.Session.{Session}
use Rattle.cpm_bdos.specs.declared.session.Mode.{Mode}
use Rattle.cpm_bdos.specs.declared.session.Mode.TheVariants.{Program, Text, Line, Hold, Fault, Command}
use Rattle.cpm_machine.specs.declared.trap.Trap.{Trap}
use Rattle.cpm_machine.specs.declared.trap.Trap.TheVariants.{CommandProcessor, Bdos, Bios}
use Rattle.cpm_machine.specs.Trap.{trap_at}
use Rattle.cpm_machine.specs.MachineState.{MachineState}
use Rattle.cpm_machine.specs.Step.{PartResult, part, part_in, at_trap, step_if, is_running, step}
use Rattle.cpm_machine.specs.Laws.{KeysLeave, KeysFromFront}

abbrev Takes : Session → PartResult → Type 0
Takes s x = IsFromFront s.console.keys x.session.console.keys

takes_trap : (system : Disk) (cpu : Cpu) (with_program : Bool) (t : Option Trap) (s : Session) (m : Contents) → Takes s (at_trap system cpu with_program t s m)
takes_trap system cpu with_program None s m = none_taken s.console.keys
takes_trap system cpu true (Some CommandProcessor) s m = none_taken s.console.keys
takes_trap system cpu false (Some CommandProcessor) s m = keys-ccp system s m
takes_trap system cpu with_program (Some Bdos) s m = keys-bdos system s m
takes_trap system cpu with_program (Some (Bios number)) s m = keys-bios number system s m

takes_mode : (system : Disk) (cpu : Cpu) (with_program : Bool) (mode : Mode) (s : Session) (m : Contents) → Takes s (part_in system cpu with_program mode s m)
takes_mode system cpu with_program Program s m = takes_trap system cpu with_program (trap_at s.regs.pc) s m
takes_mode system cpu with_program (Text next) s m = keys-bdos system s m
takes_mode system cpu with_program Line s m = keys-bdos system s m
takes_mode system cpu with_program (Hold held) s m = keys-bdos system s m
takes_mode system cpu with_program Fault s m = keys-bdos system s m
takes_mode system cpu with_program (Command part) s m = keys-ccp system s m

takes_part : (system : Disk) (cpu : Cpu) (with_program : Bool) (s : Session) (m : Contents) → Takes s (part system cpu with_program s m)
unfolding part
takes_part system cpu with_program s m = takes_mode system cpu with_program s.mode s m

takes_if : (system : Disk) (b : Bool) (s : MachineState) → IsFromFront s.session.console.keys (step_if system b s).session.console.keys
takes_if system true s = takes_part system s.cpu s.with_program s.session s.memory
takes_if system false s = none_taken s.session.console.keys

pub keys_from_front-step : KeysFromFront
unfolding step
keys_from_front-step system s = takes_if system (is_running s.ended) s

pub keys_leave-step : KeysLeave
keys_leave-step system s =
    length-left s.session.console.keys (step system s).session.console.keys (keys_from_front-step system s)
