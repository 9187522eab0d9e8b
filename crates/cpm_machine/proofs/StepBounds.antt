-- How much a step can change.
use Rattle.std.proofs.Common.{if◌then◌else◌, ◌+◌, ◌≤◌, Bool, true, false, Option, Some, None, arith, length}
use Rattle.cpm_geom.specs.Disk.{Disk}
use Rattle.cpm_memory.specs.Contents.{Contents, touched_of}
use Rattle.cpm_memory.specs.Room.{touched_of-after_sets}
use Rattle.cpm_console.proofs.Growth.{IsWithin-same}
use Rattle.cpm_console.specs.Terminal.{IsWithin}
use Rattle.cpm_flags.specs.declared.regs.Cpu.{Cpu}
use Rattle.cpm_flags.specs.declared.regs.Cpu.TheVariants.{I8080, Z80}
use Rattle.cpm_flags.specs.declared.regs.Regs.{Regs}
use Rattle.cpm_exec8080.proofs.FewStores.{few_stores as few_stores_8080}
use Rattle.cpm_execz80.proofs.FewStores.{few_step as few_stores_z80}
use Rattle.cpm_machine.specs.Processor.{effect_at}
use Rattle.cpm_bdos.proofs.Bounded.{IsBounded-bdos, IsBounded-bios}
use Rattle.cpm_ccp.proofs.BoundLaws.{IsBounded-ccp}
use Rattle.cpm_bdos.specs.Step.{bdos}
use Rattle.cpm_ccp.specs.Step.{ccp}
use Rattle.cpm_bdos.specs.Bounds.{IsFit}
use Rattle.cpm_bdos.specs.declared.session.Session.{Session}
use Rattle.cpm_bdos.specs.declared.session.Mode.{Mode}
use Rattle.cpm_bdos.specs.declared.session.Mode.TheVariants.{Program, Text, Line, Hold, Fault, Command}
use Rattle.cpm_machine.specs.declared.trap.Trap.{Trap}
use Rattle.cpm_machine.specs.declared.trap.Trap.TheVariants.{CommandProcessor, Bdos, Bios}
use Rattle.cpm_machine.specs.Trap.{trap_at}
use Rattle.cpm_machine.specs.MachineState.{MachineState}
use Rattle.cpm_machine.specs.Step.{PartResult, part, part_in, at_trap, by_call, step_if, is_running, step}
use Rattle.cpm_machine.specs.Laws.{IsStepBounded}

few_stores : (cpu : Cpu) (m : Contents) (regs : Regs) → length (effect_at cpu m regs).stores ≤ 2
few_stores I8080 m regs = few_stores_8080 m regs
few_stores Z80 m regs = few_stores_z80 m regs

record IsBoundedPart (s : Session) (m : Contents) (x : PartResult) : Type 0 where
  pages : touched_of x.memory ≤ touched_of m + 8
  output : IsWithin 4096 s.console x.session.console

bounded_call : (system : Disk) (s : Session) (m : Contents) → IsFit s → IsBoundedPart s m (by_call (bdos system s m))
bounded_call system s m fit = let b = IsBounded-bdos system s m fit in record { pages = b.pages; output = b.output }

bounded_command : (system : Disk) (s : Session) (m : Contents) → IsFit s → IsBoundedPart s m (by_call (ccp system s m))
bounded_command system s m fit = let b = IsBounded-ccp system s m fit in record { pages = b.pages; output = b.output }

bounded_trap : (system : Disk) (cpu : Cpu) (with_program : Bool) (t : Option Trap) (s : Session) (m : Contents) → IsFit s → IsBoundedPart s m (at_trap system cpu with_program t s m)
bounded_trap system cpu with_program None s m fit = record {
  pages = omega (arith, few_stores cpu m s.regs, touched_of-after_sets m (effect_at cpu m s.regs).stores);
  output = IsWithin-same 4096 s.console;
}
bounded_trap system cpu true (Some CommandProcessor) s m fit = record { pages = omega arith; output = IsWithin-same 4096 s.console }
bounded_trap system cpu false (Some CommandProcessor) s m fit = bounded_command system s m fit
bounded_trap system cpu with_program (Some Bdos) s m fit = bounded_call system s m fit
bounded_trap system cpu with_program (Some (Bios number)) s m fit =
    let b = IsBounded-bios number system s m fit in record { pages = b.pages; output = b.output }

bounded_mode : (system : Disk) (cpu : Cpu) (with_program : Bool) (mode : Mode) (s : Session) (m : Contents) → IsFit s → IsBoundedPart s m (part_in system cpu with_program mode s m)
bounded_mode system cpu with_program Program s m fit = bounded_trap system cpu with_program (trap_at s.regs.pc) s m fit
bounded_mode system cpu with_program (Text next) s m fit = bounded_call system s m fit
bounded_mode system cpu with_program Line s m fit = bounded_call system s m fit
bounded_mode system cpu with_program (Hold held) s m fit = bounded_call system s m fit
bounded_mode system cpu with_program Fault s m fit = bounded_call system s m fit
bounded_mode system cpu with_program (Command part) s m fit = bounded_command system s m fit

bounded_part : (system : Disk) (cpu : Cpu) (with_program : Bool) (s : Session) (m : Contents) → IsFit s → IsBoundedPart s m (part system cpu with_program s m)
unfolding part
bounded_part system cpu with_program s m fit = bounded_mode system cpu with_program s.mode s m fit

bounded_if : (system : Disk) (b : Bool) (s : MachineState) → IsFit s.session → IsStepBounded s (step_if system b s)
bounded_if system true s fit = let x = bounded_part system s.cpu s.with_program s.session s.memory fit in record { pages = x.pages; output = x.output }
bounded_if system false s fit = record { pages = omega arith; output = IsWithin-same 4096 s.session.console }

pub IsBounded-step : (system : Disk) (s : MachineState) → IsFit s.session → IsStepBounded s (step system s)
unfolding step
IsBounded-step system s fit = bounded_if system (is_running s.ended) s fit

-- a step that is made, or not
pub IsBounded-once : (system : Disk) (b : Bool) (s : MachineState) → IsFit s.session → IsStepBounded s (if b then step system s else s)
IsBounded-once system true s fit = IsBounded-step system s fit
IsBounded-once system false s fit = record { pages = omega arith; output = IsWithin-same 4096 s.session.console }
