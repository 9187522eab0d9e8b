-- What call a step of a machine is, and whether it waits. (own)
use Rattle.std.specs.Prelude.{◌≡◌, Bool, true, false, Option, Some, None, ◌⊎◌}
use Rattle.cpm_geom.specs.Disk.{Disk}
use Rattle.cpm_memory.specs.Contents.{Contents}
use Rattle.cpm_bdos.specs.StepResult.{StepResult}
use Rattle.cpm_bdos.specs.Step.{bdos, bios}
use Rattle.cpm_ccp.specs.Step.{ccp}
use Rattle.cpm_bdos.specs.declared.session.Session.{Session}
use Rattle.cpm_bdos.specs.declared.session.Mode.{Mode}
use Rattle.cpm_bdos.specs.declared.session.Mode.TheVariants.{Program, Command}
use Rattle.cpm_bdos.specs.declared.session.Went.{Went}
use Rattle.cpm_bdos.specs.declared.session.Went.TheVariants.{Returned, Waits, GoesOn, Reboot}
use Rattle.cpm_machine.specs.declared.steps.Outcome.TheVariants as outcome
use Rattle.cpm_machine.specs.declared.trap.Trap.{Trap}
use Rattle.cpm_machine.specs.declared.trap.Trap.TheVariants.{CommandProcessor, Bdos, Bios}
use Rattle.cpm_machine.specs.Trap.{trap_at}
use Rattle.cpm_machine.specs.MachineState.{MachineState}
use Rattle.cpm_machine.specs.Serve.{look_of}
use Rattle.cpm_machine.specs.Step.{part_made, instruction, part, by_call, after_part, is_running, step}

-- a machine made with a program ends at the command processor, which is no call (own)
abbrev pub call_at_prompt : Disk → Bool → Session → Contents → Option StepResult
call_at_prompt system true s m = None
call_at_prompt system false s m = Some (ccp system s m)

-- the call that is done at a trap, with what it leaves; an instruction is none (own)
abbrev pub call_at : Disk → Bool → Option Trap → Session → Contents → Option StepResult
call_at system with_program None s m = None
call_at system with_program (Some CommandProcessor) s m = call_at_prompt system with_program s m
call_at system with_program (Some Bdos) s m = Some (bdos system s m)
call_at system with_program (Some (Bios number)) s m = Some (bios number system s m)

-- the call, or the part of the command processor, of which the mode asks a step (own)
abbrev pub call_of : Disk → Bool → Mode → Session → Contents → Option StepResult
call_of system with_program Program s m = call_at system with_program (trap_at s.regs.pc) s m
call_of system with_program (Command part) s m = Some (ccp system s m)
call_of system with_program _ s m = Some (bdos system s m)

-- that of the next step of a session that runs (own)
abbrev pub next_call : Disk → MachineState → Option StepResult
next_call system s = call_of system s.with_program s.session.mode s.session s.memory

-- it needs a key, and none is pending (own)
abbrev pub is_wait : Went → Bool
is_wait Waits = true
is_wait Returned = false
is_wait GoesOn = false
is_wait Reboot = false

-- so does a step of this call, and no instruction (own)
abbrev pub is_waiting_call : Option StepResult → Bool
is_waiting_call None = false
is_waiting_call (Some d) = is_wait d.went

-- A session that runs is said to wait exactly where its next step is that of a call which needs a key and finds none. (own)
pub record WaitsWhereItSays (system : Disk) (s : MachineState) : Type 0 where
  pub waiting : is_running s.ended ≡ true → (look_of s).waiting ≡ is_waiting_call (next_call system s)
  -- one that has ended doesn't wait, and no step changes it
  pub ended : is_running s.ended ≡ false → ((look_of s).waiting ≡ false) × (step system s ≡ s)
  -- the step is that call
  pub call : (d : StepResult) → is_running s.ended ≡ true → next_call system s ≡ Some d → step system s ≡ after_part s (by_call d)
  -- where there is none it is an instruction, or the end of a machine made with a program
  pub other : is_running s.ended ≡ true → next_call system s ≡ None
      → (step system s ≡ after_part s (instruction s.cpu s.session s.memory)) ⊎ (step system s ≡ after_part s (part_made s.session s.memory outcome.Exits))
