-- The state of a machine.
use Rattle.std.specs.Prelude.{ℕ, ◌++◌, Bool, true, false, List}
use Rattle.cpm_flags.specs.declared.regs.Cpu.{Cpu}
use Rattle.cpm_geom.specs.Disk.{Disk}
use Rattle.cpm_memory.specs.Contents.{Contents, Write, run_puts, word_puts, after_sets}
use Rattle.cpm_memory.specs.Layout.{command_processor_address, program_address, stack_address}
use Rattle.cpm_memory.specs.Opening.{opening}
use Rattle.cpm_console.specs.Terminal.{blank_terminal}
use Rattle.cpm_bdos.specs.Step.{opened_session}
use Rattle.cpm_bdos.specs.declared.session.Session.{Session}
use Rattle.cpm_ccp.specs.Loading.{memory_started}
use Rattle.cpm_machine.specs.declared.reply.End.{End}
use Rattle.cpm_machine.specs.declared.reply.End.TheVariants.{Running}

pub record MachineState : Type 0 where
  pub cpu : Cpu
  -- the registers, the call in progress, and the console with the bytes that wait to be taken
  pub session : Session
  -- the bytes, and which pages were written
  pub memory : Contents
  -- how many pages may be written, 256 for all
  pub quota : ℕ
  -- the steps executed since the opening
  pub count : ℕ
  pub ended : End
  -- whether it was made with a program, and so ends at the command processor
  pub with_program : Bool

-- the stores that make a machine with a program: the program at 0100h, and the address of the command processor on the stack
abbrev pub program_puts : List ℕ → List Write
program_puts program = run_puts program_address program ++ word_puts stack_address command_processor_address

-- own: a machine at its opening, with this quota and these drives, begins at the command processor, and nothing is written
abbrev pub opened_machine : Cpu → ℕ → List Disk → MachineState
opened_machine cpu quota drives = record {
  cpu = cpu;
  session = opened_session blank_terminal drives;
  memory = opening quota;
  quota = quota;
  count = 0;
  ended = Running;
  with_program = false;
}

-- own: with a program it is the same but for those stores, and begins at 0100h
abbrev pub program_loaded : List ℕ → MachineState → MachineState
program_loaded program s =
    record s {
      session = record s.session { regs = record s.session.regs { pc = program_address } };
      memory = after_sets s.memory (program_puts program);
      with_program = true;
    }

-- own: a machine made with a program, which may write all pages
abbrev pub opened_with : Cpu → List Disk → List ℕ → MachineState
opened_with cpu drives program = program_loaded program (opened_machine cpu 256 drives)

-- own: a machine with a program and the tail of its command, which lies where the command processor would leave it
abbrev pub with_tail : List ℕ → MachineState → MachineState
with_tail tail s = record s { memory = memory_started tail s.memory }
