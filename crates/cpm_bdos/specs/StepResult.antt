-- What a step of a call leaves, and the two ends that every call may come to.
use Rattle.std.specs.Prelude.{ℕ, false}
use Rattle.cpm_memory.specs.Contents.{Contents, word_at, after_run}
use Rattle.cpm_memory.specs.Layout.{command_processor_address, stack_address, default_buffer_address, warm_boot_jump, bdos_jump}
use Rattle.cpm_drives.specs.Selecting.{rebooted_disks}
use Rattle.cpm_bdos.specs.Registers.{with_call_result, returned_to}
use Rattle.cpm_bdos.specs.declared.session.Session.{Session}
use Rattle.cpm_bdos.specs.declared.session.Mode.TheVariants.{Program}
use Rattle.cpm_bdos.specs.declared.session.Went.{Went}
use Rattle.cpm_bdos.specs.declared.session.Went.TheVariants.{Returned, Reboot}

-- the session and the memory after a step, and how it ended
pub record StepResult : Type 0 where
  pub session : Session
  pub memory : Contents
  pub went : Went

abbrev pub did : Session → Contents → Went → StepResult
did s m went = record { session = s; memory = m; went = went }

-- a call that ends returns as RET does
abbrev pub call_returned : Session → Contents → StepResult
call_returned s m = did (record s { regs = returned_to s.regs (word_at m s.regs.sp); mode = Program }) m Returned

-- and gives its result
abbrev pub answered : Session → Contents → ℕ → StepResult
answered s m value = call_returned (record s { regs = with_call_result s.regs value }) m

-- CP/M 2.2 Operating System Manual, section 6.6, The BIOS Entry Points, WBOOT: the jumps at 0000h and 0005h are restored;
-- own: SP is EBFEh, and PC E406h, where the command processor begins; the echo to the list device is off;
-- no drive is logged in or protected, no search is under way, and the buffer is at 0080h. Only bytes that change are stored.
abbrev pub rebooted : Session → Contents → StepResult
rebooted s m =
    did (record s {
      regs = record s.regs { sp = stack_address; pc = command_processor_address };
      console = record s.console { list_echo = false };
      mode = Program;
      disks = rebooted_disks s.disks;
      buffer = default_buffer_address;
    })
    (after_run (after_run m 0x0000 warm_boot_jump) 0x0005 bdos_jump) Reboot
