-- One step of a call of the BDOS or the BIOS, as a function of the system drive, the session and the memory.
use Rattle.std.specs.Prelude.{ℕ, List, [], ◌∷◌, Option, Some, None, replicate}
use Rattle.cpm_geom.specs.Disk.{Disk}
use Rattle.cpm_console.specs.Terminal.{Terminal}
use Rattle.cpm_console.specs.Editing.{begun_line}
use Rattle.cpm_memory.specs.Contents.{Contents, byte_at, after_run}
use Rattle.cpm_memory.specs.Layout.{io_byte_address, default_buffer_address}
use Rattle.cpm_memory.specs.DiskTables.{parameter_block_address}
use Rattle.cpm_bdos.specs.Registers.{at_opening, pair_de}
use Rattle.cpm_bdos.specs.Function.{function_of, bios_call_of}
use Rattle.cpm_bdos.specs.StepResult.{StepResult, did, call_returned, answered, rebooted}
use Rattle.cpm_bdos.specs.Keys.{first_key, took_key, console_status}
use Rattle.cpm_bdos.specs.Hold.{release}
use Rattle.cpm_bdos.specs.Output.{showed, list_byte, write_byte, write_text}
use Rattle.cpm_bdos.specs.Input.{read_key, direct_console}
use Rattle.cpm_bdos.specs.ReadLine.{read_line, edit_line}
use Rattle.cpm_bdos.specs.Faults.{after_fault}
use Rattle.cpm_volume.specs.declared.fcb.Fcb.{Fcb}
use Rattle.cpm_drives.specs.Disks.{opened_disks}
use Rattle.cpm_drives.specs.Selecting.{drives_reset, protect}
use Rattle.cpm_drives.specs.Vectors.{login_vector, read_only_vector}
use Rattle.cpm_bdos.specs.Disks.{with_disks, reset_disks, select_disk, call_file_function, format_in, give_allocation, user_code}
use Rattle.cpm_bdos.specs.BiosDisks.{returned_a, home, select_drive, set_track, set_sector, set_sector_buffer, read_sector, write_sector, translate}
use Rattle.cpm_bdos.specs.declared.function.Function.{Function}
use Rattle.cpm_bdos.specs.declared.function.Function.TheVariants.{WarmBoot, ReadKey, WriteByte, ReaderInput, PunchOutput, ListOutput, DirectConsole}
use Rattle.cpm_bdos.specs.declared.function.Function.TheVariants.{GetIoByte, SetIoByte, WriteText, ReadLine, ConsoleStatus, Version, ResetDisks}
use Rattle.cpm_bdos.specs.declared.function.Function.TheVariants.{SelectDisk, File, LoginVector, CurrentDisk, SetBuffer, AllocationVector}
use Rattle.cpm_bdos.specs.declared.function.Function.TheVariants.{ProtectDisk, ReadOnlyVector, DiskParameters, UserCode, ResetDrives, Other}
use Rattle.cpm_bdos.specs.declared.function.BiosCall.{BiosCall}
use Rattle.cpm_bdos.specs.declared.function.BiosCall.TheVariants as entry
use Rattle.cpm_bdos.specs.declared.session.Session.{Session}
use Rattle.cpm_bdos.specs.declared.session.HeldOutput.TheVariants as held
use Rattle.cpm_bdos.specs.declared.session.Mode.{Mode}
use Rattle.cpm_bdos.specs.declared.session.Mode.TheVariants.{Program, Text, Line, Hold, Fault, Command}
use Rattle.cpm_bdos.specs.declared.session.Went.TheVariants.{Waits, GoesOn}

-- a blank file control block
abbrev pub no_file : Fcb
no_file =
    record {
      drive = 0;
      extent = record { name = replicate 11 0x20; ex = 0; s1 = 0; s2 = 0; record_count = 0; blocks = replicate 16 0 };
      current_record = 0;
      random_record = 0 ∷ 0 ∷ 0 ∷ [];
    }

-- own: a session at its opening, with its drives; the BIOS stands at track 0, sector 1 of drive A
abbrev pub opened_session : Terminal → List Disk → Session
opened_session console images =
    record {
      regs = at_opening;
      console = console;
      line = begun_line 0 0;
      mode = Program;
      disks = opened_disks images;
      buffer = default_buffer_address;
      place = record { drive = 0; track = 0; sector = 1; buffer = default_buffer_address };
      file = no_file;
    }

-- CP/M 2.2 Operating System Manual, section 5.2, Operating System Call Conventions: the first step of a call, by its function.
-- Own: the reader gives 1Ah, what is punched is dropped, and a number without a function gives 0.
abbrev pub function_called : Function → Disk → Session → Contents → StepResult
function_called WarmBoot system s m = rebooted s m
function_called ReadKey system s m = read_key (first_key s) s m
function_called WriteByte system s m = write_byte s m
function_called ReaderInput system s m = answered s m 0x1A
function_called PunchOutput system s m = answered s m 0
function_called ListOutput system s m = answered (list_byte s s.regs.e) m 0
function_called DirectConsole system s m = direct_console s.regs.e s m
function_called GetIoByte system s m = answered s m (byte_at m io_byte_address)
function_called SetIoByte system s m = answered s (after_run m io_byte_address (s.regs.e ∷ [])) 0
function_called WriteText system s m = write_text held.Call s m (pair_de s.regs)
function_called ReadLine system s m = read_line s m
function_called ConsoleStatus system s m = answered s m (console_status (first_key s))
function_called Version system s m = answered s m 0x0022
function_called ResetDisks system s m = reset_disks system s m
function_called SelectDisk system s m = select_disk system s m
function_called (File function) system s m = call_file_function function system s m
function_called LoginVector system s m = answered s m (login_vector s.disks)
function_called CurrentDisk system s m = answered s m s.disks.current
function_called SetBuffer system s m = answered (record s { buffer = pair_de s.regs }) m 0
function_called AllocationVector system s m = give_allocation system s m
function_called ProtectDisk system s m = answered (with_disks s (protect s.disks system)) m 0
function_called ReadOnlyVector system s m = answered s m (read_only_vector s.disks)
function_called DiskParameters system s m = answered s m (parameter_block_address (format_in s.disks system s.disks.current))
function_called UserCode system s m = user_code s m
function_called ResetDrives system s m = answered (with_disks s (drives_reset s.disks (pair_de s.regs))) m 0
function_called Other system s m = answered s m 0

-- one step of the BDOS, by the mode; the parts of the command processor are not its own
abbrev pub in_mode : Mode → Disk → Session → Contents → StepResult
in_mode Program system s m = function_called (function_of s.regs.c) system s m
in_mode (Text address) system s m = write_text (held.Text address) s m address
in_mode Line system s m = edit_line s.line s m
in_mode (Hold held) system s m = release held (first_key s) s m
in_mode Fault system s m = after_fault (first_key s) s m
in_mode (Command part) system s m = did s m GoesOn

abbrev pub bdos : Disk → Session → Contents → StepResult
bdos system s m = in_mode s.mode system s m

-- BOOT: the I/O byte at 0003h and the user and drive at 0004h become 0, then as WBOOT (own)
abbrev pub booted : Session → Contents → StepResult
booted s m = rebooted s (after_run m io_byte_address (0 ∷ 0 ∷ []))

-- CONIN: a key is read into A
abbrev pub console_input : Option ℕ → Session → Contents → StepResult
console_input None s m = did s m Waits
console_input (Some key) s m = returned_a (took_key s) m key

-- CP/M 2.2 Operating System Manual, section 6.6, The BIOS Entry Points: a call of the BIOS.
-- Own: the list device is always ready, the reader gives 1Ah, what is punched is dropped, and a number without a call returns with nothing changed.
abbrev pub bios_called : BiosCall → Disk → Session → Contents → StepResult
bios_called entry.Boot system s m = booted s m
bios_called entry.WarmBoot system s m = rebooted s m
bios_called entry.ConsoleStatus system s m = returned_a s m (console_status (first_key s))
bios_called entry.ConsoleInput system s m = console_input (first_key s) s m
bios_called entry.ConsoleOutput system s m = call_returned (showed s s.regs.c) m
bios_called entry.List system s m = call_returned (list_byte s s.regs.c) m
bios_called entry.Punch system s m = call_returned s m
bios_called entry.Reader system s m = returned_a s m 0x1A
bios_called entry.Home system s m = home s m
bios_called entry.SelectDrive system s m = select_drive system s m
bios_called entry.SetTrack system s m = set_track s m
bios_called entry.SetSector system s m = set_sector s m
bios_called entry.SetSectorBuffer system s m = set_sector_buffer s m
bios_called entry.ReadSector system s m = read_sector system s m
bios_called entry.WriteSector system s m = write_sector s m
bios_called entry.ListStatus system s m = returned_a s m 0xFF
bios_called entry.Translate system s m = translate s m
bios_called entry.Other system s m = call_returned s m

abbrev pub bios : ℕ → Disk → Session → Contents → StepResult
bios number system s m = bios_called (bios_call_of number) system s m
