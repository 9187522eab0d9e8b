-- No step changes how many pages may be written.
use Rattle.std.proofs.Common.{◌≡◌, ℕ, Bool, true, false, List, [], ◌∷◌, length, refl, ap, ◌∙◌, Option, Some, None}
use Rattle.std.specs.Prelude.{if◌then◌else◌, ◌==◌, slice_index}
use Rattle.cpm_geom.specs.Disk.{Disk}
use Rattle.cpm_console.specs.Terminal.{said, key_read}
use Rattle.cpm_console.specs.EditedLine.{EditedLine}
use Rattle.cpm_console.specs.Editing.{begun_line, key_into_line}
use Rattle.cpm_console.specs.declared.line.LineState.{LineState}
use Rattle.cpm_console.specs.declared.line.LineState.TheVariants as line
use Rattle.cpm_memory.specs.Contents.{Contents, byte_at, next, run_at, after_run}
use Rattle.cpm_memory.proofs.Runs.{limit-run}
use Rattle.cpm_bdos.specs.Registers.{pair_de}
use Rattle.cpm_bdos.specs.Function.{function_of, bios_call_of}
use Rattle.cpm_bdos.specs.StepResult.{StepResult, rebooted}
use Rattle.cpm_bdos.specs.Keys.{first_key, took_key}
use Rattle.cpm_bdos.specs.Hold.{is_stop, release}
use Rattle.cpm_bdos.specs.Output.{write_byte, write_text}
use Rattle.cpm_bdos.specs.Input.{read_key, direct_console}
use Rattle.cpm_bdos.specs.ReadLine.{LineReader, is_open, line_ended, after_key, with_edited, take_key, line_step}
use Rattle.cpm_bdos.specs.Faults.{after_fault}
use Rattle.cpm_drives.specs.declared.disks.Disks.{Disks}
use Rattle.cpm_drives.specs.declared.function.FileFunction.{FileFunction}
use Rattle.cpm_drives.specs.Disks.{is_there, drive_at}
use Rattle.cpm_drives.specs.Selecting.{drive_in_use, select}
use Rattle.cpm_drives.specs.Calls.{drive_named}
use Rattle.cpm_drives.specs.Vectors.{allocation_of}
use Rattle.cpm_drives.specs.Sectors.{sector_read, sector_written}
use Rattle.cpm_bdos.specs.Disks.{with_disks, fcb_size, record_size, call_stored, vector_of, call_file_function, select_disk, give_allocation, user_code}
use Rattle.cpm_bdos.specs.BiosDisks.{sector_got, sector_put, select_drive, read_sector, write_sector, translate}
use Rattle.cpm_bdos.proofs.DriveCalls.{memory-by_answer, call_of, limit-record_stored, limit-call_stored}
use Rattle.cpm_bdos.specs.Step.{function_called, in_mode, bdos, console_input, bios_called, bios}
use Rattle.cpm_bdos.specs.declared.function.Function.{Function}
use Rattle.cpm_bdos.specs.declared.function.Function.TheVariants.{WarmBoot, ReadKey, WriteByte, ReaderInput, PunchOutput, ListOutput, DirectConsole, GetIoByte, SetIoByte, WriteText, ReadLine, ConsoleStatus, Version, ResetDisks, SelectDisk, File, LoginVector, CurrentDisk, SetBuffer, AllocationVector, ProtectDisk, ReadOnlyVector, DiskParameters, UserCode, ResetDrives, Other}
use Rattle.cpm_bdos.specs.declared.function.BiosCall.{BiosCall}
use Rattle.cpm_bdos.specs.declared.function.BiosCall.TheVariants as entry
use Rattle.cpm_bdos.specs.declared.session.Session.{Session}
use Rattle.cpm_bdos.specs.declared.session.HeldOutput.{HeldOutput}
use Rattle.cpm_bdos.specs.declared.session.HeldOutput.TheVariants as held
use Rattle.cpm_bdos.specs.declared.session.Mode.{Mode}
use Rattle.cpm_bdos.specs.declared.session.Mode.TheVariants.{Program, Text, Line, Hold, Fault, Command}

abbrev KeepsLimit : Contents → StepResult → Type 0
KeepsLimit m d = d.memory.limit ≡ m.limit

limit_if : (b : Bool) (m : Contents) (x y : StepResult) → KeepsLimit m x → KeepsLimit m y → KeepsLimit m (if b then x else y)
limit_if true m x y hx hy = hx
limit_if false m x y hx hy = hy

pub limit-rebooted : (s : Session) (m : Contents) → KeepsLimit m (rebooted s m)
limit-rebooted s m =
    limit-run (after_run m 0 (195 ∷ 3 ∷ 250 ∷ [])) 5 (195 ∷ 6 ∷ 236 ∷ []) ∙ limit-run m 0 (195 ∷ 3 ∷ 250 ∷ [])

pub limit-line_ended : (s : Session) (m : Contents) → KeepsLimit m (line_ended s m)
limit-line_ended s m =
    let at = next (pair_de s.regs) in
    limit-run (after_run m at (length s.line.characters ∷ [])) (next at) s.line.characters ∙ limit-run m at (length s.line.characters ∷ [])

limit_write_byte : (s : Session) (m : Contents) → KeepsLimit m (write_byte s m)
limit_write_byte s m = limit_if (is_stop (first_key s)) m _ _ refl refl

limit_write_text : (h : HeldOutput) (s : Session) (m : Contents) (address : ℕ) → KeepsLimit m (write_text h s m address)
limit_write_text h s m address =
    limit_if (byte_at m address == 36) m _ _ refl (limit_if (is_stop (first_key s)) m _ _ refl refl)

limit_read_key : (k : Option ℕ) (s : Session) (m : Contents) → KeepsLimit m (read_key k s m)
limit_read_key None s m = refl
limit_read_key (Some k) s m = refl

limit_direct_console : (e : ℕ) (s : Session) (m : Contents) → KeepsLimit m (direct_console e s m)
limit_direct_console e s m = limit_if (e == 255) m _ _ refl (limit_if (e == 254) m _ _ refl refl)

-- a line's reader that keeps the limit, however the line goes on
abbrev pub ReaderKeepsLimit : LineReader → Type 0
ReaderKeepsLimit goes_on = (p : LineState) (s : Session) (m : Contents) → KeepsLimit m (goes_on p s m)

limit_after_key : ReaderKeepsLimit after_key
limit_after_key line.GoesOn s m = refl
limit_after_key line.Ended s m = limit-line_ended s m
limit_after_key line.Interrupted s m = limit-rebooted s m

limit_take_key : (goes_on : LineReader) → ReaderKeepsLimit goes_on → (k : Option ℕ) (l : EditedLine) (s : Session) (m : Contents) → KeepsLimit m (take_key goes_on k l s m)
limit_take_key goes_on keeps None l s m = refl
limit_take_key goes_on keeps (Some k) l s m =
    let e = key_into_line (key_read s.console) l k in keeps e.progress (with_edited s e) m

pub limit_line_step : (goes_on : LineReader) → ReaderKeepsLimit goes_on → (l : EditedLine) (s : Session) (m : Contents) → KeepsLimit m (line_step goes_on l s m)
limit_line_step goes_on keeps l s m =
    limit_if (is_open l) m _ _ (limit_take_key goes_on keeps (first_key s) l s m) (keeps line.Ended (record s { console = said s.console (13 ∷ []); line = l }) m)

limit_release : (h : HeldOutput) (k : Option ℕ) (s : Session) (m : Contents) → KeepsLimit m (release h k s m)
limit_release h None s m = refl
limit_release h (Some k) s m = limit_if (k == 3) m _ _ (limit-rebooted (took_key s) m) refl

limit_after_fault : (k : Option ℕ) (s : Session) (m : Contents) → KeepsLimit m (after_fault k s m)
limit_after_fault None s m = refl
limit_after_fault (Some k) s m = limit-rebooted (took_key s) m

limit_call_file_function : (f : FileFunction) (system : Disk) (s : Session) (m : Contents) → KeepsLimit m (call_file_function f system s m)
unfolding call_file_function
limit_call_file_function f system s m =
    let c = call_of f system s m in
    let at = pair_de s.regs in
    let old = run_at m at fcb_size in
    ap (λ (n : Contents). n.limit) (memory-by_answer c.answer (drive_named s.disks (slice_index old 0)) (with_disks s c.disks) (call_stored m s.buffer at old c)) ∙ limit-call_stored m s.buffer at old c

limit_select_disk : (system : Disk) (s : Session) (m : Contents) → KeepsLimit m (select_disk system s m)
unfolding select_disk
limit_select_disk system s m =
    let c = select s.disks system s.regs.e in
    ap (λ (n : Contents). n.limit) (memory-by_answer c.answer s.regs.e (with_disks s c.disks) m)

limit_give_allocation : (system : Disk) (s : Session) (m : Contents) → KeepsLimit m (give_allocation system s m)
unfolding give_allocation
limit_give_allocation system s m = limit-run m (vector_of s.disks.current) (allocation_of (drive_at (drive_in_use s.disks system s.disks.current) system s.disks.current))

limit_user_code : (s : Session) (m : Contents) → KeepsLimit m (user_code s m)
unfolding user_code
limit_user_code s m = limit_if (s.regs.e == 255) m _ _ refl refl

limit_called : (f : Function) (system : Disk) (s : Session) (m : Contents) → KeepsLimit m (function_called f system s m)
limit_called WarmBoot system s m = limit-rebooted s m
limit_called ReadKey system s m = limit_read_key (first_key s) s m
limit_called WriteByte system s m = limit_write_byte s m
limit_called ReaderInput system s m = refl
limit_called PunchOutput system s m = refl
limit_called ListOutput system s m = refl
limit_called DirectConsole system s m = limit_direct_console s.regs.e s m
limit_called GetIoByte system s m = refl
limit_called SetIoByte system s m = limit-run m 3 (s.regs.e ∷ [])
limit_called WriteText system s m = limit_write_text held.Call s m (pair_de s.regs)
limit_called ReadLine system s m = limit_line_step after_key limit_after_key (begun_line s.console.column (byte_at m (pair_de s.regs))) s m
limit_called ConsoleStatus system s m = refl
limit_called Version system s m = refl
limit_called ResetDisks system s m = refl
limit_called SelectDisk system s m = limit_select_disk system s m
limit_called (File f) system s m = limit_call_file_function f system s m
limit_called LoginVector system s m = refl
limit_called CurrentDisk system s m = refl
limit_called SetBuffer system s m = refl
limit_called AllocationVector system s m = limit_give_allocation system s m
limit_called ProtectDisk system s m = refl
limit_called ReadOnlyVector system s m = refl
limit_called DiskParameters system s m = refl
limit_called UserCode system s m = limit_user_code s m
limit_called ResetDrives system s m = refl
limit_called Other system s m = refl

limit_in_mode : (mode : Mode) (system : Disk) (s : Session) (m : Contents) → KeepsLimit m (in_mode mode system s m)
limit_in_mode Program system s m = limit_called (function_of s.regs.c) system s m
limit_in_mode (Text address) system s m = limit_write_text (held.Text address) s m address
limit_in_mode Line system s m = limit_line_step after_key limit_after_key s.line s m
limit_in_mode (Hold h) system s m = limit_release h (first_key s) s m
limit_in_mode Fault system s m = limit_after_fault (first_key s) s m
limit_in_mode (Command part) system s m = refl

-- a step of the BDOS
pub limit-bdos : (system : Disk) (s : Session) (m : Contents) → (bdos system s m).memory.limit ≡ m.limit
limit-bdos system s m = limit_in_mode s.mode system s m

limit_console_input : (k : Option ℕ) (s : Session) (m : Contents) → KeepsLimit m (console_input k s m)
limit_console_input None s m = refl
limit_console_input (Some k) s m = refl

limit_select_drive : (system : Disk) (s : Session) (m : Contents) → KeepsLimit m (select_drive system s m)
unfolding select_drive
limit_select_drive system s m = limit_if (is_there s.disks s.regs.c) m _ _ refl refl

limit_sector_got : (got : Option (List ℕ)) (s : Session) (m : Contents) → KeepsLimit m (sector_got got s m)
limit_sector_got None s m = refl
limit_sector_got (Some bytes) s m = limit-record_stored m s.place.buffer bytes

limit_read_sector : (system : Disk) (s : Session) (m : Contents) → KeepsLimit m (read_sector system s m)
unfolding read_sector
limit_read_sector system s m = limit_sector_got (sector_read s.disks system s.place.drive s.place.track s.place.sector) s m

limit_sector_put : (put : Option Disks) (s : Session) (m : Contents) → KeepsLimit m (sector_put put s m)
limit_sector_put None s m = refl
limit_sector_put (Some disks) s m = refl

limit_write_sector : (s : Session) (m : Contents) → KeepsLimit m (write_sector s m)
unfolding write_sector
limit_write_sector s m =
    limit_sector_put (sector_written s.disks s.place.drive s.place.track s.place.sector (run_at m s.place.buffer record_size)) s m

limit_translate : (s : Session) (m : Contents) → KeepsLimit m (translate s m)
unfolding translate
limit_translate s m = refl

limit_bios : (call : BiosCall) (system : Disk) (s : Session) (m : Contents) → KeepsLimit m (bios_called call system s m)
limit_bios entry.Boot system s m = limit-rebooted s (after_run m 3 (0 ∷ 0 ∷ [])) ∙ limit-run m 3 (0 ∷ 0 ∷ [])
limit_bios entry.WarmBoot system s m = limit-rebooted s m
limit_bios entry.ConsoleStatus system s m = refl
limit_bios entry.ConsoleInput system s m = limit_console_input (first_key s) s m
limit_bios entry.ConsoleOutput system s m = refl
limit_bios entry.List system s m = refl
limit_bios entry.Punch system s m = refl
limit_bios entry.Reader system s m = refl
limit_bios entry.Home system s m = refl
limit_bios entry.SelectDrive system s m = limit_select_drive system s m
limit_bios entry.SetTrack system s m = refl
limit_bios entry.SetSector system s m = refl
limit_bios entry.SetSectorBuffer system s m = refl
limit_bios entry.ReadSector system s m = limit_read_sector system s m
limit_bios entry.WriteSector system s m = limit_write_sector s m
limit_bios entry.ListStatus system s m = refl
limit_bios entry.Translate system s m = limit_translate s m
limit_bios entry.Other system s m = refl

-- a step of the BIOS
pub limit-bios : (number : ℕ) (system : Disk) (s : Session) (m : Contents) → (bios number system s m).memory.limit ≡ m.limit
limit-bios number system s m = limit_bios (bios_call_of number) system s m
