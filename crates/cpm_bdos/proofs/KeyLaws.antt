-- A step takes the first key at most.
use Rattle.std.proofs.Common.{◌≡◌, ℕ, ◌+◌, ◌≤◌, Bool, true, false, List, [], ◌∷◌, ◌++◌, length, drop, refl, arith, Option, Some, None, Result, Ok, Err}
use Rattle.std.specs.Prelude.{if◌then◌else◌, ◌==◌, slice_index}
use Rattle.std.proofs.lemmas.List.{length-drop}
use Rattle.cpm_geom.specs.Disk.{Disk}
use Rattle.cpm_console.specs.Terminal.{Terminal, said, shown, printed, key_read}
use Rattle.cpm_console.specs.EditedLine.{EditedLine}
use Rattle.cpm_console.specs.Editing.{EditResult, begun_line, edited, edit, echo_at, columns, keystroke, key_into_line, with_character}
use Rattle.cpm_console.specs.declared.line.Keystroke.{Keystroke}
use Rattle.cpm_console.specs.declared.line.Keystroke.TheVariants.{Interrupt, NewLine, Erase, Repeat, End, ListEcho, Retype, Restart, EraseAll, Character}
use Rattle.cpm_console.specs.declared.line.LineState.{LineState}
use Rattle.cpm_console.specs.declared.line.LineState.TheVariants as line
use Rattle.cpm_memory.specs.Contents.{Contents, byte_at, run_at}
use Rattle.cpm_bdos.specs.Registers.{pair_de}
use Rattle.cpm_bdos.specs.Function.{function_of, bios_call_of}
use Rattle.cpm_bdos.specs.StepResult.{StepResult}
use Rattle.cpm_bdos.specs.Keys.{first_key, took_key}
use Rattle.cpm_bdos.specs.KeysTaken.{IsFromFront}
use Rattle.cpm_bdos.specs.Hold.{is_stop, release}
use Rattle.cpm_bdos.specs.Output.{wrote, write_byte, write_text}
use Rattle.cpm_bdos.specs.Input.{is_echoed, read_key, direct_console}
use Rattle.cpm_bdos.specs.ReadLine.{LineReader, is_open, after_key, with_edited, take_key, line_step}
use Rattle.cpm_bdos.specs.Faults.{in_fault, after_fault}
use Rattle.cpm_volume.specs.declared.answer.Fault.{Fault}
use Rattle.cpm_drives.specs.declared.disks.Disks.{Disks}
use Rattle.cpm_drives.specs.declared.function.FileFunction.{FileFunction}
use Rattle.cpm_drives.specs.Disks.{is_there}
use Rattle.cpm_drives.specs.Selecting.{select}
use Rattle.cpm_drives.specs.Calls.{drive_named}
use Rattle.cpm_drives.specs.Sectors.{sector_read, sector_written}
use Rattle.cpm_bdos.specs.Disks.{by_answer, with_disks, fcb_size, record_size, call_stored, call_file_function, select_disk, give_allocation, user_code}
use Rattle.cpm_bdos.specs.BiosDisks.{sector_got, sector_put, select_drive, read_sector, write_sector, translate}
use Rattle.cpm_bdos.proofs.DriveCalls.{call_of}
use Rattle.cpm_bdos.specs.Step.{function_called, in_mode, bdos, console_input, bios_called, bios}
use Rattle.cpm_bdos.specs.declared.function.Function.{Function}
use Rattle.cpm_bdos.specs.declared.function.Function.TheVariants.{WarmBoot, ReadKey, WriteByte, ReaderInput, PunchOutput, ListOutput, DirectConsole, GetIoByte, SetIoByte, WriteText, ReadLine, ConsoleStatus, Version, ResetDisks, SelectDisk, File, LoginVector, CurrentDisk, SetBuffer, AllocationVector, ProtectDisk, ReadOnlyVector, DiskParameters, UserCode, ResetDrives, Other}
use Rattle.cpm_bdos.specs.declared.function.BiosCall.{BiosCall}
use Rattle.cpm_bdos.specs.declared.function.BiosCall.TheVariants as entry
use Rattle.cpm_bdos.specs.declared.session.Session.{Session}
use Rattle.cpm_bdos.specs.declared.session.HeldOutput.{HeldOutput}
use Rattle.cpm_bdos.specs.declared.session.HeldOutput.TheVariants as held
use Rattle.cpm_bdos.specs.declared.session.Mode.{Mode}
use Rattle.cpm_bdos.specs.declared.session.Mode.TheVariants.{Program, Text, Line, Hold, Fault as FaultMode, Command}

-- ---- none is taken, or the first

pub none_taken : (keys : List ℕ) → IsFromFront keys keys
none_taken keys = record { count = 0; few = omega arith; rest = refl }

pub first_taken : (keys : List ℕ) → IsFromFront keys (drop 1 keys)
first_taken keys = record { count = 1; few = omega arith; rest = refl }

pub length-left : (old new : List ℕ) → IsFromFront old new → length new ≤ length old
length-left old new taken = rw taken.rest (omega (arith, length-drop taken.count old))

abbrev Takes : Session → StepResult → Type 0
Takes s d = IsFromFront s.console.keys d.session.console.keys

takes_if : (b : Bool) (s : Session) (x y : StepResult) → Takes s x → Takes s y → Takes s (if b then x else y)
takes_if true s x y hx hy = hx
takes_if false s x y hx hy = hy

-- ---- what is put on the devices leaves the keys

pub keys-said : (t : Terminal) (bytes : List ℕ) → (said t bytes).keys ≡ t.keys
unfolding said
keys-said t bytes = refl

pub takes_fault : (s : Session) (f : Fault) (drive : ℕ) → IsFromFront s.console.keys (in_fault s f drive).console.keys
unfolding shown
takes_fault s f drive = none_taken s.console.keys

-- ---- output and input

takes_write_byte : (s : Session) (m : Contents) → Takes s (write_byte s m)
unfolding said
takes_write_byte s m = takes_if (is_stop (first_key s)) s _ _ (first_taken s.console.keys) (none_taken s.console.keys)

takes_write_text : (h : HeldOutput) (s : Session) (m : Contents) (address : ℕ) → Takes s (write_text h s m address)
unfolding said
takes_write_text h s m address =
    takes_if (byte_at m address == 36) s _ _ (none_taken s.console.keys) (takes_if (is_stop (first_key s)) s _ _ (first_taken s.console.keys) (none_taken s.console.keys))

takes_read_key : (k : Option ℕ) (s : Session) (m : Contents) → Takes s (read_key k s m)
unfolding said
takes_read_key None s m = none_taken s.console.keys
takes_read_key (Some k) s m = by_echo (is_echoed k)
  where
    by_echo : (echoes : Bool) → IsFromFront s.console.keys (if echoes then wrote (took_key s) k else took_key s).console.keys
    by_echo true = first_taken s.console.keys
    by_echo false = first_taken s.console.keys

takes_direct_console : (e : ℕ) (s : Session) (m : Contents) → Takes s (direct_console e s m)
unfolding shown
takes_direct_console e s m =
    takes_if (e == 255) s _ _ (first_taken s.console.keys) (takes_if (e == 254) s _ _ (none_taken s.console.keys) (none_taken s.console.keys))

takes_release : (h : HeldOutput) (k : Option ℕ) (s : Session) (m : Contents) → Takes s (release h k s m)
takes_release h None s m = none_taken s.console.keys
takes_release h (Some k) s m = takes_if (k == 3) s _ _ (first_taken s.console.keys) (first_taken s.console.keys)

takes_after_fault : (k : Option ℕ) (s : Session) (m : Contents) → Takes s (after_fault k s m)
takes_after_fault None s m = none_taken s.console.keys
takes_after_fault (Some k) s m = first_taken s.console.keys

-- ---- lines

keys-edit : (k : Keystroke) (t : Terminal) (l : EditedLine) (key : ℕ) → (edit k t l key).terminal.keys ≡ t.keys
unfolding said
keys-edit Interrupt t l key = refl
keys-edit NewLine t l key = refl
keys-edit Erase t l key = refl
keys-edit Repeat t l key = refl
keys-edit End t l key = refl
keys-edit ListEcho t l key = refl
keys-edit Retype t l key = refl
keys-edit Restart t l key = refl
keys-edit EraseAll t l key = refl
keys-edit Character t l key = by_end (length l.characters + 1 == l.limit)
  where
    by_end : (full : Bool) → (if full then edited (said t (echo_at (columns l.start l.characters) key ++ 13 ∷ [])) (with_character l key) line.Ended else edited (said t (echo_at (columns l.start l.characters) key)) (with_character l key) line.GoesOn).terminal.keys ≡ t.keys
    by_end true = refl
    by_end false = refl

-- a key of a line is taken, and its editing leaves the others
pub keys-key_into_line : (t : Terminal) (l : EditedLine) (key : ℕ) → IsFromFront t.keys (key_into_line (key_read t) l key).terminal.keys
keys-key_into_line t l key =
    record { count = 1; few = omega arith; rest = keys-edit (keystroke (length l.characters == 0) key) (key_read t) l key }

-- a line's reader that takes no key more
abbrev pub ReaderTakes : LineReader → Type 0
ReaderTakes goes_on = (p : LineState) (s : Session) (m : Contents) (e : EditResult) → IsFromFront s.console.keys e.terminal.keys → Takes s (goes_on p (with_edited s e) m)

takes_after_key : ReaderTakes after_key
takes_after_key line.GoesOn s m e taken = taken
takes_after_key line.Ended s m e taken = taken
takes_after_key line.Interrupted s m e taken = taken

takes_take_key : (goes_on : LineReader) → ReaderTakes goes_on → (k : Option ℕ) (l : EditedLine) (s : Session) (m : Contents) → Takes s (take_key goes_on k l s m)
takes_take_key goes_on takes None l s m = none_taken s.console.keys
takes_take_key goes_on takes (Some k) l s m =
    let e = key_into_line (key_read s.console) l k in takes e.progress s m e (keys-key_into_line s.console l k)

pub takes_line_step : (goes_on : LineReader) → ReaderTakes goes_on → (l : EditedLine) (s : Session) (m : Contents) → Takes s (line_step goes_on l s m)
unfolding said
takes_line_step goes_on takes l s m =
    takes_if (is_open l) s _ _ (takes_take_key goes_on takes (first_key s) l s m) (takes line.Ended s m (edited (said s.console (13 ∷ [])) l line.Ended) (none_taken s.console.keys))

-- ---- drives and files

takes_by_answer : (a : Result ℕ Fault) (drive : ℕ) (s : Session) (m : Contents) → Takes s (by_answer a drive s m)
takes_by_answer (Ok code) drive s m = none_taken s.console.keys
takes_by_answer (Err which) drive s m = takes_fault s which drive

takes_call_file_function : (f : FileFunction) (system : Disk) (s : Session) (m : Contents) → Takes s (call_file_function f system s m)
unfolding call_file_function
takes_call_file_function f system s m =
    let c = call_of f system s m in
    let at = pair_de s.regs in
    let old = run_at m at fcb_size in
    takes_by_answer c.answer (drive_named s.disks (slice_index old 0)) (with_disks s c.disks) (call_stored m s.buffer at old c)

takes_select_disk : (system : Disk) (s : Session) (m : Contents) → Takes s (select_disk system s m)
unfolding select_disk
takes_select_disk system s m =
    let c = select s.disks system s.regs.e in takes_by_answer c.answer s.regs.e (with_disks s c.disks) m

takes_give_allocation : (system : Disk) (s : Session) (m : Contents) → Takes s (give_allocation system s m)
unfolding give_allocation
takes_give_allocation system s m = none_taken s.console.keys

takes_user_code : (s : Session) (m : Contents) → Takes s (user_code s m)
unfolding user_code
takes_user_code s m = takes_if (s.regs.e == 255) s _ _ (none_taken s.console.keys) (none_taken s.console.keys)

-- ---- steps

takes_called : (f : Function) (system : Disk) (s : Session) (m : Contents) → Takes s (function_called f system s m)
unfolding printed
takes_called WarmBoot system s m = none_taken s.console.keys
takes_called ReadKey system s m = takes_read_key (first_key s) s m
takes_called WriteByte system s m = takes_write_byte s m
takes_called ReaderInput system s m = none_taken s.console.keys
takes_called PunchOutput system s m = none_taken s.console.keys
takes_called ListOutput system s m = none_taken s.console.keys
takes_called DirectConsole system s m = takes_direct_console s.regs.e s m
takes_called GetIoByte system s m = none_taken s.console.keys
takes_called SetIoByte system s m = none_taken s.console.keys
takes_called WriteText system s m = takes_write_text held.Call s m (pair_de s.regs)
takes_called ReadLine system s m = takes_line_step after_key takes_after_key (begun_line s.console.column (byte_at m (pair_de s.regs))) s m
takes_called ConsoleStatus system s m = none_taken s.console.keys
takes_called Version system s m = none_taken s.console.keys
takes_called ResetDisks system s m = none_taken s.console.keys
takes_called SelectDisk system s m = takes_select_disk system s m
takes_called (File f) system s m = takes_call_file_function f system s m
takes_called LoginVector system s m = none_taken s.console.keys
takes_called CurrentDisk system s m = none_taken s.console.keys
takes_called SetBuffer system s m = none_taken s.console.keys
takes_called AllocationVector system s m = takes_give_allocation system s m
takes_called ProtectDisk system s m = none_taken s.console.keys
takes_called ReadOnlyVector system s m = none_taken s.console.keys
takes_called DiskParameters system s m = none_taken s.console.keys
takes_called UserCode system s m = takes_user_code s m
takes_called ResetDrives system s m = none_taken s.console.keys
takes_called Other system s m = none_taken s.console.keys

takes_in_mode : (mode : Mode) (system : Disk) (s : Session) (m : Contents) → Takes s (in_mode mode system s m)
takes_in_mode Program system s m = takes_called (function_of s.regs.c) system s m
takes_in_mode (Text address) system s m = takes_write_text (held.Text address) s m address
takes_in_mode Line system s m = takes_line_step after_key takes_after_key s.line s m
takes_in_mode (Hold h) system s m = takes_release h (first_key s) s m
takes_in_mode FaultMode system s m = takes_after_fault (first_key s) s m
takes_in_mode (Command part) system s m = none_taken s.console.keys

-- a step of the BDOS
pub keys-bdos : (system : Disk) (s : Session) (m : Contents) → IsFromFront s.console.keys (bdos system s m).session.console.keys
keys-bdos system s m = takes_in_mode s.mode system s m

takes_console_input : (k : Option ℕ) (s : Session) (m : Contents) → Takes s (console_input k s m)
takes_console_input None s m = none_taken s.console.keys
takes_console_input (Some k) s m = first_taken s.console.keys

takes_select_drive : (system : Disk) (s : Session) (m : Contents) → Takes s (select_drive system s m)
unfolding select_drive
takes_select_drive system s m = takes_if (is_there s.disks s.regs.c) s _ _ (none_taken s.console.keys) (none_taken s.console.keys)

takes_sector_got : (got : Option (List ℕ)) (s : Session) (m : Contents) → Takes s (sector_got got s m)
takes_sector_got None s m = none_taken s.console.keys
takes_sector_got (Some bytes) s m = none_taken s.console.keys

takes_read_sector : (system : Disk) (s : Session) (m : Contents) → Takes s (read_sector system s m)
unfolding read_sector
takes_read_sector system s m = takes_sector_got (sector_read s.disks system s.place.drive s.place.track s.place.sector) s m

takes_sector_put : (put : Option Disks) (s : Session) (m : Contents) → Takes s (sector_put put s m)
takes_sector_put None s m = none_taken s.console.keys
takes_sector_put (Some disks) s m = none_taken s.console.keys

takes_write_sector : (s : Session) (m : Contents) → Takes s (write_sector s m)
unfolding write_sector
takes_write_sector s m =
    takes_sector_put (sector_written s.disks s.place.drive s.place.track s.place.sector (run_at m s.place.buffer record_size)) s m

takes_translate : (s : Session) (m : Contents) → Takes s (translate s m)
unfolding translate
takes_translate s m = none_taken s.console.keys

takes_bios : (call : BiosCall) (system : Disk) (s : Session) (m : Contents) → Takes s (bios_called call system s m)
unfolding shown printed
takes_bios entry.Boot system s m = none_taken s.console.keys
takes_bios entry.WarmBoot system s m = none_taken s.console.keys
takes_bios entry.ConsoleStatus system s m = none_taken s.console.keys
takes_bios entry.ConsoleInput system s m = takes_console_input (first_key s) s m
takes_bios entry.ConsoleOutput system s m = none_taken s.console.keys
takes_bios entry.List system s m = none_taken s.console.keys
takes_bios entry.Punch system s m = none_taken s.console.keys
takes_bios entry.Reader system s m = none_taken s.console.keys
takes_bios entry.Home system s m = none_taken s.console.keys
takes_bios entry.SelectDrive system s m = takes_select_drive system s m
takes_bios entry.SetTrack system s m = none_taken s.console.keys
takes_bios entry.SetSector system s m = none_taken s.console.keys
takes_bios entry.SetSectorBuffer system s m = none_taken s.console.keys
takes_bios entry.ReadSector system s m = takes_read_sector system s m
takes_bios entry.WriteSector system s m = takes_write_sector s m
takes_bios entry.ListStatus system s m = none_taken s.console.keys
takes_bios entry.Translate system s m = takes_translate s m
takes_bios entry.Other system s m = none_taken s.console.keys

-- a step of the BIOS
pub keys-bios : (number : ℕ) (system : Disk) (s : Session) (m : Contents) → IsFromFront s.console.keys (bios number system s m).session.console.keys
keys-bios number system s m = takes_bios (bios_call_of number) system s m
