-- A step does the same whatever output waits.
use Rattle.std.proofs.Common.{◌≡◌, ℕ, Bool, true, false, List, [], ◌∷◌, refl, ap, ◌∙◌, Option, Some, None, Result, Ok, Err}
use Rattle.std.specs.Prelude.{if◌then◌else◌, ◌==◌, slice_index}
use Rattle.cpm_geom.specs.Disk.{Disk}
use Rattle.cpm_console.specs.Terminal.{Terminal, expanded, said, key_read}
use Rattle.cpm_console.specs.EditedLine.{EditedLine}
use Rattle.cpm_console.specs.Editing.{EditResult, begun_line, key_into_line}
use Rattle.cpm_console.specs.declared.line.LineState.{LineState}
use Rattle.cpm_console.specs.declared.line.LineState.TheVariants as line
use Rattle.cpm_memory.specs.Contents.{Contents, byte_at, next, run_at}
use Rattle.cpm_bdos.specs.Registers.{pair_de}
use Rattle.cpm_bdos.specs.Function.{function_of, bios_call_of}
use Rattle.cpm_bdos.specs.Behind.{session_behind, did_behind}
use Rattle.cpm_bdos.specs.StepResult.{StepResult, did, answered, call_returned}
use Rattle.cpm_bdos.specs.Keys.{first_key, took_key}
use Rattle.cpm_bdos.specs.Hold.{is_stop, release}
use Rattle.cpm_bdos.specs.Output.{wrote, showed, list_byte, write_byte, write_text}
use Rattle.cpm_bdos.specs.Input.{is_echoed, read_key, direct_console}
use Rattle.cpm_bdos.specs.ReadLine.{LineReader, is_open, after_key, with_edited, edited_with, take_key, no_more, line_step}
use Rattle.cpm_bdos.specs.Faults.{fault_text, faulted, after_fault}
use Rattle.cpm_drives.specs.declared.disks.Disks.{Disks}
use Rattle.cpm_drives.specs.declared.function.FileFunction.{FileFunction}
use Rattle.cpm_drives.specs.Disks.{is_there}
use Rattle.cpm_drives.specs.Selecting.{select}
use Rattle.cpm_drives.specs.Calls.{drive_named}
use Rattle.cpm_drives.specs.Sectors.{sector_read, sector_written}
use Rattle.cpm_bdos.specs.Disks.{by_answer, with_disks, fcb_size, record_size, call_stored, call_file_function, select_disk, give_allocation, user_code}
use Rattle.cpm_bdos.specs.BiosDisks.{sector_got, sector_put, select_drive, read_sector, write_sector, translate}
use Rattle.cpm_bdos.proofs.DriveCalls.{call_of}
use Rattle.cpm_bdos.specs.Step.{function_called, in_mode, bdos, console_input, bios_called, bios}
use Rattle.cpm_bdos.specs.declared.function.Function.{Function}
use Rattle.cpm_bdos.specs.declared.function.Function.TheVariants.{WarmBoot, ReadKey, WriteByte, ReaderInput, PunchOutput, ListOutput, DirectConsole, GetIoByte, SetIoByte, WriteText, ReadLine, ConsoleStatus, Version, ResetDisks, SelectDisk, File, LoginVector, CurrentDisk, SetBuffer, AllocationVector, ProtectDisk, ReadOnlyVector, DiskParameters, UserCode, ResetDrives, Other}
use Rattle.cpm_bdos.specs.declared.function.BiosCall.{BiosCall}
use Rattle.cpm_bdos.specs.declared.function.BiosCall.TheVariants as entry
use Rattle.cpm_volume.specs.declared.answer.Fault.{Fault}
use Rattle.cpm_bdos.specs.declared.session.Session.{Session}
use Rattle.cpm_bdos.specs.declared.session.HeldOutput.{HeldOutput}
use Rattle.cpm_bdos.specs.declared.session.HeldOutput.TheVariants as held
use Rattle.cpm_bdos.specs.declared.session.Mode.{Mode}
use Rattle.cpm_bdos.specs.declared.session.Mode.TheVariants.{Program, Text, Line, Hold, Fault as FaultMode, Command}
use Rattle.cpm_bdos.specs.declared.session.Went.TheVariants.{GoesOn}
use Rattle.cpm_bdos.proofs.ConsoleBehind.{said-behind, shown-behind, printed-behind, key_into_line-behind}

module _ (p q : List ℕ) where
  did-if : (b : Bool) (x y x' y' : StepResult) → x' ≡ did_behind p q x → y' ≡ did_behind p q y → (if b then x' else y') ≡ did_behind p q (if b then x else y)
  did-if true x y x' y' ex ey = ex
  did-if false x y x' y' ex ey = ey

  wrote-behind : (s : Session) (byte : ℕ) → wrote (session_behind p q s) byte ≡ session_behind p q (wrote s byte)
  wrote-behind s byte = ap (λ (t : Terminal). record s { console = t }) (said-behind p q s.console (expanded s.console.column byte))

  showed-behind : (s : Session) (byte : ℕ) → showed (session_behind p q s) byte ≡ session_behind p q (showed s byte)
  showed-behind s byte = ap (λ (t : Terminal). record s { console = t }) (shown-behind p q s.console (byte ∷ []))

  list_byte-behind : (s : Session) (byte : ℕ) → list_byte (session_behind p q s) byte ≡ session_behind p q (list_byte s byte)
  list_byte-behind s byte = ap (λ (t : Terminal). record s { console = t }) (printed-behind p q s.console (byte ∷ []))

  write_byte-behind : (s : Session) (m : Contents) → write_byte (session_behind p q s) m ≡ did_behind p q (write_byte s m)
  write_byte-behind s m =
      did-if (is_stop (first_key s)) _ _ _ _ refl (ap (λ (t : Session). answered t m 0) (wrote-behind s s.regs.e))

  write_text-behind : (h : HeldOutput) (s : Session) (m : Contents) (address : ℕ) → write_text h (session_behind p q s) m address ≡ did_behind p q (write_text h s m address)
  write_text-behind h s m address =
      did-if (byte_at m address == 36) _ _ _ _ refl (did-if (is_stop (first_key s)) _ _ _ _ refl (ap (λ (t : Session). did (record t { mode = Text (next address) }) m GoesOn) (wrote-behind s (byte_at m address))))

  read_key-behind : (k : Option ℕ) (s : Session) (m : Contents) → read_key k (session_behind p q s) m ≡ did_behind p q (read_key k s m)
  read_key-behind None s m = refl
  read_key-behind (Some k) s m = by_echo (is_echoed k)
    where
      by_echo : (echoes : Bool) → answered (if echoes then wrote (took_key (session_behind p q s)) k else took_key (session_behind p q s)) m k ≡ did_behind p q (answered (if echoes then wrote (took_key s) k else took_key s) m k)
      by_echo true = ap (λ (t : Session). answered t m k) (wrote-behind (took_key s) k)
      by_echo false = refl

  direct_console-behind : (e : ℕ) (s : Session) (m : Contents) → direct_console e (session_behind p q s) m ≡ did_behind p q (direct_console e s m)
  direct_console-behind e s m =
      did-if (e == 255) _ _ _ _ refl (did-if (e == 254) _ _ _ _ refl (ap (λ (t : Session). answered t m 0) (showed-behind s e)))

  -- a line's reader that does the same whatever output waits
  abbrev pub ReadsBehind : LineReader → Type 0
  ReadsBehind goes_on = (progress : LineState) (s : Session) (m : Contents) → goes_on progress (session_behind p q s) m ≡ did_behind p q (goes_on progress s m)

  after_key-behind : ReadsBehind after_key
  after_key-behind line.GoesOn s m = refl
  after_key-behind line.Ended s m = refl
  after_key-behind line.Interrupted s m = refl

  take_key-behind : (goes_on : LineReader) → ReadsBehind goes_on → (k : Option ℕ) (l : EditedLine) (s : Session) (m : Contents) → take_key goes_on k l (session_behind p q s) m ≡ did_behind p q (take_key goes_on k l s m)
  take_key-behind goes_on same None l s m = refl
  take_key-behind goes_on same (Some k) l s m =
      let e = key_into_line (key_read s.console) l k in
      ap (λ (f : EditResult). edited_with goes_on (session_behind p q s) m f) (key_into_line-behind p q (key_read s.console) l k) ∙ same e.progress (with_edited s e) m

  no_more-behind : (goes_on : LineReader) → ReadsBehind goes_on → (l : EditedLine) (s : Session) (m : Contents) → no_more goes_on l (session_behind p q s) m ≡ did_behind p q (no_more goes_on l s m)
  no_more-behind goes_on same l s m =
      ap (λ (t : Terminal). goes_on line.Ended (record s { console = t; line = l }) m) (said-behind p q s.console (13 ∷ [])) ∙ same line.Ended (record s { console = said s.console (13 ∷ []); line = l }) m

  pub line_step-behind : (goes_on : LineReader) → ReadsBehind goes_on → (l : EditedLine) (s : Session) (m : Contents) → line_step goes_on l (session_behind p q s) m ≡ did_behind p q (line_step goes_on l s m)
  line_step-behind goes_on same l s m =
      did-if (is_open l) _ _ _ _ (take_key-behind goes_on same (first_key s) l s m) (no_more-behind goes_on same l s m)

  release-behind : (h : HeldOutput) (k : Option ℕ) (s : Session) (m : Contents) → release h k (session_behind p q s) m ≡ did_behind p q (release h k s m)
  release-behind h None s m = refl
  release-behind h (Some k) s m = did-if (k == 3) _ _ _ _ refl refl

  after_fault-behind : (k : Option ℕ) (s : Session) (m : Contents) → after_fault k (session_behind p q s) m ≡ did_behind p q (after_fault k s m)
  after_fault-behind None s m = refl
  after_fault-behind (Some k) s m = refl

  pub faulted-behind : (f : Fault) (drive : ℕ) (s : Session) (m : Contents) → faulted (session_behind p q s) m f drive ≡ did_behind p q (faulted s m f drive)
  faulted-behind f drive s m =
      ap (λ (t : Terminal). did (record s { console = t; mode = FaultMode }) m GoesOn) (shown-behind p q s.console (fault_text f drive))

  by_answer-behind : (a : Result ℕ Fault) (drive : ℕ) (s : Session) (m : Contents) → by_answer a drive (session_behind p q s) m ≡ did_behind p q (by_answer a drive s m)
  by_answer-behind (Ok code) drive s m = refl
  by_answer-behind (Err which) drive s m = faulted-behind which drive s m

  call_file_function-behind : (f : FileFunction) (system : Disk) (s : Session) (m : Contents) → call_file_function f system (session_behind p q s) m ≡ did_behind p q (call_file_function f system s m)
  unfolding call_file_function
  call_file_function-behind f system s m =
      let c = call_of f system s m in
      let at = pair_de s.regs in
      let old = run_at m at fcb_size in
      by_answer-behind c.answer (drive_named s.disks (slice_index old 0)) (with_disks s c.disks) (call_stored m s.buffer at old c)

  select_disk-behind : (system : Disk) (s : Session) (m : Contents) → select_disk system (session_behind p q s) m ≡ did_behind p q (select_disk system s m)
  unfolding select_disk
  select_disk-behind system s m =
      let c = select s.disks system s.regs.e in
      by_answer-behind c.answer s.regs.e (with_disks s c.disks) m

  give_allocation-behind : (system : Disk) (s : Session) (m : Contents) → give_allocation system (session_behind p q s) m ≡ did_behind p q (give_allocation system s m)
  unfolding give_allocation
  give_allocation-behind system s m = refl

  user_code-behind : (s : Session) (m : Contents) → user_code (session_behind p q s) m ≡ did_behind p q (user_code s m)
  unfolding user_code
  user_code-behind s m = did-if (s.regs.e == 255) _ _ _ _ refl refl

  called-behind : (f : Function) (system : Disk) (s : Session) (m : Contents) → function_called f system (session_behind p q s) m ≡ did_behind p q (function_called f system s m)
  called-behind WarmBoot system s m = refl
  called-behind ReadKey system s m = read_key-behind (first_key s) s m
  called-behind WriteByte system s m = write_byte-behind s m
  called-behind ReaderInput system s m = refl
  called-behind PunchOutput system s m = refl
  called-behind ListOutput system s m = ap (λ (t : Session). answered t m 0) (list_byte-behind s s.regs.e)
  called-behind DirectConsole system s m = direct_console-behind s.regs.e s m
  called-behind GetIoByte system s m = refl
  called-behind SetIoByte system s m = refl
  called-behind WriteText system s m = write_text-behind held.Call s m (pair_de s.regs)
  called-behind ReadLine system s m = line_step-behind after_key after_key-behind (begun_line s.console.column (byte_at m (pair_de s.regs))) s m
  called-behind ConsoleStatus system s m = refl
  called-behind Version system s m = refl
  called-behind ResetDisks system s m = refl
  called-behind SelectDisk system s m = select_disk-behind system s m
  called-behind (File f) system s m = call_file_function-behind f system s m
  called-behind LoginVector system s m = refl
  called-behind CurrentDisk system s m = refl
  called-behind SetBuffer system s m = refl
  called-behind AllocationVector system s m = give_allocation-behind system s m
  called-behind ProtectDisk system s m = refl
  called-behind ReadOnlyVector system s m = refl
  called-behind DiskParameters system s m = refl
  called-behind UserCode system s m = user_code-behind s m
  called-behind ResetDrives system s m = refl
  called-behind Other system s m = refl

  in_mode-behind : (mode : Mode) (system : Disk) (s : Session) (m : Contents) → in_mode mode system (session_behind p q s) m ≡ did_behind p q (in_mode mode system s m)
  in_mode-behind Program system s m = called-behind (function_of s.regs.c) system s m
  in_mode-behind (Text address) system s m = write_text-behind (held.Text address) s m address
  in_mode-behind Line system s m = line_step-behind after_key after_key-behind s.line s m
  in_mode-behind (Hold h) system s m = release-behind h (first_key s) s m
  in_mode-behind FaultMode system s m = after_fault-behind (first_key s) s m
  in_mode-behind (Command part) system s m = refl

  -- a step of the BDOS does the same whatever output waits, and shows its own behind it
  pub bdos-behind : (system : Disk) (s : Session) (m : Contents) → bdos system (session_behind p q s) m ≡ did_behind p q (bdos system s m)
  bdos-behind system s m = in_mode-behind s.mode system s m

  console_input-behind : (k : Option ℕ) (s : Session) (m : Contents) → console_input k (session_behind p q s) m ≡ did_behind p q (console_input k s m)
  console_input-behind None s m = refl
  console_input-behind (Some k) s m = refl

  select_drive-behind : (system : Disk) (s : Session) (m : Contents) → select_drive system (session_behind p q s) m ≡ did_behind p q (select_drive system s m)
  unfolding select_drive
  select_drive-behind system s m = did-if (is_there s.disks s.regs.c) _ _ _ _ refl refl

  sector_got-behind : (got : Option (List ℕ)) (s : Session) (m : Contents) → sector_got got (session_behind p q s) m ≡ did_behind p q (sector_got got s m)
  sector_got-behind None s m = refl
  sector_got-behind (Some bytes) s m = refl

  read_sector-behind : (system : Disk) (s : Session) (m : Contents) → read_sector system (session_behind p q s) m ≡ did_behind p q (read_sector system s m)
  unfolding read_sector
  read_sector-behind system s m =
      sector_got-behind (sector_read s.disks system s.place.drive s.place.track s.place.sector) s m

  sector_put-behind : (put : Option Disks) (s : Session) (m : Contents) → sector_put put (session_behind p q s) m ≡ did_behind p q (sector_put put s m)
  sector_put-behind None s m = refl
  sector_put-behind (Some disks) s m = refl

  write_sector-behind : (s : Session) (m : Contents) → write_sector (session_behind p q s) m ≡ did_behind p q (write_sector s m)
  unfolding write_sector
  write_sector-behind s m =
      sector_put-behind (sector_written s.disks s.place.drive s.place.track s.place.sector (run_at m s.place.buffer record_size)) s m

  translate-behind : (s : Session) (m : Contents) → translate (session_behind p q s) m ≡ did_behind p q (translate s m)
  unfolding translate
  translate-behind s m = refl

  bios_called-behind : (call : BiosCall) (system : Disk) (s : Session) (m : Contents) → bios_called call system (session_behind p q s) m ≡ did_behind p q (bios_called call system s m)
  bios_called-behind entry.Boot system s m = refl
  bios_called-behind entry.WarmBoot system s m = refl
  bios_called-behind entry.ConsoleStatus system s m = refl
  bios_called-behind entry.ConsoleInput system s m = console_input-behind (first_key s) s m
  bios_called-behind entry.ConsoleOutput system s m = ap (λ (t : Session). call_returned t m) (showed-behind s s.regs.c)
  bios_called-behind entry.List system s m = ap (λ (t : Session). call_returned t m) (list_byte-behind s s.regs.c)
  bios_called-behind entry.Punch system s m = refl
  bios_called-behind entry.Reader system s m = refl
  bios_called-behind entry.Home system s m = refl
  bios_called-behind entry.SelectDrive system s m = select_drive-behind system s m
  bios_called-behind entry.SetTrack system s m = refl
  bios_called-behind entry.SetSector system s m = refl
  bios_called-behind entry.SetSectorBuffer system s m = refl
  bios_called-behind entry.ReadSector system s m = read_sector-behind system s m
  bios_called-behind entry.WriteSector system s m = write_sector-behind s m
  bios_called-behind entry.ListStatus system s m = refl
  bios_called-behind entry.Translate system s m = translate-behind s m
  bios_called-behind entry.Other system s m = refl

  -- and so does a call of the BIOS
  pub bios-behind : (number : ℕ) (system : Disk) (s : Session) (m : Contents) → bios number system (session_behind p q s) m ≡ did_behind p q (bios number system s m)
  bios-behind number system s m = bios_called-behind (bios_call_of number) system s m
