-- Every step is bounded.
use Rattle.std.proofs.Common.{◌≡◌, ℕ, ◌+◌, ◌≤◌, Bool, true, false, List, [], ◌∷◌, length, refl, ◌∙◌, arith, Option, Some, None, Result, Ok, Err}
use Rattle.std.specs.Prelude.{if◌then◌else◌, ◌==◌, slice_index}
use Rattle.std.proofs.lemmas.List.{length-append}
use Rattle.cpm_geom.specs.Disk.{Disk}
use Rattle.cpm_geom.specs.Geometry.{dpb_of}
use Rattle.cpm_geom.specs.declared.format.Format.{Format}
use Rattle.cpm_geom.specs.declared.format.Format.TheVariants.{Ibm3740, Large}
use Rattle.cpm_console.specs.Terminal.{Terminal, expanded, printed, key_read, said, IsWithin}
use Rattle.cpm_console.specs.EditedLine.{EditedLine}
use Rattle.cpm_console.specs.Editing.{EditResult, begun_line, edited, key_into_line}
use Rattle.cpm_console.specs.declared.line.LineState.{LineState}
use Rattle.cpm_console.specs.declared.line.LineState.TheVariants as line
use Rattle.cpm_console.proofs.Growth.{IsWithin-said, IsWithin-shown, IsWithin-same, length-expanded, IsWithin-key_into_line, length-key_into_line}
use Rattle.cpm_memory.specs.Contents.{Contents, byte_at, next, run_at, touched_of, after_run}
use Rattle.cpm_memory.proofs.Runs.{touched_of-run, limit-run}
use Rattle.cpm_bdos.proofs.Limits.{limit-rebooted, limit-line_ended}
use Rattle.cpm_bdos.specs.Registers.{pair_de}
use Rattle.cpm_bdos.specs.Function.{function_of, bios_call_of}
use Rattle.cpm_bdos.specs.StepResult.{StepResult, did, answered, rebooted}
use Rattle.cpm_bdos.specs.Keys.{first_key, took_key}
use Rattle.cpm_bdos.specs.Hold.{is_stop, held_at, resumed, release}
use Rattle.cpm_bdos.specs.Output.{wrote, list_byte, showed, write_byte, write_text}
use Rattle.cpm_bdos.specs.Input.{is_echoed, read_key, direct_console}
use Rattle.cpm_bdos.specs.ReadLine.{LineReader, is_open, line_ended, after_key, with_edited, take_key, no_more, line_step}
use Rattle.cpm_bdos.specs.Faults.{fault_text, in_fault, faulted, after_fault}
use Rattle.cpm_drives.specs.declared.disks.Disks.{Disks}
use Rattle.cpm_drives.specs.declared.function.FileFunction.{FileFunction}
use Rattle.cpm_drives.specs.Disks.{is_there, drive_at}
use Rattle.cpm_drives.specs.Selecting.{drive_in_use, select}
use Rattle.cpm_drives.specs.Calls.{drive_named}
use Rattle.cpm_drives.specs.Vectors.{allocation_vector, allocation_of}
use Rattle.cpm_drives.specs.Sectors.{sector_read, sector_written}
use Rattle.cpm_bdos.specs.Disks.{by_answer, with_disks, fcb_size, record_size, call_stored, vector_of, call_file_function, select_disk, give_allocation, user_code}
use Rattle.cpm_bdos.specs.BiosDisks.{sector_got, sector_put, select_drive, read_sector, write_sector, translate}
use Rattle.cpm_bdos.proofs.Pages.{pages-le}
use Rattle.cpm_bdos.proofs.DriveCalls.{call_of, limit-record_stored, limit-call_stored, touched_of-record_stored, touched_of-call_stored}
use Rattle.cpm_bdos.specs.Step.{function_called, in_mode, bdos, booted, console_input, bios_called, bios}
use Rattle.cpm_bdos.specs.Bounds.{IsFit, IsBounded}
use Rattle.cpm_bdos.specs.declared.function.Function.{Function}
use Rattle.cpm_bdos.specs.declared.function.Function.TheVariants.{WarmBoot, ReadKey, WriteByte, ReaderInput, PunchOutput, ListOutput, DirectConsole, GetIoByte, SetIoByte, WriteText, ReadLine, ConsoleStatus, Version, ResetDisks, SelectDisk, File, LoginVector, CurrentDisk, SetBuffer, AllocationVector, ProtectDisk, ReadOnlyVector, DiskParameters, UserCode, ResetDrives, Other}
use Rattle.cpm_bdos.specs.declared.function.BiosCall.{BiosCall}
use Rattle.cpm_bdos.specs.declared.function.BiosCall.TheVariants as entry
use Rattle.cpm_volume.specs.declared.answer.Fault.{Fault}
use Rattle.cpm_volume.specs.declared.answer.Fault.TheVariants as fault
use Rattle.cpm_bdos.specs.declared.session.Session.{Session}
use Rattle.cpm_bdos.specs.declared.session.HeldOutput.{HeldOutput}
use Rattle.cpm_bdos.specs.declared.session.HeldOutput.TheVariants as held
use Rattle.cpm_bdos.specs.declared.session.Mode.{Mode}
use Rattle.cpm_bdos.specs.declared.session.Mode.TheVariants.{Program, Text, Line, Hold, Fault as FaultMode, Command}
use Rattle.cpm_bdos.specs.declared.session.Went.TheVariants.{GoesOn}

bounded_if : (b : Bool) (s : Session) (m : Contents) (x y : StepResult) → IsBounded s m x → IsBounded s m y → IsBounded s m (if b then x else y)
bounded_if true s m x y hx hy = hx
bounded_if false s m x y hx hy = hy

-- a step that leaves the memory
bounded_kept : (s : Session) (m : Contents) (d : StepResult) → d.memory ≡ m → IsWithin 4096 s.console d.session.console → IsBounded s m d
bounded_kept s m d same output = rw same (record { pages = omega arith; limit = refl; output = output })

-- ---- what is put on the devices

within_key : (t : Terminal) → IsWithin 4096 t (key_read t)
within_key t = record { screen = omega arith; printer = omega arith }

-- from a console on which a key was read
within_after_key : (t u : Terminal) → IsWithin 4096 (key_read t) u → IsWithin 4096 t u
within_after_key t u h = record { screen = h.screen; printer = h.printer }

within_wrote : (s : Session) (byte : ℕ) → IsWithin 4096 s.console (wrote s byte).console
within_wrote s byte = IsWithin-said 4096 s.console (expanded s.console.column byte) (omega (arith, length-expanded s.console.column byte))

within_showed : (s : Session) (byte : ℕ) → IsWithin 4096 s.console (showed s byte).console
within_showed s byte = IsWithin-shown 4096 s.console (byte ∷ []) (omega arith)

within_listed : (s : Session) (byte : ℕ) → IsWithin 4096 s.console (list_byte s byte).console
unfolding printed
within_listed s byte = record { screen = omega arith; printer = omega (arith, length-append s.console.printer (byte ∷ [])) }

-- ---- warm boots, from a memory with one page more

pub bounded_rebooted : (s t : Session) (m n : Contents) → touched_of n ≤ touched_of m + 1 → n.limit ≡ m.limit → IsWithin 4096 s.console t.console → IsBounded s m (rebooted t n)
bounded_rebooted s t m n more same output =
    let first : touched_of (after_run n 0 (195 ∷ 3 ∷ 250 ∷ [])) ≤ touched_of n + 1 = touched_of-run n 0 (195 ∷ 3 ∷ 250 ∷ []) (omega arith) (omega arith) in
    let second : touched_of (after_run (after_run n 0 (195 ∷ 3 ∷ 250 ∷ [])) 5 (195 ∷ 6 ∷ 236 ∷ [])) ≤ touched_of (after_run n 0 (195 ∷ 3 ∷ 250 ∷ [])) + 1 = touched_of-run (after_run n 0 (195 ∷ 3 ∷ 250 ∷ [])) 5 (195 ∷ 6 ∷ 236 ∷ []) (omega arith) (omega arith) in
    record { pages = omega (arith, first, second, more); limit = limit-rebooted t n ∙ same; output = record { screen = output.screen; printer = output.printer } }

bounded_booted : (s : Session) (m : Contents) → IsBounded s m (booted s m)
bounded_booted s m =
    bounded_rebooted s s m (after_run m 3 (0 ∷ 0 ∷ [])) (touched_of-run m 3 (0 ∷ 0 ∷ []) (omega arith) (omega arith)) (limit-run m 3 (0 ∷ 0 ∷ [])) (IsWithin-same 4096 s.console)

-- a warm boot after a key was read
bounded_break : (s : Session) (m : Contents) → IsBounded s m (rebooted (took_key s) m)
bounded_break s m = bounded_rebooted s (took_key s) m m (omega arith) refl (within_key s.console)

-- ---- output and input

bounded_held : (h : HeldOutput) (s : Session) (m : Contents) → IsBounded s m (held_at h s m)
bounded_held h s m = bounded_kept s m _ refl (within_key s.console)

bounded_write_byte : (s : Session) (m : Contents) → IsBounded s m (write_byte s m)
bounded_write_byte s m =
    bounded_if (is_stop (first_key s)) s m _ _ (bounded_held held.Call s m) (bounded_kept s m (answered (wrote s s.regs.e) m 0) refl (within_wrote s s.regs.e))

bounded_write_text : (h : HeldOutput) (s : Session) (m : Contents) (address : ℕ) → IsBounded s m (write_text h s m address)
bounded_write_text h s m address =
    bounded_if (byte_at m address == 36) s m _ _ (bounded_kept s m (answered s m 0) refl (IsWithin-same 4096 s.console))
    (bounded_if (is_stop (first_key s)) s m _ _ (bounded_held h s m) (bounded_kept s m (did (record (wrote s (byte_at m address)) { mode = Text (next address) }) m GoesOn) refl (within_wrote s (byte_at m address))))

bounded_read_key : (k : Option ℕ) (s : Session) (m : Contents) → IsBounded s m (read_key k s m)
bounded_read_key None s m = bounded_kept s m _ refl (IsWithin-same 4096 s.console)
bounded_read_key (Some k) s m = by_echo (is_echoed k)
  where
    by_echo : (echoes : Bool) → IsBounded s m (answered (if echoes then wrote (took_key s) k else took_key s) m k)
    by_echo true = bounded_kept s m (answered (wrote (took_key s) k) m k) refl (within_after_key s.console _ (within_wrote (took_key s) k))
    by_echo false = bounded_kept s m (answered (took_key s) m k) refl (within_key s.console)

bounded_direct_console : (e : ℕ) (s : Session) (m : Contents) → IsBounded s m (direct_console e s m)
bounded_direct_console e s m =
    bounded_if (e == 255) s m _ _ (bounded_kept s m _ refl (within_key s.console))
    (bounded_if (e == 254) s m _ _ (bounded_kept s m _ refl (IsWithin-same 4096 s.console)) (bounded_kept s m (answered (showed s e) m 0) refl (within_showed s e)))

bounded_release : (h : HeldOutput) (k : Option ℕ) (s : Session) (m : Contents) → IsBounded s m (release h k s m)
bounded_release h None s m = bounded_kept s m _ refl (IsWithin-same 4096 s.console)
bounded_release h (Some k) s m =
    bounded_if (k == 3) s m _ _ (bounded_break s m) (bounded_kept s m (did (record (took_key s) { mode = resumed h }) m GoesOn) refl (within_key s.console))

bounded_after_fault : (k : Option ℕ) (s : Session) (m : Contents) → IsBounded s m (after_fault k s m)
bounded_after_fault None s m = bounded_kept s m _ refl (IsWithin-same 4096 s.console)
bounded_after_fault (Some k) s m = bounded_break s m

-- ---- faults

length-fault_text : (f : Fault) (drive : ℕ) → length (fault_text f drive) ≤ 32
length-fault_text fault.BadSector drive = omega arith
length-fault_text fault.Select drive = omega arith
length-fault_text fault.FileReadOnly drive = omega arith
length-fault_text fault.ReadOnly drive = omega arith

pub within_fault : (s : Session) (f : Fault) (drive : ℕ) → IsWithin 4096 s.console (in_fault s f drive).console
within_fault s f drive = IsWithin-shown 4096 s.console (fault_text f drive) (omega (arith, length-fault_text f drive))

pub bounded_faulted : (s : Session) (m : Contents) (f : Fault) (drive : ℕ) → IsBounded s m (faulted s m f drive)
bounded_faulted s m f drive = bounded_kept s m _ refl (within_fault s f drive)

-- ---- lines

bounded_line_ended : (s t : Session) (m : Contents) → length t.line.characters ≤ 256 → IsWithin 4096 s.console t.console → IsBounded s m (line_ended t m)
bounded_line_ended s t m few output =
    let at = next (pair_de t.regs) in
    let n = after_run m at (length t.line.characters ∷ []) in
    let first = touched_of-run m at (length t.line.characters ∷ []) (omega arith) (omega arith) in
    let second = touched_of-run n (next at) t.line.characters (omega arith) few in
    record {
      pages = omega (arith, first, second, pages-le at 1, pages-le (next at) (length t.line.characters));
      limit = limit-line_ended t m;
      output = record { screen = output.screen; printer = output.printer };
    }

-- a line's reader that is bounded, from a session whose line was edited
abbrev pub ReaderIsBounded : LineReader → Type 0
ReaderIsBounded goes_on = (p : LineState) (s : Session) (m : Contents) (e : EditResult) → IsWithin 4096 s.console e.terminal → length e.line.characters ≤ 256 → IsBounded s m (goes_on p (with_edited s e) m)

bounded_after_key : ReaderIsBounded after_key
bounded_after_key line.GoesOn s m e output few = bounded_kept s m _ refl output
bounded_after_key line.Ended s m e output few = bounded_line_ended s (with_edited s e) m few output
bounded_after_key line.Interrupted s m e output few = bounded_rebooted s (with_edited s e) m m (omega arith) refl output

-- a line whose numbers are bytes
pub record IsFitLine (l : EditedLine) : Type 0 where
  pub start : l.start ≤ 255
  pub characters : length l.characters ≤ 255

bounded_take_key : (goes_on : LineReader) → ReaderIsBounded goes_on → (k : Option ℕ) (l : EditedLine) (s : Session) (m : Contents) → IsFitLine l → IsBounded s m (take_key goes_on k l s m)
bounded_take_key goes_on bounded None l s m fit = bounded_kept s m _ refl (IsWithin-same 4096 s.console)
bounded_take_key goes_on bounded (Some k) l s m fit =
    let e = key_into_line (key_read s.console) l k in
    let shows = IsWithin-key_into_line (key_read s.console) l k fit.start fit.characters in
    let more = length-key_into_line (key_read s.console) l k in
    bounded e.progress s m e (record { screen = omega (arith, shows.screen); printer = omega (arith, shows.printer) }) (omega (arith, more, fit.characters))

bounded_no_more : (goes_on : LineReader) → ReaderIsBounded goes_on → (l : EditedLine) (s : Session) (m : Contents) → IsFitLine l → IsBounded s m (no_more goes_on l s m)
bounded_no_more goes_on bounded l s m fit =
    bounded line.Ended s m (edited (said s.console (13 ∷ [])) l line.Ended) (IsWithin-said 4096 s.console (13 ∷ []) (omega arith)) (omega (arith, fit.characters))

pub bounded_line_step : (goes_on : LineReader) → ReaderIsBounded goes_on → (l : EditedLine) (s : Session) (m : Contents) → IsFitLine l → IsBounded s m (line_step goes_on l s m)
bounded_line_step goes_on bounded l s m fit =
    bounded_if (is_open l) s m _ _ (bounded_take_key goes_on bounded (first_key s) l s m fit) (bounded_no_more goes_on bounded l s m fit)

-- ---- drives and files

bounded_by_answer : (a : Result ℕ Fault) (drive : ℕ) (s : Session) (m n : Contents) (disks : Disks) → touched_of n ≤ touched_of m + 8 → n.limit ≡ m.limit → IsBounded s m (by_answer a drive (with_disks s disks) n)
bounded_by_answer (Ok code) drive s m n disks pages limit = record { pages = pages; limit = limit; output = IsWithin-same 4096 s.console }
bounded_by_answer (Err which) drive s m n disks pages limit =
    let output = within_fault (with_disks s disks) which drive in
    record { pages = pages; limit = limit; output = record { screen = output.screen; printer = output.printer } }

bounded_call_file_function : (f : FileFunction) (system : Disk) (s : Session) (m : Contents) → IsFit s → IsBounded s m (call_file_function f system s m)
unfolding call_file_function
bounded_call_file_function f system s m fit =
    let c = call_of f system s m in
    let at = pair_de s.regs in
    let old = run_at m at fcb_size in
    bounded_by_answer c.answer (drive_named s.disks (slice_index old 0)) s m (call_stored m s.buffer at old c) c.disks (omega (arith, touched_of-call_stored m s.buffer at old c (omega (arith, fit.buffer)) (omega (arith, fit.parameter)))) (limit-call_stored m s.buffer at old c)

bounded_select_disk : (system : Disk) (s : Session) (m : Contents) → IsBounded s m (select_disk system s m)
unfolding select_disk
bounded_select_disk system s m =
    let c = select s.disks system s.regs.e in
    bounded_by_answer c.answer s.regs.e s m m c.disks (omega arith) refl

length-allocation_vector : (f : Format) (reserved : List Bool) → length (allocation_vector (dpb_of f) reserved) ≤ 256
unfolding allocation_vector dpb_of
length-allocation_vector Ibm3740 reserved = omega arith
length-allocation_vector Large reserved = omega arith

bounded_give_allocation : (system : Disk) (s : Session) (m : Contents) → IsBounded s m (give_allocation system s m)
unfolding give_allocation
bounded_give_allocation system s m =
    let at = vector_of s.disks.current in
    let drive = drive_at (drive_in_use s.disks system s.disks.current) system s.disks.current in
    let vector = allocation_of drive in
    record {
      pages = omega (arith, touched_of-run m at vector (omega arith) (length-allocation_vector drive.image.format drive.marks.reserved), pages-le at (length vector));
      limit = limit-run m at vector;
      output = IsWithin-same 4096 s.console;
    }

bounded_user_code : (s : Session) (m : Contents) → IsBounded s m (user_code s m)
unfolding user_code
bounded_user_code s m =
    bounded_if (s.regs.e == 255) s m _ _ (bounded_kept s m _ refl (IsWithin-same 4096 s.console)) (bounded_kept s m _ refl (IsWithin-same 4096 s.console))

bounded_select_drive : (system : Disk) (s : Session) (m : Contents) → IsBounded s m (select_drive system s m)
unfolding select_drive
bounded_select_drive system s m =
    bounded_if (is_there s.disks s.regs.c) s m _ _ (bounded_kept s m _ refl (IsWithin-same 4096 s.console)) (bounded_kept s m _ refl (IsWithin-same 4096 s.console))

bounded_sector_got : (got : Option (List ℕ)) (s : Session) (m : Contents) → IsFit s → IsBounded s m (sector_got got s m)
bounded_sector_got None s m fit = bounded_kept s m _ refl (IsWithin-same 4096 s.console)
bounded_sector_got (Some bytes) s m fit = record {
  pages = omega (arith, touched_of-record_stored m s.place.buffer bytes (omega (arith, fit.sector_buffer)));
  limit = limit-record_stored m s.place.buffer bytes;
  output = IsWithin-same 4096 s.console;
}

bounded_read_sector : (system : Disk) (s : Session) (m : Contents) → IsFit s → IsBounded s m (read_sector system s m)
unfolding read_sector
bounded_read_sector system s m fit =
    bounded_sector_got (sector_read s.disks system s.place.drive s.place.track s.place.sector) s m fit

bounded_sector_put : (put : Option Disks) (s : Session) (m : Contents) → IsBounded s m (sector_put put s m)
bounded_sector_put None s m = bounded_kept s m _ refl (IsWithin-same 4096 s.console)
bounded_sector_put (Some disks) s m = bounded_kept s m _ refl (IsWithin-same 4096 s.console)

bounded_write_sector : (s : Session) (m : Contents) → IsBounded s m (write_sector s m)
unfolding write_sector
bounded_write_sector s m =
    bounded_sector_put (sector_written s.disks s.place.drive s.place.track s.place.sector (run_at m s.place.buffer record_size)) s m

bounded_translate : (s : Session) (m : Contents) → IsBounded s m (translate s m)
unfolding translate
bounded_translate s m = bounded_kept s m _ refl (IsWithin-same 4096 s.console)

-- ---- steps

-- a call that leaves the memory and the console
bounded_quiet : (s : Session) (m : Contents) (d : StepResult) → d.memory ≡ m → d.session.console ≡ s.console → IsBounded s m d
bounded_quiet s m d same quiet = bounded_kept s m d same (rw quiet (IsWithin-same 4096 s.console))

bounded_called : (f : Function) (system : Disk) (s : Session) (m : Contents) → IsFit s → IsBounded s m (function_called f system s m)
bounded_called WarmBoot system s m fit = bounded_rebooted s s m m (omega arith) refl (IsWithin-same 4096 s.console)
bounded_called ReadKey system s m fit = bounded_read_key (first_key s) s m
bounded_called WriteByte system s m fit = bounded_write_byte s m
bounded_called ReaderInput system s m fit = bounded_quiet s m _ refl refl
bounded_called PunchOutput system s m fit = bounded_quiet s m _ refl refl
bounded_called ListOutput system s m fit = bounded_kept s m (answered (list_byte s s.regs.e) m 0) refl (within_listed s s.regs.e)
bounded_called DirectConsole system s m fit = bounded_direct_console s.regs.e s m
bounded_called GetIoByte system s m fit = bounded_quiet s m _ refl refl
bounded_called SetIoByte system s m fit = record {
  pages = omega (arith, touched_of-run m 3 (s.regs.e ∷ []) (omega arith) (omega arith), pages-le 3 1);
  limit = limit-run m 3 (s.regs.e ∷ []);
  output = IsWithin-same 4096 s.console;
}
bounded_called WriteText system s m fit = bounded_write_text held.Call s m (pair_de s.regs)
bounded_called ReadLine system s m fit =
    bounded_line_step after_key bounded_after_key (begun_line s.console.column (byte_at m (pair_de s.regs))) s m (record { start = fit.column; characters = omega arith })
bounded_called ConsoleStatus system s m fit = bounded_quiet s m _ refl refl
bounded_called Version system s m fit = bounded_quiet s m _ refl refl
bounded_called ResetDisks system s m fit = bounded_quiet s m _ refl refl
bounded_called SelectDisk system s m fit = bounded_select_disk system s m
bounded_called (File f) system s m fit = bounded_call_file_function f system s m fit
bounded_called LoginVector system s m fit = bounded_quiet s m _ refl refl
bounded_called CurrentDisk system s m fit = bounded_quiet s m _ refl refl
bounded_called SetBuffer system s m fit = bounded_quiet s m _ refl refl
bounded_called AllocationVector system s m fit = bounded_give_allocation system s m
bounded_called ProtectDisk system s m fit = bounded_quiet s m _ refl refl
bounded_called ReadOnlyVector system s m fit = bounded_quiet s m _ refl refl
bounded_called DiskParameters system s m fit = bounded_quiet s m _ refl refl
bounded_called UserCode system s m fit = bounded_user_code s m
bounded_called ResetDrives system s m fit = bounded_quiet s m _ refl refl
bounded_called Other system s m fit = bounded_quiet s m _ refl refl

bounded_in_mode : (mode : Mode) (system : Disk) (s : Session) (m : Contents) → IsFit s → IsBounded s m (in_mode mode system s m)
bounded_in_mode Program system s m fit = bounded_called (function_of s.regs.c) system s m fit
bounded_in_mode (Text address) system s m fit = bounded_write_text (held.Text address) s m address
bounded_in_mode Line system s m fit = bounded_line_step after_key bounded_after_key s.line s m (record { start = fit.start; characters = fit.characters })
bounded_in_mode (Hold h) system s m fit = bounded_release h (first_key s) s m
bounded_in_mode FaultMode system s m fit = bounded_after_fault (first_key s) s m
bounded_in_mode (Command part) system s m fit = bounded_quiet s m _ refl refl

-- a step of the BDOS
pub IsBounded-bdos : (system : Disk) (s : Session) (m : Contents) → IsFit s → IsBounded s m (bdos system s m)
IsBounded-bdos system s m fit = bounded_in_mode s.mode system s m fit

bounded_console_input : (k : Option ℕ) (s : Session) (m : Contents) → IsBounded s m (console_input k s m)
bounded_console_input None s m = bounded_quiet s m _ refl refl
bounded_console_input (Some k) s m = bounded_kept s m _ refl (within_key s.console)

bounded_bios : (call : BiosCall) (system : Disk) (s : Session) (m : Contents) → IsFit s → IsBounded s m (bios_called call system s m)
bounded_bios entry.Boot system s m fit = bounded_booted s m
bounded_bios entry.WarmBoot system s m fit = bounded_rebooted s s m m (omega arith) refl (IsWithin-same 4096 s.console)
bounded_bios entry.ConsoleStatus system s m fit = bounded_quiet s m _ refl refl
bounded_bios entry.ConsoleInput system s m fit = bounded_console_input (first_key s) s m
bounded_bios entry.ConsoleOutput system s m fit = bounded_kept s m _ refl (within_showed s s.regs.c)
bounded_bios entry.List system s m fit = bounded_kept s m _ refl (within_listed s s.regs.c)
bounded_bios entry.Punch system s m fit = bounded_quiet s m _ refl refl
bounded_bios entry.Reader system s m fit = bounded_quiet s m _ refl refl
bounded_bios entry.Home system s m fit = bounded_quiet s m _ refl refl
bounded_bios entry.SelectDrive system s m fit = bounded_select_drive system s m
bounded_bios entry.SetTrack system s m fit = bounded_quiet s m _ refl refl
bounded_bios entry.SetSector system s m fit = bounded_quiet s m _ refl refl
bounded_bios entry.SetSectorBuffer system s m fit = bounded_quiet s m _ refl refl
bounded_bios entry.ReadSector system s m fit = bounded_read_sector system s m fit
bounded_bios entry.WriteSector system s m fit = bounded_write_sector s m
bounded_bios entry.ListStatus system s m fit = bounded_quiet s m _ refl refl
bounded_bios entry.Translate system s m fit = bounded_translate s m
bounded_bios entry.Other system s m fit = bounded_quiet s m _ refl refl

-- a step of the BIOS
pub IsBounded-bios : (number : ℕ) (system : Disk) (s : Session) (m : Contents) → IsFit s → IsBounded s m (bios number system s m)
IsBounded-bios number system s m fit = bounded_bios (bios_call_of number) system s m fit
