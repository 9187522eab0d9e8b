-- A step waits exactly where it needs a key and finds none.
use Rattle.std.proofs.Common.{◌≡◌, ℕ, ◌-◌, Bool, true, false, ◌&&◌, not, refl, ap, sym, ◌∙◌, subst, List, Option, Some, None, is_some, Result, Ok, Err, arith}
use Rattle.std.specs.Prelude.{if◌then◌else◌, ◌==◌, nat_le, nat_lt, slice_index, [], ◌∷◌}
use Rattle.std.proofs.lemmas.Bool.Decides.{nat_tests}
use Rattle.cpm_geom.specs.Disk.{Disk}
use Rattle.cpm_console.specs.EditedLine.{EditedLine}
use Rattle.cpm_console.specs.Editing.{begun_line, key_into_line}
use Rattle.cpm_console.specs.Terminal.{said, key_read}
use Rattle.cpm_console.specs.declared.line.LineState.{LineState}
use Rattle.cpm_console.specs.declared.line.LineState.TheVariants as line
use Rattle.cpm_memory.specs.Contents.{Contents, byte_at, run_at}
use Rattle.cpm_bdos.specs.Registers.{pair_de}
use Rattle.cpm_bdos.specs.Function.{function_of, bios_call_of}
use Rattle.cpm_bdos.specs.StepResult.{StepResult, did}
use Rattle.cpm_bdos.specs.Keys.{first_key}
use Rattle.cpm_bdos.specs.Hold.{is_stop, release}
use Rattle.cpm_bdos.specs.Output.{write_byte, write_text}
use Rattle.cpm_bdos.specs.Input.{read_key, direct_console}
use Rattle.cpm_bdos.specs.ReadLine.{LineReader, is_open, after_key, with_edited, take_key, line_step}
use Rattle.cpm_bdos.specs.Faults.{after_fault}
use Rattle.cpm_volume.specs.declared.answer.Fault.{Fault as Failure}
use Rattle.cpm_drives.specs.declared.disks.Disks.{Disks}
use Rattle.cpm_drives.specs.declared.function.FileFunction.{FileFunction}
use Rattle.cpm_drives.specs.Disks.{is_there}
use Rattle.cpm_drives.specs.Selecting.{select}
use Rattle.cpm_drives.specs.Calls.{drive_named}
use Rattle.cpm_drives.specs.Sectors.{sector_read, sector_written}
use Rattle.cpm_bdos.specs.Disks.{by_answer, with_disks, fcb_size, record_size, call_stored, call_file_function, select_disk, give_allocation, user_code}
use Rattle.cpm_bdos.specs.BiosDisks.{sector_got, sector_put, select_drive, read_sector, write_sector, translate}
use Rattle.cpm_bdos.proofs.DriveCalls.{call_of}
use Rattle.cpm_bdos.specs.Step.{function_called, in_mode, bdos, console_input, bios_called, bios}
use Rattle.cpm_bdos.specs.Waiting.{function_needs_key, needs_key, is_waiting, is_command, call_in, IsWaiting}
use Rattle.cpm_bdos.specs.declared.function.Function.{Function}
use Rattle.cpm_bdos.specs.declared.function.Function.TheVariants.{WarmBoot, ReadKey, WriteByte, ReaderInput, PunchOutput, ListOutput, DirectConsole, GetIoByte, SetIoByte, WriteText, ReadLine, ConsoleStatus, Version, ResetDisks, SelectDisk, File, LoginVector, CurrentDisk, SetBuffer, AllocationVector, ProtectDisk, ReadOnlyVector, DiskParameters, UserCode, ResetDrives, Other}
use Rattle.cpm_bdos.specs.declared.function.BiosCall.{BiosCall}
use Rattle.cpm_bdos.specs.declared.function.BiosCall.TheVariants as entry
use Rattle.cpm_bdos.specs.declared.session.Session.{Session}
use Rattle.cpm_bdos.specs.declared.session.HeldOutput.{HeldOutput}
use Rattle.cpm_bdos.specs.declared.session.HeldOutput.TheVariants as held
use Rattle.cpm_bdos.specs.declared.session.Mode.{Mode}
use Rattle.cpm_bdos.specs.declared.session.Mode.TheVariants.{Program, Text, Line, Hold, Fault, Command}
use Rattle.cpm_bdos.specs.declared.session.Went.TheVariants.{Waits}

-- the step of a call changes nothing where it waits, and else is no wait
pub record IsWait (waits : Bool) (s : Session) (m : Contents) (d : StepResult) : Type 0 where
  pub changes_nothing : waits ≡ true → d ≡ did s m Waits
  pub elsewhere : waits ≡ false → d.went ≡ Waits → ⊥

-- ---- steps that never wait

abbrev Goes : StepResult → Type 0
Goes d = d.went ≡ Waits → ⊥

goes : (s : Session) (m : Contents) (d : StepResult) → Goes d → IsWait false s m d
goes s m d h = record { changes_nothing = λ e. absurd cc; elsewhere = λ _. h }

goes_if : (b : Bool) (x y : StepResult) → Goes x → Goes y → Goes (if b then x else y)
goes_if true x y hx hy = hx
goes_if false x y hx hy = hy

goes_write_byte : (s : Session) (m : Contents) → Goes (write_byte s m)
goes_write_byte s m = goes_if (is_stop (first_key s)) _ _ (λ e. cc) (λ e. cc)

goes_write_text : (h : HeldOutput) (s : Session) (m : Contents) (address : ℕ) → Goes (write_text h s m address)
goes_write_text h s m address =
    goes_if (byte_at m address == 36) _ _ (λ e. cc) (goes_if (is_stop (first_key s)) _ _ (λ e. cc) (λ e. cc))

goes_direct_console : (e : ℕ) (s : Session) (m : Contents) → Goes (direct_console e s m)
goes_direct_console e s m = goes_if (e == 255) _ _ (λ e. cc) (goes_if (e == 254) _ _ (λ e. cc) (λ e. cc))

-- a line's reader that never waits
abbrev pub ReaderGoes : LineReader → Type 0
ReaderGoes goes_on = (p : LineState) (s : Session) (m : Contents) → Goes (goes_on p s m)

goes_after_key : ReaderGoes after_key
goes_after_key line.GoesOn s m = λ e. cc
goes_after_key line.Ended s m = λ e. cc
goes_after_key line.Interrupted s m = λ e. cc

goes_by_answer : (a : Result ℕ Failure) (drive : ℕ) (s : Session) (m : Contents) → Goes (by_answer a drive s m)
goes_by_answer (Ok code) drive s m = λ e. cc
goes_by_answer (Err which) drive s m = λ e. cc

goes_call_file_function : (f : FileFunction) (system : Disk) (s : Session) (m : Contents) → Goes (call_file_function f system s m)
unfolding call_file_function
goes_call_file_function f system s m =
    let c = call_of f system s m in
    let at = pair_de s.regs in
    let old = run_at m at fcb_size in
    goes_by_answer c.answer (drive_named s.disks (slice_index old 0)) (with_disks s c.disks) (call_stored m s.buffer at old c)

goes_select_disk : (system : Disk) (s : Session) (m : Contents) → Goes (select_disk system s m)
unfolding select_disk
goes_select_disk system s m =
    let c = select s.disks system s.regs.e in
    goes_by_answer c.answer s.regs.e (with_disks s c.disks) m

goes_give_allocation : (system : Disk) (s : Session) (m : Contents) → Goes (give_allocation system s m)
unfolding give_allocation
goes_give_allocation system s m = λ e. cc

goes_user_code : (s : Session) (m : Contents) → Goes (user_code s m)
unfolding user_code
goes_user_code s m = goes_if (s.regs.e == 255) _ _ (λ e. cc) (λ e. cc)

goes_select_drive : (system : Disk) (s : Session) (m : Contents) → Goes (select_drive system s m)
unfolding select_drive
goes_select_drive system s m = goes_if (is_there s.disks s.regs.c) _ _ (λ e. cc) (λ e. cc)

goes_sector_got : (got : Option (List ℕ)) (s : Session) (m : Contents) → Goes (sector_got got s m)
goes_sector_got None s m = λ e. cc
goes_sector_got (Some bytes) s m = λ e. cc

goes_read_sector : (system : Disk) (s : Session) (m : Contents) → Goes (read_sector system s m)
unfolding read_sector
goes_read_sector system s m =
    goes_sector_got (sector_read s.disks system s.place.drive s.place.track s.place.sector) s m

goes_sector_put : (put : Option Disks) (s : Session) (m : Contents) → Goes (sector_put put s m)
goes_sector_put None s m = λ e. cc
goes_sector_put (Some disks) s m = λ e. cc

goes_write_sector : (s : Session) (m : Contents) → Goes (write_sector s m)
unfolding write_sector
goes_write_sector s m =
    goes_sector_put (sector_written s.disks s.place.drive s.place.track s.place.sector (run_at m s.place.buffer record_size)) s m

goes_translate : (s : Session) (m : Contents) → Goes (translate s m)
unfolding translate
goes_translate s m = λ e. cc

-- ---- steps that need a key

waits_for : (k : Option ℕ) (s : Session) (m : Contents) (d : StepResult) → (k ≡ None → d ≡ did s m Waits) → ((key : ℕ) → k ≡ Some key → Goes d) → IsWait (not (is_some k)) s m d
waits_for None s m d none some = record { changes_nothing = λ _. none refl; elsewhere = λ e. absurd cc }
waits_for (Some key) s m d none some = goes s m d (some key refl)

read_key_waits : (k : Option ℕ) (s : Session) (m : Contents) → IsWait (not (is_some k)) s m (read_key k s m)
read_key_waits None s m = waits_for None s m _ (λ _. refl) (λ key e. absurd cc)
read_key_waits (Some k) s m = goes s m _ (λ e. cc)

take_key_waits : (goes_on : LineReader) → ReaderGoes goes_on → (k : Option ℕ) (l : EditedLine) (s : Session) (m : Contents) → IsWait (not (is_some k)) s m (take_key goes_on k l s m)
take_key_waits goes_on reader None l s m = waits_for None s m _ (λ _. refl) (λ key e. absurd cc)
take_key_waits goes_on reader (Some k) l s m =
    let e = key_into_line (key_read s.console) l k in
    goes s m _ (reader e.progress (with_edited s e) m)

pub line_step_waits : (goes_on : LineReader) → ReaderGoes goes_on → (l : EditedLine) (s : Session) (m : Contents) → IsWait (is_open l && not (is_some (first_key s))) s m (line_step goes_on l s m)
line_step_waits goes_on reader l s m = by_room (is_open l) refl
  where
    by_room : (b : Bool) → is_open l ≡ b → IsWait (is_open l && not (is_some (first_key s))) s m (line_step goes_on l s m)
    by_room true e = rw e (take_key_waits goes_on reader (first_key s) l s m)
    by_room false e = rw e (goes s m _ (reader line.Ended (record s { console = said s.console (13 ∷ []); line = l }) m))

release_waits : (h : HeldOutput) (k : Option ℕ) (s : Session) (m : Contents) → IsWait (not (is_some k)) s m (release h k s m)
release_waits h None s m = waits_for None s m _ (λ _. refl) (λ key e. absurd cc)
release_waits h (Some k) s m = goes s m _ (goes_if (k == 3) _ _ (λ e. cc) (λ e. cc))

after_fault_waits : (k : Option ℕ) (s : Session) (m : Contents) → IsWait (not (is_some k)) s m (after_fault k s m)
after_fault_waits None s m = waits_for None s m _ (λ _. refl) (λ key e. absurd cc)
after_fault_waits (Some k) s m = goes s m _ (λ e. cc)

console_input_waits : (k : Option ℕ) (s : Session) (m : Contents) → IsWait (not (is_some k)) s m (console_input k s m)
console_input_waits None s m = waits_for None s m _ (λ _. refl) (λ key e. absurd cc)
console_input_waits (Some k) s m = goes s m _ (λ e. cc)

-- ---- the BDOS

some-is : (n : ℕ) → nat_lt 0 n ≡ not (n == 0)
some-is n = by_test (nat_lt 0 n) (n == 0) refl refl
  where
    by_test : (b c : Bool) → nat_lt 0 n ≡ b → (n == 0) ≡ c → b ≡ not c
    by_test true false e f = refl
    by_test false true e f = refl
    by_test true true e f = absurd (grind (arith, nat_tests))
    by_test false false e f = absurd (grind (arith, nat_tests))

called_waits : (f : Function) (system : Disk) (s : Session) (m : Contents) → IsWait (function_needs_key f s m && not (is_some (first_key s))) s m (function_called f system s m)
called_waits WarmBoot system s m = goes s m _ (λ e. cc)
called_waits ReadKey system s m = read_key_waits (first_key s) s m
called_waits WriteByte system s m = goes s m _ (goes_write_byte s m)
called_waits ReaderInput system s m = goes s m _ (λ e. cc)
called_waits PunchOutput system s m = goes s m _ (λ e. cc)
called_waits ListOutput system s m = goes s m _ (λ e. cc)
called_waits DirectConsole system s m = goes s m _ (goes_direct_console s.regs.e s m)
called_waits GetIoByte system s m = goes s m _ (λ e. cc)
called_waits SetIoByte system s m = goes s m _ (λ e. cc)
called_waits WriteText system s m = goes s m _ (goes_write_text held.Call s m (pair_de s.regs))
called_waits ReadLine system s m =
    let l = begun_line s.console.column (byte_at m (pair_de s.regs)) in
    subst (λ b. IsWait (b && not (is_some (first_key s))) s m (line_step after_key l s m)) (some-is (byte_at m (pair_de s.regs))) (line_step_waits after_key goes_after_key l s m)
called_waits ConsoleStatus system s m = goes s m _ (λ e. cc)
called_waits Version system s m = goes s m _ (λ e. cc)
called_waits ResetDisks system s m = goes s m _ (λ e. cc)
called_waits SelectDisk system s m = goes s m _ (goes_select_disk system s m)
called_waits (File f) system s m = goes s m _ (goes_call_file_function f system s m)
called_waits LoginVector system s m = goes s m _ (λ e. cc)
called_waits CurrentDisk system s m = goes s m _ (λ e. cc)
called_waits SetBuffer system s m = goes s m _ (λ e. cc)
called_waits AllocationVector system s m = goes s m _ (goes_give_allocation system s m)
called_waits ProtectDisk system s m = goes s m _ (λ e. cc)
called_waits ReadOnlyVector system s m = goes s m _ (λ e. cc)
called_waits DiskParameters system s m = goes s m _ (λ e. cc)
called_waits UserCode system s m = goes s m _ (goes_user_code s m)
called_waits ResetDrives system s m = goes s m _ (λ e. cc)
called_waits Other system s m = goes s m _ (λ e. cc)

-- ---- the BIOS

is_input : BiosCall → Bool
is_input entry.ConsoleInput = true
is_input _ = false

bios_called_waits : (call : BiosCall) (system : Disk) (s : Session) (m : Contents) → IsWait (is_input call && not (is_some (first_key s))) s m (bios_called call system s m)
unfolding is_input
bios_called_waits entry.Boot system s m = goes s m _ (λ e. cc)
bios_called_waits entry.WarmBoot system s m = goes s m _ (λ e. cc)
bios_called_waits entry.ConsoleStatus system s m = goes s m _ (λ e. cc)
bios_called_waits entry.ConsoleInput system s m = console_input_waits (first_key s) s m
bios_called_waits entry.ConsoleOutput system s m = goes s m _ (λ e. cc)
bios_called_waits entry.List system s m = goes s m _ (λ e. cc)
bios_called_waits entry.Punch system s m = goes s m _ (λ e. cc)
bios_called_waits entry.Reader system s m = goes s m _ (λ e. cc)
bios_called_waits entry.Home system s m = goes s m _ (λ e. cc)
bios_called_waits entry.SelectDrive system s m = goes s m _ (goes_select_drive system s m)
bios_called_waits entry.SetTrack system s m = goes s m _ (λ e. cc)
bios_called_waits entry.SetSector system s m = goes s m _ (λ e. cc)
bios_called_waits entry.SetSectorBuffer system s m = goes s m _ (λ e. cc)
bios_called_waits entry.ReadSector system s m = goes s m _ (goes_read_sector system s m)
bios_called_waits entry.WriteSector system s m = goes s m _ (goes_write_sector s m)
bios_called_waits entry.ListStatus system s m = goes s m _ (λ e. cc)
bios_called_waits entry.Translate system s m = goes s m _ (goes_translate s m)
bios_called_waits entry.Other system s m = goes s m _ (λ e. cc)

input_if : (b : Bool) (x y : BiosCall) → is_input x ≡ false → is_input y ≡ false → is_input (if b then x else y) ≡ false
input_if true x y hx hy = hx
input_if false x y hx hy = hy

input-is : (n : ℕ) → is_input (bios_call_of n) ≡ (n == 3)
unfolding is_input bios_call_of
input-is n = by_three (n == 3) refl
  where
    by_three : (b : Bool) → (n == 3) ≡ b → is_input (bios_call_of n) ≡ b
    by_three true e = let three : n ≡ 3 = grind (arith, nat_tests) in rw three refl
    by_three false e =
        rw e (input_if (n == 0) _ _ refl (input_if (n == 1) _ _ refl (input_if (n == 2) _ _ refl (input_if (n == 4) _ _ refl (input_if (n == 5) _ _ refl (input_if (n == 6) _ _ refl (input_if (n == 7) _ _ refl (input_if (n == 8) _ _ refl (input_if (n == 9) _ _ refl (input_if (n == 10) _ _ refl (input_if (n == 11) _ _ refl (input_if (n == 12) _ _ refl (input_if (n == 13) _ _ refl (input_if (n == 14) _ _ refl (input_if (n == 15) _ _ refl (input_if (n == 16) _ _ refl refl))))))))))))))))

bios_waits : (n : ℕ) (system : Disk) (s : Session) (m : Contents) → IsWait ((n == 3) && not (is_some (first_key s))) s m (bios n system s m)
bios_waits n system s m =
    subst (λ b. IsWait (b && not (is_some (first_key s))) s m (bios n system s m)) (input-is n) (bios_called_waits (bios_call_of n) system s m)

-- ---- by the mode

abbrev IsWaitOf : Bool → Session → Contents → Option StepResult → Type 0
IsWaitOf waits s m call =
    (waits ≡ true → call ≡ Some (did s m Waits)) × (waits ≡ false → (d : StepResult) → call ≡ Some d → d.went ≡ Waits → ⊥)

waits_of : (waits : Bool) (s : Session) (m : Contents) (d : StepResult) → IsWait waits s m d → IsWaitOf waits s m (Some d)
waits_of waits s m d h =
    (λ e. ap Some (h.changes_nothing e), λ e x is w. (let same : d ≡ x = cc in h.elsewhere e (ap (λ (y : StepResult). y.went) same ∙ w)))

waits_in_call : (mode : Mode) (waits : Bool) (system : Disk) (s : Session) (m : Contents) → s.mode ≡ mode → IsWait waits s m (in_mode mode system s m) → IsWaitOf waits s m (Some (bdos system s m))
waits_in_call mode waits system s m is h =
    waits_of waits s m (bdos system s m) (subst (λ (n : Mode). IsWait waits s m (in_mode n system s m)) (sym is) h)

waits_in_program : (system : Disk) (s : Session) (m : Contents) → s.mode ≡ Program → IsWaitOf (needs_key Program s m && not (is_some (first_key s))) s m (call_in Program system s m)
waits_in_program system s m is = by_bdos (s.regs.pc == 60422) refl
  where
    by_range : (b : Bool) → (nat_le 64256 s.regs.pc && nat_le s.regs.pc 64272) ≡ b → IsWaitOf ((s.regs.pc == 64259) && not (is_some (first_key s))) s m (if b then Some (bios (s.regs.pc - 64256) system s m) else None)
    by_range true e =
        let same : (s.regs.pc - 64256 == 3) ≡ (s.regs.pc == 64259) = grind (arith, nat_tests) in
        waits_of _ s m (bios (s.regs.pc - 64256) system s m) (subst (λ b. IsWait (b && not (is_some (first_key s))) s m (bios (s.regs.pc - 64256) system s m)) same (bios_waits (s.regs.pc - 64256) system s m))
    by_range false e =
        let far : (s.regs.pc == 64259) ≡ false = grind (arith, nat_tests) in
        rw far (λ w. absurd cc, λ w d is. absurd cc)

    by_bdos : (b : Bool) → (s.regs.pc == 60422) ≡ b → IsWaitOf ((if b then function_needs_key (function_of s.regs.c) s m else s.regs.pc == 64259) && not (is_some (first_key s))) s m (if b then Some (bdos system s m) else if nat_le 64256 s.regs.pc && nat_le s.regs.pc 64272 then Some (bios (s.regs.pc - 64256) system s m) else None)
    by_bdos true e = waits_in_call Program _ system s m is (called_waits (function_of s.regs.c) system s m)
    by_bdos false e = by_range (nat_le 64256 s.regs.pc && nat_le s.regs.pc 64272) refl

-- nothing is said of a part of the command processor
abbrev IsWaitIn : Mode → Bool → Session → Contents → Option StepResult → Type 0
IsWaitIn mode waits s m call =
    (waits ≡ true → is_command mode ≡ false → call ≡ Some (did s m Waits)) × (waits ≡ false → (d : StepResult) → call ≡ Some d → d.went ≡ Waits → ⊥)

wait_in : (mode : Mode) (waits : Bool) (s : Session) (m : Contents) (call : Option StepResult) → IsWaitOf waits s m call → IsWaitIn mode waits s m call
wait_in mode waits s m call h = (λ e _. h.0 e, h.1)

waits_in : (mode : Mode) (system : Disk) (s : Session) (m : Contents) → s.mode ≡ mode → IsWaitIn mode (needs_key mode s m && not (is_some (first_key s))) s m (call_in mode system s m)
waits_in Program system s m is = wait_in Program _ s m _ (waits_in_program system s m is)
waits_in (Text address) system s m is =
    wait_in (Text address) _ s m _ (waits_in_call (Text address) false system s m is (goes s m _ (goes_write_text (held.Text address) s m address)))
waits_in Line system s m is = wait_in Line _ s m _ (waits_in_call Line _ system s m is (line_step_waits after_key goes_after_key s.line s m))
waits_in (Hold h) system s m is = wait_in (Hold h) _ s m _ (waits_in_call (Hold h) _ system s m is (release_waits h (first_key s) s m))
waits_in Fault system s m is = wait_in Fault _ s m _ (waits_in_call Fault _ system s m is (after_fault_waits (first_key s) s m))
waits_in (Command part) system s m is = (λ e never. absurd cc, λ e d call. absurd cc)

-- a step waits exactly where it needs a key and finds none
pub IsWaiting-now : (s : Session) (m : Contents) → IsWaiting (is_waiting s m) s m
IsWaiting-now s m = record {
  changes_nothing = λ e call system. (waits_in s.mode system s m refl).0 e call;
  elsewhere = λ e system. (waits_in s.mode system s m refl).1 e;
}
