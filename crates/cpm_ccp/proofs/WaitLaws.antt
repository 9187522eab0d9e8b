-- A step of the command processor waits exactly where it reads a line and finds no key.
use Rattle.std.proofs.Common.{◌≡◌, ℕ, Bool, true, false, ◌&&◌, not, List, Option, is_some, Result, Ok, Err}
use Rattle.std.specs.Prelude.{if◌then◌else◌, ◌==◌, nat_lt}
use Rattle.cpm_geom.specs.Disk.{Disk}
use Rattle.cpm_console.specs.declared.line.LineState.TheVariants as line
use Rattle.cpm_memory.specs.Contents.{Contents, byte_at, run_at}
use Rattle.cpm_volume.specs.declared.answer.Fault.{Fault as Failure}
use Rattle.cpm_drives.specs.Disks.{is_there}
use Rattle.cpm_drives.specs.Files.{read_next}
use Rattle.cpm_bdos.specs.StepResult.{StepResult, did}
use Rattle.cpm_bdos.specs.Keys.{first_key}
use Rattle.cpm_bdos.specs.ReadLine.{is_open}
use Rattle.cpm_bdos.specs.Waiting.{part_needs_key, needs_key, is_command}
use Rattle.cpm_bdos.specs.declared.session.Session.{Session}
use Rattle.cpm_bdos.specs.declared.session.CommandPart.{CommandPart}
use Rattle.cpm_bdos.specs.declared.session.CommandPart.TheVariants as part
use Rattle.cpm_bdos.specs.declared.session.Mode.{Mode}
use Rattle.cpm_bdos.specs.declared.session.Mode.TheVariants.{Program, Text, Line, Hold, Fault, Command}
use Rattle.cpm_bdos.specs.declared.session.Went.TheVariants.{Waits}
use Rattle.cpm_bdos.proofs.WaitLaws.{IsWait, ReaderGoes, line_step_waits}
use Rattle.cpm_ccp.specs.declared.command.Command.{Command as Typed}
use Rattle.cpm_ccp.specs.declared.command.Command.TheVariants as typed
use Rattle.cpm_ccp.specs.Command.{command_of}
use Rattle.cpm_ccp.specs.declared.message.Message.TheVariants as message
use Rattle.cpm_ccp.specs.Parts.{went_of, stepped, finished, message_told, is_stopped, held_at_part, typed_line, on_file, own_record, record_read, with_call}
use Rattle.cpm_ccp.specs.Listing.{list_next, listed_on}
use Rattle.cpm_ccp.specs.FileCommands.{erased, all_files_asked, erased_all, renamed, save_begun, saved, file_closed}
use Rattle.cpm_ccp.specs.Showing.{show_begun, shown_on}
use Rattle.cpm_ccp.specs.Prompt.{prompted, prompt_after_key, edit_command_line, drive_selected}
use Rattle.cpm_ccp.specs.Loading.{unknown, load_begun, after_load_read, load_record}
use Rattle.cpm_ccp.specs.Step.{looks_first, begun_by, begun_command, in_part, command_in_mode}
use Rattle.cpm_ccp.specs.Laws.{WaitsForKeys}

abbrev Goes : StepResult → Type 0
Goes d = d.went ≡ Waits → ⊥

goes_if : (b : Bool) (x y : StepResult) → Goes x → Goes y → Goes (if b then x else y)
goes_if true x y hx hy = hx
goes_if false x y hx hy = hy

-- ---- steps that never wait

went_goes : (mode : Mode) → went_of mode ≡ Waits → ⊥
went_goes Program e = cc
went_goes (Text next) e = cc
went_goes Line e = cc
went_goes (Hold held) e = cc
went_goes Fault e = cc
went_goes (Command part) e = cc

goes_stepped : (s : Session) (m : Contents) → Goes (stepped s m)
goes_stepped s m = went_goes s.mode

goes_after_key : (next : CommandPart) → ReaderGoes (prompt_after_key next)
goes_after_key next line.GoesOn s m = λ e. cc
goes_after_key next line.Ended s m = λ e. cc
goes_after_key next line.Interrupted s m = λ e. cc

goes_drive_selected : (drive : ℕ) (s : Session) (m : Contents) → Goes (drive_selected drive s m)
goes_drive_selected drive s m = goes_if (is_there s.disks drive) _ _ (λ e. cc) (λ e. cc)

goes_after_read : (a : Result ℕ Failure) (next : ℕ) (bytes : List ℕ) (s : Session) (m : Contents) → Goes (after_load_read a next bytes s m)
goes_after_read (Err which) next bytes s m = λ e. cc
goes_after_read (Ok code) next bytes s m =
    goes_if (code == 0) _ _ (goes_if (nat_lt 58240 next) _ _ (λ e. cc) (λ e. cc)) (λ e. cc)

goes_load_record : (system : Disk) (next : ℕ) (s : Session) (m : Contents) → Goes (load_record system next s m)
unfolding load_record
goes_load_record system next s m =
    let c = read_next s.disks system s.file own_record in
    goes_after_read c.answer next (record_read c) (with_call s c) m

goes_begun_by : (command : Typed) (system : Disk) (s : Session) (m : Contents) → Goes (begun_by command system s m)
goes_begun_by typed.Nothing system s m = goes_stepped (finished s) m
goes_begun_by (typed.SelectDrive drive) system s m = goes_drive_selected drive s m
goes_begun_by (typed.Directory file) system s m = goes_stepped (list_next system 0 0 true (on_file s file)) m
goes_begun_by (typed.Erase file) system s m = goes_stepped (erased system file s) m
goes_begun_by (typed.EraseAll file) system s m = goes_stepped (all_files_asked file s) m
goes_begun_by (typed.Rename old new) system s m = goes_stepped (renamed system old new s) m
goes_begun_by typed.RenameForm system s m = goes_stepped (message_told s message.RenameForm) m
goes_begun_by (typed.Save pages file) system s m = goes_stepped (save_begun system pages file s) m
goes_begun_by typed.SaveForm system s m = goes_stepped (message_told s message.SaveForm) m
goes_begun_by (typed.TypeFile file) system s m = goes_stepped (show_begun system file s) m
goes_begun_by typed.TypeForm system s m = goes_stepped (message_told s message.TypeForm) m
goes_begun_by (typed.User user) system s m = λ e. cc
goes_begun_by typed.UserForm system s m = goes_stepped (message_told s message.UserForm) m
goes_begun_by (typed.Program file) system s m = goes_stepped (load_begun system file s) m
goes_begun_by typed.Unknown system s m = goes_stepped (unknown s) m

goes_begun : (command : Typed) (system : Disk) (s : Session) (m : Contents) → Goes (begun_command command system s m)
goes_begun command system s m =
    goes_if (is_stopped s && looks_first command) _ _ (goes_stepped (held_at_part s part.Begin) m) (goes_begun_by command system s m)

-- ---- lines

edit_line_waits : (next : CommandPart) (s : Session) (m : Contents) → IsWait (is_open s.line && not (is_some (first_key s))) s m (edit_command_line next s m)
edit_line_waits next s m = line_step_waits (prompt_after_key next) (goes_after_key next) s.line s m

-- ---- parts

-- a part that reads no line needs no key
never : (k : Option ℕ) → (false && not (is_some k)) ≡ true → ⊥
never k h = cc

part_waits : (p : CommandPart) (system : Disk) (s : Session) (m : Contents) → (part_needs_key p s && not (is_some (first_key s))) ≡ true → in_part p system s m ≡ did s m Waits
part_waits part.Line system s m h = (edit_line_waits part.Begin s m).changes_nothing h
part_waits part.Begin system s m h = absurd (never (first_key s) h)
part_waits (part.Directory next column) system s m h = absurd (never (first_key s) h)
part_waits part.Answer system s m h = (edit_line_waits part.EraseAll s m).changes_nothing h
part_waits part.EraseAll system s m h = absurd (never (first_key s) h)
part_waits (part.Save next left) system s m h = absurd (never (first_key s) h)
part_waits part.Close system s m h = absurd (never (first_key s) h)
part_waits part.Show system s m h = absurd (never (first_key s) h)
part_waits (part.Load next) system s m h = absurd (never (first_key s) h)

part_goes : (p : CommandPart) (system : Disk) (s : Session) (m : Contents) → (part_needs_key p s && not (is_some (first_key s))) ≡ false → Goes (in_part p system s m)
part_goes part.Line system s m h = (edit_line_waits part.Begin s m).elsewhere h
part_goes part.Begin system s m h = goes_begun (command_of s.disks.current (typed_line s)) system s m
part_goes (part.Directory next column) system s m h = goes_stepped (listed_on system next column s) m
part_goes part.Answer system s m h = (edit_line_waits part.EraseAll s m).elsewhere h
part_goes part.EraseAll system s m h = goes_stepped (erased_all system s) m
part_goes (part.Save next left) system s m h = goes_stepped (saved system next left (run_at m next 128) s) m
part_goes part.Close system s m h = goes_stepped (file_closed system s) m
part_goes part.Show system s m h = goes_stepped (shown_on system s) m
part_goes (part.Load next) system s m h = goes_load_record system next s m

-- ---- modes

mode_waits : (mode : Mode) (system : Disk) (s : Session) (m : Contents) → is_command mode ≡ true → (needs_key mode s m && not (is_some (first_key s))) ≡ true → command_in_mode mode system s m ≡ did s m Waits
mode_waits Program system s m is h = absurd cc
mode_waits (Text next) system s m is h = absurd cc
mode_waits Line system s m is h = absurd cc
mode_waits (Hold held) system s m is h = absurd cc
mode_waits Fault system s m is h = absurd cc
mode_waits (Command p) system s m is h = part_waits p system s m h

mode_goes : (mode : Mode) (system : Disk) (s : Session) (m : Contents) → is_command mode ≡ true → (needs_key mode s m && not (is_some (first_key s))) ≡ false → Goes (command_in_mode mode system s m)
mode_goes Program system s m is h = absurd cc
mode_goes (Text next) system s m is h = absurd cc
mode_goes Line system s m is h = absurd cc
mode_goes (Hold held) system s m is h = absurd cc
mode_goes Fault system s m is h = absurd cc
mode_goes (Command p) system s m is h = part_goes p system s m h

prompt_goes : (mode : Mode) (system : Disk) (s : Session) (m : Contents) → mode ≡ Program → Goes (command_in_mode mode system s m)
prompt_goes mode system s m is = rw is (goes_stepped (prompted system (byte_at m 4) s) m)

pub WaitsForKeys-now : (system : Disk) (s : Session) (m : Contents) → WaitsForKeys system s m
WaitsForKeys-now system s m = record {
  changes_nothing = mode_waits s.mode system s m;
  elsewhere = mode_goes s.mode system s m;
  prompt = prompt_goes s.mode system s m;
}
