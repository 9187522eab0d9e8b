-- No step of the command processor changes how many pages may be written.
use Rattle.std.proofs.Common.{◌≡◌, ℕ, Bool, true, false, ◌&&◌, refl, List, Result, Ok, Err}
use Rattle.std.specs.Prelude.{if◌then◌else◌, ◌==◌, nat_lt}
use Rattle.cpm_geom.specs.Disk.{Disk}
use Rattle.cpm_console.specs.declared.line.LineState.TheVariants as line
use Rattle.cpm_memory.specs.Contents.{Contents, byte_at}
use Rattle.cpm_memory.specs.Room.{limit-after_change}
use Rattle.cpm_memory.proofs.Runs.{limit-run}
use Rattle.cpm_volume.specs.declared.answer.Fault.{Fault as Failure}
use Rattle.cpm_drives.specs.Disks.{is_there}
use Rattle.cpm_drives.specs.Files.{read_next}
use Rattle.cpm_bdos.specs.StepResult.{StepResult}
use Rattle.cpm_bdos.specs.declared.session.Session.{Session}
use Rattle.cpm_bdos.specs.declared.session.CommandPart.{CommandPart}
use Rattle.cpm_bdos.specs.declared.session.CommandPart.TheVariants as part
use Rattle.cpm_bdos.specs.declared.session.Mode.{Mode}
use Rattle.cpm_bdos.specs.declared.session.Mode.TheVariants.{Program, Text, Line, Hold, Fault, Command}
use Rattle.cpm_bdos.proofs.Limits.{ReaderKeepsLimit, limit-rebooted, limit_line_step}
use Rattle.cpm_ccp.specs.declared.command.Command.{Command as Typed}
use Rattle.cpm_ccp.specs.declared.command.Command.TheVariants as typed
use Rattle.cpm_ccp.specs.Command.{command_of}
use Rattle.cpm_ccp.specs.Words.{tail_of}
use Rattle.cpm_ccp.specs.Parts.{is_stopped, typed_line, own_record, record_read, with_call}
use Rattle.cpm_ccp.specs.Prompt.{with_drive_and_user, with_user, prompt_after_key, drive_selected}
use Rattle.cpm_ccp.specs.Loading.{after_load_read, load_record}
use Rattle.cpm_ccp.specs.Step.{looks_first, begun_by, begun_command, in_part, command_in_mode}
use Rattle.cpm_ccp.specs.Laws.{LimitLaw}
use Rattle.cpm_ccp.proofs.StartLemmas.{limit_started}

abbrev KeepsLimit : Contents → StepResult → Type 0
KeepsLimit m d = d.memory.limit ≡ m.limit

limit_if : (b : Bool) (m : Contents) (x y : StepResult) → KeepsLimit m x → KeepsLimit m y → KeepsLimit m (if b then x else y)
limit_if true m x y hx hy = hx
limit_if false m x y hx hy = hy

limit_after_key : (next : CommandPart) → ReaderKeepsLimit (prompt_after_key next)
limit_after_key next line.GoesOn s m = refl
limit_after_key next line.Ended s m = refl
limit_after_key next line.Interrupted s m = limit-rebooted s m

limit_drive_selected : (drive : ℕ) (s : Session) (m : Contents) → KeepsLimit m (drive_selected drive s m)
limit_drive_selected drive s m =
    limit_if (is_there s.disks drive) m _ _ (limit-after_change m 4 (with_drive_and_user drive (byte_at m 4))) refl

limit_after_read : (a : Result ℕ Failure) (next : ℕ) (bytes : List ℕ) (s : Session) (m : Contents) → KeepsLimit m (after_load_read a next bytes s m)
limit_after_read (Err which) next bytes s m = refl
limit_after_read (Ok code) next bytes s m =
    limit_if (code == 0) m _ _ (limit_if (nat_lt 58240 next) m _ _ refl (limit-run m next bytes)) (limit_started (tail_of (typed_line s)) m)

limit_load_record : (system : Disk) (next : ℕ) (s : Session) (m : Contents) → KeepsLimit m (load_record system next s m)
unfolding load_record
limit_load_record system next s m =
    let c = read_next s.disks system s.file own_record in
    limit_after_read c.answer next (record_read c) (with_call s c) m

limit_begun_by : (command : Typed) (system : Disk) (s : Session) (m : Contents) → KeepsLimit m (begun_by command system s m)
limit_begun_by typed.Nothing system s m = refl
limit_begun_by (typed.SelectDrive drive) system s m = limit_drive_selected drive s m
limit_begun_by (typed.Directory file) system s m = refl
limit_begun_by (typed.Erase file) system s m = refl
limit_begun_by (typed.EraseAll file) system s m = refl
limit_begun_by (typed.Rename old new) system s m = refl
limit_begun_by typed.RenameForm system s m = refl
limit_begun_by (typed.Save pages file) system s m = refl
limit_begun_by typed.SaveForm system s m = refl
limit_begun_by (typed.TypeFile file) system s m = refl
limit_begun_by typed.TypeForm system s m = refl
limit_begun_by (typed.User user) system s m = limit-after_change m 4 (with_user user (byte_at m 4))
limit_begun_by typed.UserForm system s m = refl
limit_begun_by (typed.Program file) system s m = refl
limit_begun_by typed.Unknown system s m = refl

limit_begun : (command : Typed) (system : Disk) (s : Session) (m : Contents) → KeepsLimit m (begun_command command system s m)
limit_begun command system s m =
    limit_if (is_stopped s && looks_first command) m _ _ refl (limit_begun_by command system s m)

limit_in_part : (p : CommandPart) (system : Disk) (s : Session) (m : Contents) → KeepsLimit m (in_part p system s m)
limit_in_part part.Line system s m = limit_line_step (prompt_after_key part.Begin) (limit_after_key part.Begin) s.line s m
limit_in_part part.Begin system s m = limit_begun (command_of s.disks.current (typed_line s)) system s m
limit_in_part (part.Directory next column) system s m = refl
limit_in_part part.Answer system s m = limit_line_step (prompt_after_key part.EraseAll) (limit_after_key part.EraseAll) s.line s m
limit_in_part part.EraseAll system s m = refl
limit_in_part (part.Save next left) system s m = refl
limit_in_part part.Close system s m = refl
limit_in_part part.Show system s m = refl
limit_in_part (part.Load next) system s m = limit_load_record system next s m

limit_in_mode : (mode : Mode) (system : Disk) (s : Session) (m : Contents) → KeepsLimit m (command_in_mode mode system s m)
limit_in_mode Program system s m = refl
limit_in_mode (Text next) system s m = refl
limit_in_mode Line system s m = refl
limit_in_mode (Hold held) system s m = refl
limit_in_mode Fault system s m = refl
limit_in_mode (Command p) system s m = limit_in_part p system s m

pub limit-ccp : LimitLaw
limit-ccp system s m = limit_in_mode s.mode system s m
