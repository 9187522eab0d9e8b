-- Which steps of the command processor are never held.
use Rattle.std.proofs.Common.{◌≡◌, ℕ, Bool, true, false, ◌&&◌, not, refl, List, Result, Ok, Err, ◌⊎◌, inl, inr}
use Rattle.std.specs.Prelude.{if◌then◌else◌, ◌==◌, nat_lt}
use Rattle.cpm_geom.specs.Disk.{Disk}
use Rattle.cpm_console.specs.declared.line.LineState.TheVariants as line
use Rattle.cpm_memory.specs.Contents.{Contents, byte_at, run_at}
use Rattle.cpm_volume.specs.declared.fcb.Fcb.{Fcb}
use Rattle.cpm_volume.specs.declared.answer.Fault.{Fault as Failure}
use Rattle.cpm_drives.specs.Disks.{is_there}
use Rattle.cpm_drives.specs.Files.{open_file, close_file, make_file, erase_files, rename_files, read_next, write_next, next_ahead}
use Rattle.cpm_bdos.specs.StepResult.{StepResult}
use Rattle.cpm_bdos.specs.Laws.{is_hold}
use Rattle.cpm_bdos.specs.declared.session.Session.{Session}
use Rattle.cpm_bdos.specs.declared.session.CommandPart.{CommandPart}
use Rattle.cpm_bdos.specs.declared.session.CommandPart.TheVariants as part
use Rattle.cpm_bdos.specs.declared.session.Mode.{Mode}
use Rattle.cpm_bdos.specs.declared.session.Mode.TheVariants.{Program, Text, Line, Hold, Fault, Command}
use Rattle.cpm_bdos.proofs.HoldLaws.{ReaderIsFree, free_line_step}
use Rattle.cpm_ccp.specs.declared.command.Command.{Command as Typed}
use Rattle.cpm_ccp.specs.declared.command.Command.TheVariants as typed
use Rattle.cpm_ccp.specs.Parts.{is_stopped, command_drive, on_file, own_record, record_read, with_call}
use Rattle.cpm_ccp.specs.Prompt.{prompted, prompt_after_key, drive_selected}
use Rattle.cpm_ccp.specs.Listing.{has_next, list_next, shows_file, listed_on}
use Rattle.cpm_ccp.specs.FileCommands.{by_code, erased, is_yes, erased_all, has_new_name, renamed, after_save_make, file_made, after_erase, save_begun, after_save_write, saved, after_save_close, file_closed}
use Rattle.cpm_ccp.specs.Showing.{after_type_open, show_begun, ends_in, after_type_read, next_shown, shows_record, shown_on}
use Rattle.cpm_ccp.specs.Loading.{load_begun, load_record}
use Rattle.cpm_ccp.specs.Loading as loading
use Rattle.cpm_ccp.specs.Step.{looks_first, begun_by, in_part, command_in_mode}
use Rattle.cpm_ccp.specs.Laws.{looks_for_stop, looks_in, command_now}

-- a session, and a step, that is not held
abbrev Free : Session → Type 0
Free s = is_hold s.mode ≡ false

abbrev StepFree : StepResult → Type 0
StepFree d = is_hold d.session.mode ≡ false

free_if : (b : Bool) (x y : Session) → Free x → Free y → Free (if b then x else y)
free_if true x y hx hy = hx
free_if false x y hx hy = hy

step_if : (b : Bool) (x y : StepResult) → StepFree x → StepFree y → StepFree (if b then x else y)
step_if true x y hx hy = hx
step_if false x y hx hy = hy

-- ^S is not read next, or is not looked for
free_unless : (stop looks : Bool) (x y : Session) → (stop ≡ false) ⊎ (looks ≡ false) → Free y → Free (if stop && looks then x else y)
free_unless true looks x y (inl h) hy = absurd cc
free_unless true true x y (inr h) hy = absurd cc
free_unless true false x y (inr h) hy = hy
free_unless false looks x y h hy = hy

step_unless : (stop looks : Bool) (x y : StepResult) → (stop ≡ false) ⊎ (looks ≡ false) → StepFree y → StepFree (if stop && looks then x else y)
step_unless true looks x y (inl h) hy = absurd cc
step_unless true true x y (inr h) hy = absurd cc
step_unless true false x y (inr h) hy = hy
step_unless false looks x y h hy = hy

-- ---- lines and drives

free_prompted : (system : Disk) (byte : ℕ) (s : Session) → Free (prompted system byte s)
unfolding prompted
free_prompted system byte s = refl

step_after_key : (next : CommandPart) → ReaderIsFree (prompt_after_key next)
step_after_key next line.GoesOn s m now = now
step_after_key next line.Ended s m now = refl
step_after_key next line.Interrupted s m now = refl

step_drive_selected : (drive : ℕ) (s : Session) (m : Contents) → StepFree (drive_selected drive s m)
step_drive_selected drive s m = step_if (is_there s.disks drive) _ _ refl refl

-- ---- commands

free_listed : (system : Disk) (from column : ℕ) (is_first : Bool) (s : Session) → Free (list_next system from column is_first s)
unfolding list_next
free_listed system from column is_first s =
    free_if (not (is_there s.disks (command_drive s))) _ _ refl (free_if (has_next system from s) _ _ refl (free_if is_first _ _ refl refl))

free_by_code : (a : Result ℕ Failure) (drive : ℕ) (s : Session) → Free (by_code a drive s)
free_by_code (Err which) drive s = refl
free_by_code (Ok code) drive s = free_if (code == 255) _ _ refl refl

free_erased : (system : Disk) (file : Fcb) (s : Session) → Free (erased system file s)
unfolding erased
free_erased system file s = free_by_code (erase_files s.disks system file own_record).answer _ _

free_erased_all : (system : Disk) (s : Session) → Free (erased_all system s)
unfolding erased_all
free_erased_all system s =
    free_if (is_yes s.line.characters) _ _ (free_erased system s.file s) refl

free_renamed : (system : Disk) (old new : Fcb) (s : Session) → Free (renamed system old new s)
unfolding renamed
free_renamed system old new s =
    free_if (has_new_name system s.disks new) _ _ refl (free_by_code (rename_files new.extent.name s.disks system old own_record).answer _ _)

free_after_make : (a : Result ℕ Failure) (pages : ℕ) (s : Session) → Free (after_save_make a pages s)
free_after_make (Err which) pages s = refl
free_after_make (Ok code) pages s = free_if (code == 255) _ _ refl refl

free_made : (system : Disk) (pages : ℕ) (s : Session) → Free (file_made system pages s)
unfolding file_made
free_made system pages s = free_after_make (make_file s.disks system s.file own_record).answer pages _

free_after_erase : (a : Result ℕ Failure) (system : Disk) (pages : ℕ) (s : Session) → Free (after_erase a system pages s)
free_after_erase (Err which) system pages s = refl
free_after_erase (Ok code) system pages s = free_made system pages s

free_save_begun : (system : Disk) (pages : ℕ) (file : Fcb) (s : Session) → Free (save_begun system pages file s)
unfolding save_begun
free_save_begun system pages file s =
    free_after_erase (erase_files s.disks system file own_record).answer system pages _

free_after_write : (a : Result ℕ Failure) (next left : ℕ) (s : Session) → Free (after_save_write a next left s)
free_after_write (Err which) next left s = refl
free_after_write (Ok code) next left s = free_if (code == 0) _ _ refl refl

free_saved : (system : Disk) (next left : ℕ) (bytes : List ℕ) (s : Session) → Free (saved system next left bytes s)
unfolding saved
free_saved system next left bytes s =
    free_after_write (write_next s.disks system s.file bytes).answer next left _

free_after_close : (a : Result ℕ Failure) (s : Session) → Free (after_save_close a s)
free_after_close (Err which) s = refl
free_after_close (Ok code) s = refl

free_closed : (system : Disk) (s : Session) → Free (file_closed system s)
unfolding file_closed
free_closed system s = free_after_close (close_file s.disks system s.file own_record).answer _

free_after_open : (a : Result ℕ Failure) (s : Session) → Free (after_type_open a s)
free_after_open (Err which) s = refl
free_after_open (Ok code) s = free_if (code == 255) _ _ refl refl

free_show_begun : (system : Disk) (file : Fcb) (s : Session) → Free (show_begun system file s)
unfolding show_begun
free_show_begun system file s = free_after_open (open_file s.disks system file own_record).answer _

free_after_read : (a : Result ℕ Failure) (bytes : List ℕ) (s : Session) → Free (after_type_read a bytes s)
free_after_read (Err which) bytes s = refl
free_after_read (Ok code) bytes s = free_if (code == 0) _ _ (free_if (ends_in bytes) _ _ refl refl) refl

free_next_shown : (system : Disk) (s : Session) → Free (next_shown system s)
unfolding next_shown
free_next_shown system s =
    let c = read_next s.disks system s.file own_record in
    free_after_read c.answer (record_read c) (with_call s c)

free_opened : (a : Result ℕ Failure) (s : Session) → Free (loading.after_load_open a s)
free_opened (Err which) s = refl
free_opened (Ok code) s = free_if (code == 255) _ _ refl refl

free_load_begun : (system : Disk) (file : Fcb) (s : Session) → Free (load_begun system file s)
unfolding load_begun
free_load_begun system file s = free_opened (open_file s.disks system file own_record).answer _

step_read : (a : Result ℕ Failure) (next : ℕ) (bytes : List ℕ) (s : Session) (m : Contents) → StepFree (loading.after_load_read a next bytes s m)
step_read (Err which) next bytes s m = refl
step_read (Ok code) next bytes s m = step_if (code == 0) _ _ (step_if (nat_lt 58240 next) _ _ refl refl) refl

step_load_record : (system : Disk) (next : ℕ) (s : Session) (m : Contents) → StepFree (load_record system next s m)
unfolding load_record
step_load_record system next s m =
    let c = read_next s.disks system s.file own_record in
    step_read c.answer next (record_read c) (with_call s c) m

free_listed_on : (system : Disk) (from column : ℕ) (s : Session) → is_stopped s ≡ false → Free (listed_on system from column s)
unfolding listed_on
free_listed_on system from column s h =
    free_unless (is_stopped s) (shows_file system from s) _ _ (inl h) (free_listed system from column false s)

free_shown_on : (system : Disk) (s : Session) → is_stopped s ≡ false → Free (shown_on system s)
unfolding shown_on
free_shown_on system s h =
    free_unless (is_stopped s) (shows_record (next_ahead s.disks system s.file)) _ _ (inl h) (free_next_shown system s)

-- ---- steps

step_begun_by : (command : Typed) (system : Disk) (s : Session) (m : Contents) → StepFree (begun_by command system s m)
step_begun_by typed.Nothing system s m = refl
step_begun_by (typed.SelectDrive drive) system s m = step_drive_selected drive s m
step_begun_by (typed.Directory file) system s m = free_listed system 0 0 true (on_file s file)
step_begun_by (typed.Erase file) system s m = free_erased system file s
step_begun_by (typed.EraseAll file) system s m = refl
step_begun_by (typed.Rename old new) system s m = free_renamed system old new s
step_begun_by typed.RenameForm system s m = refl
step_begun_by (typed.Save pages file) system s m = free_save_begun system pages file s
step_begun_by typed.SaveForm system s m = refl
step_begun_by (typed.TypeFile file) system s m = free_show_begun system file s
step_begun_by typed.TypeForm system s m = refl
step_begun_by (typed.User user) system s m = refl
step_begun_by typed.UserForm system s m = refl
step_begun_by (typed.Program file) system s m = free_load_begun system file s
step_begun_by typed.Unknown system s m = refl

module _ (system : Disk) (s : Session) (m : Contents) (now : Free s) where
  step_in_part : (p : CommandPart) → (is_stopped s ≡ false) ⊎ (looks_for_stop p (command_now s) ≡ false) → StepFree (in_part p system s m)
  step_in_part part.Line h = free_line_step (prompt_after_key part.Begin) (step_after_key part.Begin) s.line s m now
  step_in_part part.Begin h =
      step_unless (is_stopped s) (looks_first (command_now s)) _ _ h (step_begun_by (command_now s) system s m)
  step_in_part (part.Directory next column) (inl h) = free_listed_on system next column s h
  step_in_part (part.Directory next column) (inr h) = absurd cc
  step_in_part part.Answer h = free_line_step (prompt_after_key part.EraseAll) (step_after_key part.EraseAll) s.line s m now
  step_in_part part.EraseAll h = free_erased_all system s
  step_in_part (part.Save next left) h = free_saved system next left (run_at m next 128) s
  step_in_part part.Close h = free_closed system s
  step_in_part part.Show (inl h) = free_shown_on system s h
  step_in_part part.Show (inr h) = absurd cc
  step_in_part (part.Load next) h = step_load_record system next s m

  pub step_in_mode : (mode : Mode) → is_hold mode ≡ false → (is_stopped s ≡ false) ⊎ (looks_in mode (command_now s) ≡ false) → StepFree (command_in_mode mode system s m)
  step_in_mode Program is h = free_prompted system (byte_at m 4) s
  step_in_mode (Text next) is h = now
  step_in_mode Line is h = now
  step_in_mode (Hold held) is h = absurd cc
  step_in_mode Fault is h = now
  step_in_mode (Command p) is h = step_in_part p h
