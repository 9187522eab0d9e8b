-- A step of the command processor takes the first key at most.
use Rattle.std.proofs.Common.{◌≡◌, ℕ, Bool, true, false, ◌&&◌, not, List, [], ◌∷◌, ◌++◌, refl, ◌∙◌, Result, Ok, Err}
use Rattle.std.specs.Prelude.{if◌then◌else◌, ◌==◌, nat_lt}
use Rattle.cpm_geom.specs.Disk.{Disk}
use Rattle.cpm_console.specs.Terminal.{Terminal, said, expanded}
use Rattle.cpm_console.specs.declared.line.LineState.TheVariants as line
use Rattle.cpm_memory.specs.Contents.{Contents, byte_at, run_at}
use Rattle.cpm_volume.specs.declared.fcb.Fcb.{Fcb}
use Rattle.cpm_volume.specs.declared.answer.Fault.{Fault as Failure}
use Rattle.cpm_volume.specs.declared.answer.Fault.TheVariants as failure
use Rattle.cpm_volume.specs.Files.{entry_at}
use Rattle.cpm_drives.specs.Disks.{is_there}
use Rattle.cpm_drives.specs.Selecting.{drive_in_use}
use Rattle.cpm_drives.specs.Calls.{drive_named}
use Rattle.cpm_drives.specs.Files.{open_file, close_file, make_file, erase_files, rename_files, read_next, write_next, next_ahead}
use Rattle.cpm_bdos.specs.StepResult.{StepResult}
use Rattle.cpm_bdos.specs.KeysTaken.{IsFromFront}
use Rattle.cpm_bdos.specs.declared.session.Session.{Session}
use Rattle.cpm_bdos.specs.declared.session.CommandPart.{CommandPart}
use Rattle.cpm_bdos.specs.declared.session.CommandPart.TheVariants as part
use Rattle.cpm_bdos.specs.declared.session.Mode.{Mode}
use Rattle.cpm_bdos.specs.declared.session.Mode.TheVariants.{Program, Text, Line, Hold, Fault, Command}
use Rattle.cpm_bdos.proofs.KeyLaws.{none_taken, first_taken, ReaderTakes, takes_fault, keys-said, takes_line_step}
use Rattle.cpm_ccp.specs.declared.message.Message.{Message}
use Rattle.cpm_ccp.specs.declared.message.Message.TheVariants as message
use Rattle.cpm_ccp.specs.declared.command.Command.{Command as Typed}
use Rattle.cpm_ccp.specs.declared.command.Command.TheVariants as typed
use Rattle.cpm_ccp.specs.Command.{command_of}
use Rattle.cpm_ccp.specs.Message.{message_text}
use Rattle.cpm_ccp.specs.Words.{first_word}
use Rattle.cpm_ccp.specs.Parts.{says, message_told, is_stopped, typed_line, on_file, own_record, record_read, command_drive, with_call_disks, with_call}
use Rattle.cpm_ccp.specs.Prompt.{prompted, prompt_after_key, drive_selected}
use Rattle.cpm_ccp.specs.Listing.{file_text, entries_listed, next_listed, has_next, file_shown, listing_ended, drive_used, list_next, shows_file, listed_on}
use Rattle.cpm_ccp.specs.FileCommands.{by_code, erased, all_files_asked, is_yes, erased_all, has_new_name, renamed, after_save_make, file_made, after_erase, save_begun, after_save_write, saved, after_save_close, file_closed}
use Rattle.cpm_ccp.specs.Showing.{after_type_open, show_begun, record_text, ends_in, wrote_all, record_shown, after_type_read, next_shown, shows_record, shown_on}
use Rattle.cpm_ccp.specs.Loading.{unknown, load_begun, load_record}
use Rattle.cpm_ccp.specs.Loading as loading
use Rattle.cpm_ccp.specs.Step.{looks_first, begun_by, begun_command, in_part, command_in_mode, ccp}

-- from one session to another, and in a step
abbrev Takes : Session → Session → Type 0
Takes s t = IsFromFront s.console.keys t.console.keys

takes_if : (b : Bool) (s x y : Session) → Takes s x → Takes s y → Takes s (if b then x else y)
takes_if true s x y hx hy = hx
takes_if false s x y hx hy = hy

abbrev StepTakes : Session → StepResult → Type 0
StepTakes s d = Takes s d.session

step_if : (b : Bool) (s : Session) (x y : StepResult) → StepTakes s x → StepTakes s y → StepTakes s (if b then x else y)
step_if true s x y hx hy = hx
step_if false s x y hx hy = hy

-- ---- texts and ends

takes_none : (s : Session) → Takes s s
takes_none s = none_taken s.console.keys

takes_says : (s : Session) (text : List ℕ) → Takes s (says s text)
unfolding said
takes_says s text = takes_none s

takes_told : (s : Session) (words : Message) → Takes s (message_told s words)
unfolding said
takes_told s words = takes_none s

-- ---- the prompt and lines

takes_prompted : (system : Disk) (byte : ℕ) (s : Session) → Takes s (prompted system byte s)
unfolding prompted said
takes_prompted system byte s = takes_none s

takes_after_key : (next : CommandPart) → ReaderTakes (prompt_after_key next)
takes_after_key next line.GoesOn s m e taken = taken
takes_after_key next line.Ended s m e taken = taken
takes_after_key next line.Interrupted s m e taken = taken

step_drive_selected : (drive : ℕ) (s : Session) (m : Contents) → StepTakes s (drive_selected drive s m)
step_drive_selected drive s m =
    step_if (is_there s.disks drive) s _ _ (takes_none s) (takes_fault s failure.Select drive)

-- ---- DIR

takes_file_shown : (index column : ℕ) (name : List ℕ) (s : Session) → Takes s (file_shown index column name s)
takes_file_shown index column name s =
    takes_says s (file_text column (command_drive s) name)

takes_listing_ended : (is_first : Bool) (s : Session) → Takes s (listing_ended is_first s)
takes_listing_ended is_first s = takes_if is_first s _ _ (takes_told s message.NoFile) (takes_none s)

takes_listed : (system : Disk) (from column : ℕ) (is_first : Bool) (s : Session) → Takes s (list_next system from column is_first s)
unfolding list_next
takes_listed system from column is_first s =
    takes_if (not (is_there s.disks (command_drive s))) s _ _ (takes_fault s failure.Select (command_drive s))
    (takes_if (has_next system from s) s _ _ (takes_file_shown (next_listed system from s) column (entry_at (entries_listed system s) (next_listed system from s)).extent.name (drive_used system s)) (takes_listing_ended is_first (drive_used system s)))

takes_listed_on : (system : Disk) (from column : ℕ) (s : Session) → Takes s (listed_on system from column s)
unfolding listed_on
takes_listed_on system from column s =
    takes_if (is_stopped s && shows_file system from s) s _ _ (first_taken s.console.keys) (takes_listed system from column false s)

-- ---- ERA, REN, SAVE

takes_by_code : (a : Result ℕ Failure) (drive : ℕ) (s : Session) → Takes s (by_code a drive s)
takes_by_code (Err which) drive s = takes_fault s which drive
takes_by_code (Ok code) drive s =
    takes_if (code == 255) s _ _ (takes_told s message.NoFile) (takes_none s)

takes_erased : (system : Disk) (file : Fcb) (s : Session) → Takes s (erased system file s)
unfolding erased
takes_erased system file s =
    let c = erase_files s.disks system file own_record in
    takes_by_code c.answer (drive_named s.disks file.drive) (with_call_disks s c.disks)

takes_asked : (file : Fcb) (s : Session) → Takes s (all_files_asked file s)
takes_asked file s =
    takes_says (on_file s file) (13 ∷ 10 ∷ message_text message.EraseAll)

takes_erased_all : (system : Disk) (s : Session) → Takes s (erased_all system s)
unfolding erased_all
takes_erased_all system s =
    takes_if (is_yes s.line.characters) s _ _ (takes_erased system s.file s) (takes_none s)

takes_renamed : (system : Disk) (old new : Fcb) (s : Session) → Takes s (renamed system old new s)
unfolding renamed
takes_renamed system old new s =
    let c = rename_files new.extent.name s.disks system old own_record in
    takes_if (has_new_name system s.disks new) s _ _ (takes_told (with_call_disks s (drive_in_use s.disks system (drive_named s.disks new.drive))) message.FileExists) (takes_by_code c.answer (drive_named s.disks old.drive) (with_call_disks s c.disks))

takes_after_make : (a : Result ℕ Failure) (pages : ℕ) (s : Session) → Takes s (after_save_make a pages s)
takes_after_make (Err which) pages s = takes_fault s which (command_drive s)
takes_after_make (Ok code) pages s =
    takes_if (code == 255) s _ _ (takes_told s message.NoSpace) (takes_none s)

takes_made : (system : Disk) (pages : ℕ) (s : Session) → Takes s (file_made system pages s)
unfolding file_made
takes_made system pages s =
    let c = make_file s.disks system s.file own_record in takes_after_make c.answer pages (with_call s c)

takes_after_erase : (a : Result ℕ Failure) (system : Disk) (pages : ℕ) (s : Session) → Takes s (after_erase a system pages s)
takes_after_erase (Err which) system pages s = takes_fault s which (command_drive s)
takes_after_erase (Ok code) system pages s = takes_made system pages s

takes_save_begun : (system : Disk) (pages : ℕ) (file : Fcb) (s : Session) → Takes s (save_begun system pages file s)
unfolding save_begun
takes_save_begun system pages file s =
    let c = erase_files s.disks system file own_record in
    takes_after_erase c.answer system pages (with_call_disks (on_file s file) c.disks)

takes_after_write : (a : Result ℕ Failure) (next left : ℕ) (s : Session) → Takes s (after_save_write a next left s)
takes_after_write (Err which) next left s = takes_fault s which (command_drive s)
takes_after_write (Ok code) next left s =
    takes_if (code == 0) s _ _ (takes_none s) (takes_told s message.NoSpace)

takes_saved : (system : Disk) (next left : ℕ) (bytes : List ℕ) (s : Session) → Takes s (saved system next left bytes s)
unfolding saved
takes_saved system next left bytes s =
    let c = write_next s.disks system s.file bytes in
    takes_after_write c.answer next left (with_call s c)

takes_after_close : (a : Result ℕ Failure) (s : Session) → Takes s (after_save_close a s)
takes_after_close (Err which) s = takes_fault s which (command_drive s)
takes_after_close (Ok code) s = takes_none s

takes_closed : (system : Disk) (s : Session) → Takes s (file_closed system s)
unfolding file_closed
takes_closed system s =
    let c = close_file s.disks system s.file own_record in takes_after_close c.answer (with_call s c)

-- ---- TYPE

takes_after_open : (a : Result ℕ Failure) (s : Session) → Takes s (after_type_open a s)
takes_after_open (Err which) s = takes_fault s which (command_drive s)
takes_after_open (Ok code) s =
    takes_if (code == 255) s _ _ (takes_told s message.NoFile) (takes_says s (13 ∷ 10 ∷ []))

takes_show_begun : (system : Disk) (file : Fcb) (s : Session) → Takes s (show_begun system file s)
unfolding show_begun
takes_show_begun system file s =
    let c = open_file s.disks system file own_record in takes_after_open c.answer (with_call s c)

keys-wrote_all : (t : Terminal) (text : List ℕ) → (wrote_all t text).keys ≡ t.keys
unfolding wrote_all
keys-wrote_all t [] = refl
keys-wrote_all t (c ∷ cs) = keys-wrote_all (said t (expanded t.column c)) cs ∙ keys-said t (expanded t.column c)

takes_record_shown : (bytes : List ℕ) (s : Session) → Takes s (record_shown bytes s)
takes_record_shown bytes s =
    let shows : IsFromFront s.console.keys (wrote_all s.console (record_text bytes)).keys = rw (keys-wrote_all s.console (record_text bytes)) (takes_none s) in
    takes_if (ends_in bytes) s _ _ shows shows

takes_after_read : (a : Result ℕ Failure) (bytes : List ℕ) (s : Session) → Takes s (after_type_read a bytes s)
takes_after_read (Err which) bytes s = takes_fault s which (command_drive s)
takes_after_read (Ok code) bytes s =
    takes_if (code == 0) s _ _ (takes_record_shown bytes s) (takes_none s)

takes_next_shown : (system : Disk) (s : Session) → Takes s (next_shown system s)
unfolding next_shown
takes_next_shown system s =
    let c = read_next s.disks system s.file own_record in
    takes_after_read c.answer (record_read c) (with_call s c)

takes_shown_on : (system : Disk) (s : Session) → Takes s (shown_on system s)
unfolding shown_on
takes_shown_on system s =
    takes_if (is_stopped s && shows_record (next_ahead s.disks system s.file)) s _ _ (first_taken s.console.keys) (takes_next_shown system s)

-- ---- the loader

takes_unknown : (s : Session) → Takes s (unknown s)
takes_unknown s = takes_says s (13 ∷ 10 ∷ (first_word (typed_line s) ++ (63 ∷ [])))

takes_opened : (a : Result ℕ Failure) (s : Session) → Takes s (loading.after_load_open a s)
takes_opened (Err which) s = takes_fault s which (command_drive s)
takes_opened (Ok code) s = takes_if (code == 255) s _ _ (takes_unknown s) (takes_none s)

takes_load_begun : (system : Disk) (file : Fcb) (s : Session) → Takes s (load_begun system file s)
unfolding load_begun
takes_load_begun system file s =
    let c = open_file s.disks system file own_record in takes_opened c.answer (with_call s c)

step_read : (a : Result ℕ Failure) (next : ℕ) (bytes : List ℕ) (s : Session) (m : Contents) → StepTakes s (loading.after_load_read a next bytes s m)
step_read (Err which) next bytes s m = takes_fault s which (command_drive s)
step_read (Ok code) next bytes s m =
    step_if (code == 0) s _ _ (step_if (nat_lt 58240 next) s _ _ (takes_told s message.BadLoad) (takes_none s)) (takes_none s)

step_load_record : (system : Disk) (next : ℕ) (s : Session) (m : Contents) → StepTakes s (load_record system next s m)
unfolding load_record
step_load_record system next s m =
    let c = read_next s.disks system s.file own_record in step_read c.answer next (record_read c) (with_call s c) m

-- ---- steps

step_begun_by : (command : Typed) (system : Disk) (s : Session) (m : Contents) → StepTakes s (begun_by command system s m)
step_begun_by typed.Nothing system s m = takes_none s
step_begun_by (typed.SelectDrive drive) system s m = step_drive_selected drive s m
step_begun_by (typed.Directory file) system s m = takes_listed system 0 0 true (on_file s file)
step_begun_by (typed.Erase file) system s m = takes_erased system file s
step_begun_by (typed.EraseAll file) system s m = takes_asked file s
step_begun_by (typed.Rename old new) system s m = takes_renamed system old new s
step_begun_by typed.RenameForm system s m = takes_told s message.RenameForm
step_begun_by (typed.Save pages file) system s m = takes_save_begun system pages file s
step_begun_by typed.SaveForm system s m = takes_told s message.SaveForm
step_begun_by (typed.TypeFile file) system s m = takes_show_begun system file s
step_begun_by typed.TypeForm system s m = takes_told s message.TypeForm
step_begun_by (typed.User user) system s m = takes_none s
step_begun_by typed.UserForm system s m = takes_told s message.UserForm
step_begun_by (typed.Program file) system s m = takes_load_begun system file s
step_begun_by typed.Unknown system s m = takes_unknown s

step_begun : (command : Typed) (system : Disk) (s : Session) (m : Contents) → StepTakes s (begun_command command system s m)
step_begun command system s m =
    step_if (is_stopped s && looks_first command) s _ _ (first_taken s.console.keys) (step_begun_by command system s m)

step_in_part : (p : CommandPart) (system : Disk) (s : Session) (m : Contents) → StepTakes s (in_part p system s m)
step_in_part part.Line system s m = takes_line_step (prompt_after_key part.Begin) (takes_after_key part.Begin) s.line s m
step_in_part part.Begin system s m = step_begun (command_of s.disks.current (typed_line s)) system s m
step_in_part (part.Directory next column) system s m = takes_listed_on system next column s
step_in_part part.Answer system s m = takes_line_step (prompt_after_key part.EraseAll) (takes_after_key part.EraseAll) s.line s m
step_in_part part.EraseAll system s m = takes_erased_all system s
step_in_part (part.Save next left) system s m = takes_saved system next left (run_at m next 128) s
step_in_part part.Close system s m = takes_closed system s
step_in_part part.Show system s m = takes_shown_on system s
step_in_part (part.Load next) system s m = step_load_record system next s m

step_in_mode : (mode : Mode) (system : Disk) (s : Session) (m : Contents) → StepTakes s (command_in_mode mode system s m)
step_in_mode Program system s m = takes_prompted system (byte_at m 4) s
step_in_mode (Text next) system s m = takes_none s
step_in_mode Line system s m = takes_none s
step_in_mode (Hold held) system s m = takes_none s
step_in_mode Fault system s m = takes_none s
step_in_mode (Command p) system s m = step_in_part p system s m

-- a step of the command processor
pub keys-ccp : (system : Disk) (s : Session) (m : Contents) → IsFromFront s.console.keys (ccp system s m).session.console.keys
keys-ccp system s m = step_in_mode s.mode system s m
