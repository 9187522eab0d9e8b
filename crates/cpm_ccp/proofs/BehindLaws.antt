-- A step of the command processor is the same whatever output waits to be taken.
use Rattle.std.proofs.Common.{◌≡◌, ℕ, Bool, true, false, ◌&&◌, not, refl, ap, ◌∙◌, List, [], ◌∷◌, ◌++◌, Result, Ok, Err}
use Rattle.std.specs.Prelude.{if◌then◌else◌, ◌==◌, nat_lt, ◌+◌, ◌%◌, length}
use Rattle.cpm_geom.specs.Disk.{Disk}
use Rattle.cpm_console.specs.Terminal.{Terminal, said, expanded}
use Rattle.cpm_console.specs.declared.line.LineState.TheVariants as line
use Rattle.cpm_memory.specs.Contents.{Contents, byte_at, run_at}
use Rattle.cpm_volume.specs.declared.fcb.Fcb.{Fcb}
use Rattle.cpm_volume.specs.declared.answer.Fault.{Fault as Failure}
use Rattle.cpm_volume.specs.declared.answer.Fault.TheVariants as failure
use Rattle.cpm_volume.specs.Files.{entry_at}
use Rattle.cpm_drives.specs.Disks.{is_there}
use Rattle.cpm_drives.specs.Selecting.{drive_in_use}
use Rattle.cpm_drives.specs.Calls.{drive_named}
use Rattle.cpm_drives.specs.Files.{open_file, close_file, make_file, erase_files, rename_files, read_next, write_next, next_ahead}
use Rattle.cpm_bdos.specs.Behind.{terminal_behind, session_behind, did_behind}
use Rattle.cpm_bdos.specs.StepResult.{StepResult, did}
use Rattle.cpm_bdos.specs.Faults.{in_fault, fault_text}
use Rattle.cpm_bdos.specs.declared.session.Session.{Session}
use Rattle.cpm_bdos.specs.declared.session.CommandPart.{CommandPart}
use Rattle.cpm_bdos.specs.declared.session.CommandPart.TheVariants as part
use Rattle.cpm_bdos.specs.declared.session.Mode.{Mode}
use Rattle.cpm_bdos.specs.declared.session.Mode.TheVariants.{Program, Text, Line, Hold, Fault, Command}
use Rattle.cpm_bdos.specs.declared.session.Went.TheVariants.{Returned}
use Rattle.cpm_bdos.proofs.ConsoleBehind.{said-behind, shown-behind}
use Rattle.cpm_bdos.proofs.Waiting.{ReadsBehind, faulted-behind, line_step-behind}
use Rattle.cpm_ccp.specs.declared.message.Message.{Message}
use Rattle.cpm_ccp.specs.declared.message.Message.TheVariants as message
use Rattle.cpm_ccp.specs.declared.command.Command.{Command as Typed}
use Rattle.cpm_ccp.specs.declared.command.Command.TheVariants as typed
use Rattle.cpm_ccp.specs.Message.{message_text}
use Rattle.cpm_ccp.specs.Command.{command_of}
use Rattle.cpm_ccp.specs.Parts.{at_part, finished, stepped, says, message_told, is_stopped, reads_line, typed_line, on_file, own_record, record_read, command_drive, with_call_disks, with_call}
use Rattle.cpm_ccp.specs.Prompt.{drive_asked, drives_chosen, prompt_text, prompted, prompt_after_key, drive_selected}
use Rattle.cpm_ccp.specs.Listing.{file_text, entries_listed, next_listed, has_next, file_shown, listing_ended, drive_used, list_next, shows_file, listed_on}
use Rattle.cpm_ccp.specs.FileCommands.{by_code, erased, all_files_asked, is_yes, erased_all, has_new_name, renamed, after_save_make, file_made, after_erase, save_begun, after_save_write, saved, after_save_close, file_closed}
use Rattle.cpm_ccp.specs.Showing.{after_type_open, show_begun, record_text, ends_in, wrote_all, record_shown, after_type_read, next_shown, shows_record, shown_on}
use Rattle.cpm_ccp.specs.Loading.{unknown, load_begun, record_loaded, load_record, load_in, load}
use Rattle.cpm_ccp.specs.Loading as loading
use Rattle.cpm_ccp.specs.Words.{first_word}
use Rattle.cpm_ccp.specs.Step.{looks_first, begun_by, begun_command, in_part, command_in_mode, ccp}

module _ (p q : List ℕ) where
  did-if : (b : Bool) (x y x' y' : StepResult) → x' ≡ did_behind p q x → y' ≡ did_behind p q y → (if b then x' else y') ≡ did_behind p q (if b then x else y)
  did-if true x y x' y' ex ey = ex
  did-if false x y x' y' ex ey = ey

  session-if : (b : Bool) (x y x' y' : Session) → x' ≡ session_behind p q x → y' ≡ session_behind p q y → (if b then x' else y') ≡ session_behind p q (if b then x else y)
  session-if true x y x' y' ex ey = ex
  session-if false x y x' y' ex ey = ey

  stepped-behind : (x y : Session) (m : Contents) → y ≡ session_behind p q x → stepped y m ≡ did_behind p q (stepped x m)
  stepped-behind x y m e = ap (λ (t : Session). stepped t m) e

  -- ---- texts and ends

  says-behind : (s : Session) (text : List ℕ) → says (session_behind p q s) text ≡ session_behind p q (says s text)
  says-behind s text = ap (λ (t : Terminal). record s { console = t }) (said-behind p q s.console text)

  told-behind : (s : Session) (words : Message) → message_told (session_behind p q s) words ≡ session_behind p q (message_told s words)
  told-behind s words = ap (λ (t : Session). finished t) (says-behind s (13 ∷ 10 ∷ message_text words))

  fault-behind : (s : Session) (which : Failure) (drive : ℕ) → in_fault (session_behind p q s) which drive ≡ session_behind p q (in_fault s which drive)
  fault-behind s which drive =
      ap (λ (t : Terminal). record s { console = t; mode = Fault }) (shown-behind p q s.console (fault_text which drive))

  -- ---- the prompt and lines

  prompted-behind : (system : Disk) (byte : ℕ) (s : Session) → prompted system byte (session_behind p q s) ≡ session_behind p q (prompted system byte s)
  unfolding prompted
  prompted-behind system byte s =
      ap (λ (t : Session). reads_line t part.Line) (says-behind (record s { disks = drives_chosen s.disks system byte; buffer = 128 }) (13 ∷ 10 ∷ prompt_text (drive_asked s.disks byte)))

  after_key-behind : (next : CommandPart) → ReadsBehind p q (prompt_after_key next)
  after_key-behind next line.GoesOn s m = refl
  after_key-behind next line.Ended s m = refl
  after_key-behind next line.Interrupted s m = refl

  drive_selected-behind : (drive : ℕ) (s : Session) (m : Contents) → drive_selected drive (session_behind p q s) m ≡ did_behind p q (drive_selected drive s m)
  drive_selected-behind drive s m =
      did-if (is_there s.disks drive) _ _ _ _ refl (faulted-behind p q failure.Select drive s m)

  -- ---- DIR

  file_shown-behind : (index column : ℕ) (name : List ℕ) (s : Session) → file_shown index column name (session_behind p q s) ≡ session_behind p q (file_shown index column name s)
  file_shown-behind index column name s =
      ap (λ (t : Session). at_part t (part.Directory (index + 1) ((column + 1) % 4))) (says-behind s (file_text column (command_drive s) name))

  listing_ended-behind : (is_first : Bool) (s : Session) → listing_ended is_first (session_behind p q s) ≡ session_behind p q (listing_ended is_first s)
  listing_ended-behind is_first s = session-if is_first _ _ _ _ (told-behind s message.NoFile) refl

  list_next-behind : (system : Disk) (from column : ℕ) (is_first : Bool) (s : Session) → list_next system from column is_first (session_behind p q s) ≡ session_behind p q (list_next system from column is_first s)
  unfolding list_next has_next next_listed
  list_next-behind system from column is_first s =
      session-if (not (is_there s.disks (command_drive s))) _ _ _ _ (fault-behind s failure.Select (command_drive s))
      (session-if (nat_lt (next_listed system from s) (length (entries_listed system s))) _ _ _ _ (file_shown-behind (next_listed system from s) column (entry_at (entries_listed system s) (next_listed system from s)).extent.name (drive_used system s)) (listing_ended-behind is_first (drive_used system s)))

  listed_on-behind : (system : Disk) (from column : ℕ) (s : Session) → listed_on system from column (session_behind p q s) ≡ session_behind p q (listed_on system from column s)
  unfolding listed_on shows_file has_next next_listed
  listed_on-behind system from column s =
      session-if (is_stopped s && shows_file system from s) _ _ _ _ refl (list_next-behind system from column false s)

  -- ---- ERA, REN, SAVE

  by_code-behind : (a : Result ℕ Failure) (drive : ℕ) (s : Session) → by_code a drive (session_behind p q s) ≡ session_behind p q (by_code a drive s)
  by_code-behind (Err which) drive s = fault-behind s which drive
  by_code-behind (Ok code) drive s = session-if (code == 255) _ _ _ _ (told-behind s message.NoFile) refl

  erased-behind : (system : Disk) (file : Fcb) (s : Session) → erased system file (session_behind p q s) ≡ session_behind p q (erased system file s)
  unfolding erased
  erased-behind system file s =
      let c = erase_files s.disks system file own_record in
      by_code-behind c.answer (drive_named s.disks file.drive) (with_call_disks s c.disks)

  asked-behind : (file : Fcb) (s : Session) → all_files_asked file (session_behind p q s) ≡ session_behind p q (all_files_asked file s)
  asked-behind file s =
      ap (λ (t : Session). reads_line t part.Answer) (says-behind (on_file s file) (13 ∷ 10 ∷ message_text message.EraseAll))

  erased_all-behind : (system : Disk) (s : Session) → erased_all system (session_behind p q s) ≡ session_behind p q (erased_all system s)
  unfolding erased_all
  erased_all-behind system s =
      session-if (is_yes s.line.characters) _ _ _ _ (erased-behind system s.file s) refl

  renamed-behind : (system : Disk) (old new : Fcb) (s : Session) → renamed system old new (session_behind p q s) ≡ session_behind p q (renamed system old new s)
  unfolding renamed
  renamed-behind system old new s =
      let c = rename_files new.extent.name s.disks system old own_record in
      session-if (has_new_name system s.disks new) _ _ _ _ (told-behind (with_call_disks s (drive_in_use s.disks system (drive_named s.disks new.drive))) message.FileExists) (by_code-behind c.answer (drive_named s.disks old.drive) (with_call_disks s c.disks))

  after_save_make-behind : (a : Result ℕ Failure) (pages : ℕ) (s : Session) → after_save_make a pages (session_behind p q s) ≡ session_behind p q (after_save_make a pages s)
  after_save_make-behind (Err which) pages s = fault-behind s which (command_drive s)
  after_save_make-behind (Ok code) pages s = session-if (code == 255) _ _ _ _ (told-behind s message.NoSpace) refl

  made-behind : (system : Disk) (pages : ℕ) (s : Session) → file_made system pages (session_behind p q s) ≡ session_behind p q (file_made system pages s)
  unfolding file_made
  made-behind system pages s =
      let c = make_file s.disks system s.file own_record in after_save_make-behind c.answer pages (with_call s c)

  after_erase-behind : (a : Result ℕ Failure) (system : Disk) (pages : ℕ) (s : Session) → after_erase a system pages (session_behind p q s) ≡ session_behind p q (after_erase a system pages s)
  after_erase-behind (Err which) system pages s = fault-behind s which (command_drive s)
  after_erase-behind (Ok code) system pages s = made-behind system pages s

  save_begun-behind : (system : Disk) (pages : ℕ) (file : Fcb) (s : Session) → save_begun system pages file (session_behind p q s) ≡ session_behind p q (save_begun system pages file s)
  unfolding save_begun
  save_begun-behind system pages file s =
      let c = erase_files s.disks system file own_record in
      after_erase-behind c.answer system pages (with_call_disks (on_file s file) c.disks)

  after_save_write-behind : (a : Result ℕ Failure) (next left : ℕ) (s : Session) → after_save_write a next left (session_behind p q s) ≡ session_behind p q (after_save_write a next left s)
  after_save_write-behind (Err which) next left s = fault-behind s which (command_drive s)
  after_save_write-behind (Ok code) next left s = session-if (code == 0) _ _ _ _ refl (told-behind s message.NoSpace)

  saved-behind : (system : Disk) (next left : ℕ) (bytes : List ℕ) (s : Session) → saved system next left bytes (session_behind p q s) ≡ session_behind p q (saved system next left bytes s)
  unfolding saved
  saved-behind system next left bytes s =
      let c = write_next s.disks system s.file bytes in after_save_write-behind c.answer next left (with_call s c)

  after_save_close-behind : (a : Result ℕ Failure) (s : Session) → after_save_close a (session_behind p q s) ≡ session_behind p q (after_save_close a s)
  after_save_close-behind (Err which) s = fault-behind s which (command_drive s)
  after_save_close-behind (Ok code) s = refl

  closed-behind : (system : Disk) (s : Session) → file_closed system (session_behind p q s) ≡ session_behind p q (file_closed system s)
  unfolding file_closed
  closed-behind system s =
      let c = close_file s.disks system s.file own_record in after_save_close-behind c.answer (with_call s c)

  -- ---- TYPE

  after_type_open-behind : (a : Result ℕ Failure) (s : Session) → after_type_open a (session_behind p q s) ≡ session_behind p q (after_type_open a s)
  after_type_open-behind (Err which) s = fault-behind s which (command_drive s)
  after_type_open-behind (Ok code) s =
      session-if (code == 255) _ _ _ _ (told-behind s message.NoFile) (ap (λ (t : Session). at_part t part.Show) (says-behind s (13 ∷ 10 ∷ [])))

  show_begun-behind : (system : Disk) (file : Fcb) (s : Session) → show_begun system file (session_behind p q s) ≡ session_behind p q (show_begun system file s)
  unfolding show_begun
  show_begun-behind system file s =
      let c = open_file s.disks system file own_record in after_type_open-behind c.answer (with_call s c)

  wrote_all-behind : (t : Terminal) (text : List ℕ) → wrote_all (terminal_behind p q t) text ≡ terminal_behind p q (wrote_all t text)
  unfolding wrote_all
  wrote_all-behind t [] = refl
  wrote_all-behind t (c ∷ cs) =
      ap (λ (u : Terminal). wrote_all u cs) (said-behind p q t (expanded t.column c)) ∙ wrote_all-behind (said t (expanded t.column c)) cs

  wrote-behind : (s : Session) (text : List ℕ) → record (session_behind p q s) { console = wrote_all (terminal_behind p q s.console) text } ≡ session_behind p q (record s { console = wrote_all s.console text })
  wrote-behind s text = ap (λ (t : Terminal). record s { console = t }) (wrote_all-behind s.console text)

  record_shown-behind : (bytes : List ℕ) (s : Session) → record_shown bytes (session_behind p q s) ≡ session_behind p q (record_shown bytes s)
  record_shown-behind bytes s =
      session-if (ends_in bytes) _ _ _ _ (ap (λ (t : Session). finished t) (wrote-behind s (record_text bytes))) (ap (λ (t : Session). at_part t part.Show) (wrote-behind s (record_text bytes)))

  after_type_read-behind : (a : Result ℕ Failure) (bytes : List ℕ) (s : Session) → after_type_read a bytes (session_behind p q s) ≡ session_behind p q (after_type_read a bytes s)
  after_type_read-behind (Err which) bytes s = fault-behind s which (command_drive s)
  after_type_read-behind (Ok code) bytes s = session-if (code == 0) _ _ _ _ (record_shown-behind bytes s) refl

  next_shown-behind : (system : Disk) (s : Session) → next_shown system (session_behind p q s) ≡ session_behind p q (next_shown system s)
  unfolding next_shown
  next_shown-behind system s =
      let c = read_next s.disks system s.file own_record in after_type_read-behind c.answer (record_read c) (with_call s c)

  shown_on-behind : (system : Disk) (s : Session) → shown_on system (session_behind p q s) ≡ session_behind p q (shown_on system s)
  unfolding shown_on
  shown_on-behind system s =
      session-if (is_stopped s && shows_record (next_ahead s.disks system s.file)) _ _ _ _ refl (next_shown-behind system s)

  -- ---- the loader

  unknown-behind : (s : Session) → unknown (session_behind p q s) ≡ session_behind p q (unknown s)
  unknown-behind s =
      ap (λ (t : Session). finished t) (says-behind s (13 ∷ 10 ∷ (first_word (typed_line s) ++ (63 ∷ []))))

  opened-behind : (a : Result ℕ Failure) (s : Session) → loading.after_load_open a (session_behind p q s) ≡ session_behind p q (loading.after_load_open a s)
  opened-behind (Err which) s = fault-behind s which (command_drive s)
  opened-behind (Ok code) s = session-if (code == 255) _ _ _ _ (unknown-behind s) refl

  load_begun-behind : (system : Disk) (file : Fcb) (s : Session) → load_begun system file (session_behind p q s) ≡ session_behind p q (load_begun system file s)
  unfolding load_begun
  load_begun-behind system file s =
      let c = open_file s.disks system file own_record in opened-behind c.answer (with_call s c)

  loaded-behind : (next : ℕ) (bytes : List ℕ) (s : Session) (m : Contents) → record_loaded next bytes (session_behind p q s) m ≡ did_behind p q (record_loaded next bytes s m)
  loaded-behind next bytes s m =
      did-if (nat_lt 58240 next) _ _ _ _ (ap (λ (t : Session). did t m Returned) (told-behind s message.BadLoad)) refl

  read-behind : (a : Result ℕ Failure) (next : ℕ) (bytes : List ℕ) (s : Session) (m : Contents) → loading.after_load_read a next bytes (session_behind p q s) m ≡ did_behind p q (loading.after_load_read a next bytes s m)
  read-behind (Err which) next bytes s m = faulted-behind p q which (command_drive s) s m
  read-behind (Ok code) next bytes s m = did-if (code == 0) _ _ _ _ (loaded-behind next bytes s m) refl

  load_record-behind : (system : Disk) (next : ℕ) (s : Session) (m : Contents) → load_record system next (session_behind p q s) m ≡ did_behind p q (load_record system next s m)
  unfolding load_record
  load_record-behind system next s m =
      let c = read_next s.disks system s.file own_record in
      read-behind c.answer next (record_read c) (with_call s c) m

  -- ---- steps

  begun_by-behind : (command : Typed) (system : Disk) (s : Session) (m : Contents) → begun_by command system (session_behind p q s) m ≡ did_behind p q (begun_by command system s m)
  begun_by-behind typed.Nothing system s m = refl
  begun_by-behind (typed.SelectDrive drive) system s m = drive_selected-behind drive s m
  begun_by-behind (typed.Directory file) system s m = stepped-behind _ _ m (list_next-behind system 0 0 true (on_file s file))
  begun_by-behind (typed.Erase file) system s m = stepped-behind _ _ m (erased-behind system file s)
  begun_by-behind (typed.EraseAll file) system s m = stepped-behind _ _ m (asked-behind file s)
  begun_by-behind (typed.Rename old new) system s m = stepped-behind _ _ m (renamed-behind system old new s)
  begun_by-behind typed.RenameForm system s m = stepped-behind _ _ m (told-behind s message.RenameForm)
  begun_by-behind (typed.Save pages file) system s m = stepped-behind _ _ m (save_begun-behind system pages file s)
  begun_by-behind typed.SaveForm system s m = stepped-behind _ _ m (told-behind s message.SaveForm)
  begun_by-behind (typed.TypeFile file) system s m = stepped-behind _ _ m (show_begun-behind system file s)
  begun_by-behind typed.TypeForm system s m = stepped-behind _ _ m (told-behind s message.TypeForm)
  begun_by-behind (typed.User user) system s m = refl
  begun_by-behind typed.UserForm system s m = stepped-behind _ _ m (told-behind s message.UserForm)
  begun_by-behind (typed.Program file) system s m = stepped-behind _ _ m (load_begun-behind system file s)
  begun_by-behind typed.Unknown system s m = stepped-behind _ _ m (unknown-behind s)

  begun-behind : (command : Typed) (system : Disk) (s : Session) (m : Contents) → begun_command command system (session_behind p q s) m ≡ did_behind p q (begun_command command system s m)
  begun-behind command system s m =
      did-if (is_stopped s && looks_first command) _ _ _ _ refl (begun_by-behind command system s m)

  in_part-behind : (c : CommandPart) (system : Disk) (s : Session) (m : Contents) → in_part c system (session_behind p q s) m ≡ did_behind p q (in_part c system s m)
  in_part-behind part.Line system s m = line_step-behind p q (prompt_after_key part.Begin) (after_key-behind part.Begin) s.line s m
  in_part-behind part.Begin system s m = begun-behind (command_of s.disks.current (typed_line s)) system s m
  in_part-behind (part.Directory next column) system s m = stepped-behind _ _ m (listed_on-behind system next column s)
  in_part-behind part.Answer system s m = line_step-behind p q (prompt_after_key part.EraseAll) (after_key-behind part.EraseAll) s.line s m
  in_part-behind part.EraseAll system s m = stepped-behind _ _ m (erased_all-behind system s)
  in_part-behind (part.Save next left) system s m = stepped-behind _ _ m (saved-behind system next left (run_at m next 128) s)
  in_part-behind part.Close system s m = stepped-behind _ _ m (closed-behind system s)
  in_part-behind part.Show system s m = stepped-behind _ _ m (shown_on-behind system s)
  in_part-behind (part.Load next) system s m = load_record-behind system next s m

  in_mode-behind : (mode : Mode) (system : Disk) (s : Session) (m : Contents) → command_in_mode mode system (session_behind p q s) m ≡ did_behind p q (command_in_mode mode system s m)
  in_mode-behind Program system s m = stepped-behind _ _ m (prompted-behind system (byte_at m 4) s)
  in_mode-behind (Text next) system s m = refl
  in_mode-behind Line system s m = refl
  in_mode-behind (Hold held) system s m = refl
  in_mode-behind Fault system s m = refl
  in_mode-behind (Command c) system s m = in_part-behind c system s m

  pub ccp-behind : (system : Disk) (s : Session) (m : Contents) → ccp system (session_behind p q s) m ≡ did_behind p q (ccp system s m)
  ccp-behind system s m = in_mode-behind s.mode system s m

  load_part-behind : (c : CommandPart) (system : Disk) (s : Session) (m : Contents) → load_in (Command c) system (session_behind p q s) m ≡ did_behind p q (load_in (Command c) system s m)
  load_part-behind part.Line system s m = refl
  load_part-behind part.Begin system s m = refl
  load_part-behind (part.Directory next column) system s m = refl
  load_part-behind part.Answer system s m = refl
  load_part-behind part.EraseAll system s m = refl
  load_part-behind (part.Save next left) system s m = refl
  load_part-behind part.Close system s m = refl
  load_part-behind part.Show system s m = refl
  load_part-behind (part.Load next) system s m = load_record-behind system next s m

  load_in-behind : (mode : Mode) (system : Disk) (s : Session) (m : Contents) → load_in mode system (session_behind p q s) m ≡ did_behind p q (load_in mode system s m)
  load_in-behind Program system s m = refl
  load_in-behind (Text next) system s m = refl
  load_in-behind Line system s m = refl
  load_in-behind (Hold held) system s m = refl
  load_in-behind Fault system s m = refl
  load_in-behind (Command c) system s m = load_part-behind c system s m

  pub load-behind : (system : Disk) (s : Session) (m : Contents) → load system (session_behind p q s) m ≡ did_behind p q (load system s m)
  load-behind system s m = load_in-behind s.mode system s m
