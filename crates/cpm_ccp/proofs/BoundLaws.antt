-- Every step of the command processor is bounded.
use Rattle.std.proofs.Common.{ℕ, ◌+◌, ◌*◌, ◌%◌, ◌≤◌, Bool, true, false, ◌&&◌, not, List, [], ◌∷◌, ◌++◌, length, take, refl, arith, Result, Ok, Err, inl, inr}
use Rattle.std.specs.Prelude.{if◌then◌else◌, ◌==◌}
use Rattle.std.proofs.lemmas.List.{length-append, length-take, length-map}
use Rattle.std.proofs.lemmas.Bool.{lt-ltb, le-ltb, cases_lt}
use Rattle.cpm_geom.specs.Disk.{Disk}
use Rattle.cpm_console.specs.Terminal.{Terminal, said, expanded, IsWithin}
use Rattle.cpm_console.specs.declared.line.LineState.TheVariants as line
use Rattle.cpm_console.proofs.Growth.{IsWithin-said, IsWithin-same, length-expanded}
use Rattle.cpm_memory.specs.Contents.{Contents, byte_at, run_at, after_change}
use Rattle.cpm_memory.specs.Room.{touched_of-after_change, limit-after_change}
use Rattle.cpm_memory.proofs.Runs.{touched_of-run, limit-run}
use Rattle.cpm_volume.specs.declared.fcb.Fcb.{Fcb}
use Rattle.cpm_volume.specs.declared.answer.Fault.{Fault as Failure}
use Rattle.cpm_volume.specs.declared.answer.Fault.TheVariants as failure
use Rattle.cpm_volume.specs.Files.{entry_at}
use Rattle.cpm_drives.specs.Disks.{is_there}
use Rattle.cpm_drives.specs.Selecting.{drive_in_use}
use Rattle.cpm_drives.specs.Calls.{drive_named}
use Rattle.cpm_drives.specs.Files.{open_file, close_file, make_file, erase_files, rename_files, read_next, write_next, next_ahead}
use Rattle.cpm_bdos.specs.Bounds.{IsFit, IsBounded}
use Rattle.cpm_bdos.specs.StepResult.{StepResult, did}
use Rattle.cpm_bdos.specs.ReadLine.{with_edited}
use Rattle.cpm_bdos.specs.declared.session.Session.{Session}
use Rattle.cpm_bdos.specs.declared.session.CommandPart.{CommandPart}
use Rattle.cpm_bdos.specs.declared.session.CommandPart.TheVariants as part
use Rattle.cpm_bdos.specs.declared.session.Mode.{Mode}
use Rattle.cpm_bdos.specs.declared.session.Mode.TheVariants.{Program, Text, Line, Hold, Fault, Command}
use Rattle.cpm_bdos.specs.declared.session.Went.TheVariants.{Returned, GoesOn}
use Rattle.cpm_bdos.proofs.Bounded.{ReaderIsBounded, within_fault, bounded_faulted, bounded_rebooted, bounded_line_step}
use Rattle.cpm_bdos.proofs.Pages.{pages-le}
use Rattle.cpm_ccp.specs.declared.message.Message.{Message}
use Rattle.cpm_ccp.specs.declared.message.Message.TheVariants as message
use Rattle.cpm_ccp.specs.declared.command.Command.{Command as Typed}
use Rattle.cpm_ccp.specs.declared.command.Command.TheVariants as typed
use Rattle.cpm_ccp.specs.Message.{message_text}
use Rattle.cpm_ccp.specs.Command.{command_of}
use Rattle.cpm_ccp.specs.Words.{first_word, tail_of}
use Rattle.cpm_ccp.specs.Parts.{finished, stepped, says, message_told, is_stopped, held_at_part, typed_line, on_file, own_record, record_read, command_drive, with_call_disks, with_call}
use Rattle.cpm_ccp.specs.Prompt.{drive_asked, drives_chosen, prompt_text, prompted, with_drive_and_user, with_user, prompt_after_key, edit_command_line, drive_selected}
use Rattle.cpm_ccp.specs.Listing.{before_file, file_text, entries_listed, next_listed, has_next, file_shown, listing_ended, drive_used, list_next, shows_file, listed_on}
use Rattle.cpm_ccp.specs.FileCommands.{by_code, erased, all_files_asked, is_yes, erased_all, has_new_name, renamed, after_save_make, file_made, after_erase, save_begun, after_save_write, saved, after_save_close, file_closed}
use Rattle.cpm_ccp.specs.Showing.{after_type_open, show_begun, record_text, ends_in, wrote_all, record_shown, after_type_read, next_shown, shows_record, shown_on}
use Rattle.cpm_ccp.specs.Loading.{unknown, load_begun, started, record_loaded, load_record, load_in, load}
use Rattle.cpm_ccp.specs.Loading as loading
use Rattle.cpm_ccp.specs.Step.{looks_first, begun_by, begun_command, in_part, command_in_mode, ccp}
use Rattle.cpm_ccp.proofs.TextLemmas.{first_word-le, tail_of-le}
use Rattle.cpm_ccp.proofs.StartLemmas.{length-line_of, pages_started, limit_started}

bounded_if : (b : Bool) (s : Session) (m : Contents) (x y : StepResult) → IsBounded s m x → IsBounded s m y → IsBounded s m (if b then x else y)
bounded_if true s m x y hx hy = hx
bounded_if false s m x y hx hy = hy

-- a session that shows at most as much as a step may
abbrev Within : Session → Session → Type 0
Within s t = IsWithin 4096 s.console t.console

within_if : (b : Bool) (s x y : Session) → Within s x → Within s y → Within s (if b then x else y)
within_if true s x y hx hy = hx
within_if false s x y hx hy = hy

-- a step that leaves the memory
bounded_stepped : (s t : Session) (m : Contents) → Within s t → IsBounded s m (stepped t m)
bounded_stepped s t m output = record { pages = omega arith; limit = refl; output = output }

-- ---- texts and ends

within_same : (s : Session) → Within s s
within_same s = IsWithin-same 4096 s.console

within_held : (s : Session) (p : CommandPart) → Within s (held_at_part s p)
within_held s p = record { screen = omega arith; printer = omega arith }

within_says : (s : Session) (text : List ℕ) → length text ≤ 4096 → Within s (says s text)
within_says s text few = IsWithin-said 4096 s.console text few

length-message : (words : Message) → length (message_text words) ≤ 16
length-message message.NoFile = omega arith
length-message message.FileExists = omega arith
length-message message.NoSpace = omega arith
length-message message.EraseAll = omega arith
length-message message.BadLoad = omega arith
length-message message.RenameForm = omega arith
length-message message.SaveForm = omega arith
length-message message.TypeForm = omega arith
length-message message.UserForm = omega arith

within_told : (s : Session) (words : Message) → Within s (message_told s words)
within_told s words = within_says s (13 ∷ 10 ∷ message_text words) (omega (arith, length-message words))

-- ---- the prompt and lines

within_prompted : (system : Disk) (byte : ℕ) (s : Session) → Within s (prompted system byte s)
unfolding prompted
within_prompted system byte s =
    within_says (record s { disks = drives_chosen s.disks system byte; buffer = 128 }) (13 ∷ 10 ∷ prompt_text (drive_asked s.disks byte)) (omega arith)

bounded_after_key : (next : CommandPart) → ReaderIsBounded (prompt_after_key next)
bounded_after_key next line.GoesOn s m e output few = record { pages = omega arith; limit = refl; output = output }
bounded_after_key next line.Ended s m e output few = record { pages = omega arith; limit = refl; output = output }
bounded_after_key next line.Interrupted s m e output few =
    bounded_rebooted s (with_edited s e) m m (omega arith) refl output

bounded_edit_line : (next : CommandPart) (s : Session) (m : Contents) → IsFit s → IsBounded s m (edit_command_line next s m)
bounded_edit_line next s m fit =
    bounded_line_step (prompt_after_key next) (bounded_after_key next) s.line s m (record { start = fit.start; characters = fit.characters })

-- a byte changed at 0004h
bounded_change : (s : Session) (m : Contents) (value : ℕ) → IsBounded s m (did (finished s) (after_change m 4 value) Returned)
bounded_change s m value = record {
  pages = omega (arith, touched_of-after_change m 4 value);
  limit = limit-after_change m 4 value;
  output = within_same s;
}

bounded_drive_selected : (drive : ℕ) (s : Session) (m : Contents) → IsBounded s m (drive_selected drive s m)
bounded_drive_selected drive s m =
    bounded_if (is_there s.disks drive) s m _ _ (bounded_change s m (with_drive_and_user drive (byte_at m 4))) (bounded_faulted s m failure.Select drive)

-- ---- DIR

length-before_file : (column drive : ℕ) → length (before_file column drive) ≤ 5
length-before_file column drive = by_test (column == 0)
  where
    by_test : (b : Bool) → length (if b then 13 ∷ 10 ∷ (65 + drive % 16) ∷ 58 ∷ 32 ∷ [] else 32 ∷ 58 ∷ 32 ∷ []) ≤ 5
    by_test true = omega arith
    by_test false = omega arith

length-file_text : (column drive : ℕ) (name : List ℕ) → length (file_text column drive name) ≤ 4096
unfolding file_text
length-file_text column drive name =
    simp (length-append, length-map, length-take) (omega (arith, length-before_file column drive))

within_file_shown : (index column : ℕ) (name : List ℕ) (s : Session) → Within s (file_shown index column name s)
within_file_shown index column name s =
    within_says s (file_text column (command_drive s) name) (length-file_text column (command_drive s) name)

within_listing_ended : (is_first : Bool) (s : Session) → Within s (listing_ended is_first s)
within_listing_ended is_first s = within_if is_first s _ _ (within_told s message.NoFile) (within_same s)

within_listed : (system : Disk) (from column : ℕ) (is_first : Bool) (s : Session) → Within s (list_next system from column is_first s)
unfolding list_next
within_listed system from column is_first s =
    within_if (not (is_there s.disks (command_drive s))) s _ _ (within_fault s failure.Select (command_drive s))
    (within_if (has_next system from s) s _ _ (within_file_shown (next_listed system from s) column (entry_at (entries_listed system s) (next_listed system from s)).extent.name (drive_used system s)) (within_listing_ended is_first (drive_used system s)))

within_listed_on : (system : Disk) (from column : ℕ) (s : Session) → Within s (listed_on system from column s)
unfolding listed_on
within_listed_on system from column s =
    within_if (is_stopped s && shows_file system from s) s _ _ (within_held s (part.Directory from column)) (within_listed system from column false s)

-- ---- ERA, REN, SAVE

within_by_code : (a : Result ℕ Failure) (drive : ℕ) (s : Session) → Within s (by_code a drive s)
within_by_code (Err which) drive s = within_fault s which drive
within_by_code (Ok code) drive s =
    within_if (code == 255) s _ _ (within_told s message.NoFile) (within_same s)

within_erased : (system : Disk) (file : Fcb) (s : Session) → Within s (erased system file s)
unfolding erased
within_erased system file s =
    let c = erase_files s.disks system file own_record in
    within_by_code c.answer (drive_named s.disks file.drive) (with_call_disks s c.disks)

within_asked : (file : Fcb) (s : Session) → Within s (all_files_asked file s)
within_asked file s =
    within_says (on_file s file) (13 ∷ 10 ∷ message_text message.EraseAll) (omega arith)

within_erased_all : (system : Disk) (s : Session) → Within s (erased_all system s)
unfolding erased_all
within_erased_all system s =
    within_if (is_yes s.line.characters) s _ _ (within_erased system s.file s) (within_same s)

within_renamed : (system : Disk) (old new : Fcb) (s : Session) → Within s (renamed system old new s)
unfolding renamed
within_renamed system old new s =
    let c = rename_files new.extent.name s.disks system old own_record in
    within_if (has_new_name system s.disks new) s _ _ (within_told (with_call_disks s (drive_in_use s.disks system (drive_named s.disks new.drive))) message.FileExists) (within_by_code c.answer (drive_named s.disks old.drive) (with_call_disks s c.disks))

within_after_make : (a : Result ℕ Failure) (pages : ℕ) (s : Session) → Within s (after_save_make a pages s)
within_after_make (Err which) pages s = within_fault s which (command_drive s)
within_after_make (Ok code) pages s =
    within_if (code == 255) s _ _ (within_told s message.NoSpace) (within_same s)

within_made : (system : Disk) (pages : ℕ) (s : Session) → Within s (file_made system pages s)
unfolding file_made
within_made system pages s =
    let c = make_file s.disks system s.file own_record in within_after_make c.answer pages (with_call s c)

within_after_erase : (a : Result ℕ Failure) (system : Disk) (pages : ℕ) (s : Session) → Within s (after_erase a system pages s)
within_after_erase (Err which) system pages s = within_fault s which (command_drive s)
within_after_erase (Ok code) system pages s = within_made system pages s

within_save_begun : (system : Disk) (pages : ℕ) (file : Fcb) (s : Session) → Within s (save_begun system pages file s)
unfolding save_begun
within_save_begun system pages file s =
    let c = erase_files s.disks system file own_record in
    within_after_erase c.answer system pages (with_call_disks (on_file s file) c.disks)

within_after_write : (a : Result ℕ Failure) (next left : ℕ) (s : Session) → Within s (after_save_write a next left s)
within_after_write (Err which) next left s = within_fault s which (command_drive s)
within_after_write (Ok code) next left s =
    within_if (code == 0) s _ _ (within_same s) (within_told s message.NoSpace)

within_saved : (system : Disk) (next left : ℕ) (bytes : List ℕ) (s : Session) → Within s (saved system next left bytes s)
unfolding saved
within_saved system next left bytes s =
    let c = write_next s.disks system s.file bytes in
    within_after_write c.answer next left (with_call s c)

within_after_close : (a : Result ℕ Failure) (s : Session) → Within s (after_save_close a s)
within_after_close (Err which) s = within_fault s which (command_drive s)
within_after_close (Ok code) s = within_same s

within_closed : (system : Disk) (s : Session) → Within s (file_closed system s)
unfolding file_closed
within_closed system s =
    let c = close_file s.disks system s.file own_record in within_after_close c.answer (with_call s c)

-- ---- TYPE

within_after_open : (a : Result ℕ Failure) (s : Session) → Within s (after_type_open a s)
within_after_open (Err which) s = within_fault s which (command_drive s)
within_after_open (Ok code) s =
    within_if (code == 255) s _ _ (within_told s message.NoFile) (within_says s (13 ∷ 10 ∷ []) (omega arith))

within_show_begun : (system : Disk) (file : Fcb) (s : Session) → Within s (show_begun system file s)
unfolding show_begun
within_show_begun system file s =
    let c = open_file s.disks system file own_record in within_after_open c.answer (with_call s c)

-- each character takes 8 bytes at most
pub within_wrote_all : (t : Terminal) (text : List ℕ) → IsWithin (8 * length text) t (wrote_all t text)
unfolding wrote_all
within_wrote_all t [] = IsWithin-same _ t
within_wrote_all t (c ∷ cs) =
    let one = IsWithin-said 8 t (expanded t.column c) (length-expanded t.column c) in
    let rest = within_wrote_all (said t (expanded t.column c)) cs in
    record { screen = omega (arith, one.screen, rest.screen); printer = omega (arith, one.printer, rest.printer) }

length-text_of : (bytes : List ℕ) → length (record_text bytes) ≤ length bytes
length-text_of bytes = simp (length-take) (omega arith)

within_record_shown : (bytes : List ℕ) (s : Session) → length bytes ≤ 128 → Within s (record_shown bytes s)
within_record_shown bytes s few =
    let all = within_wrote_all s.console (record_text bytes) in
    let short = length-text_of bytes in
    let shows : IsWithin 4096 s.console (wrote_all s.console (record_text bytes)) = record { screen = omega (arith, all.screen); printer = omega (arith, all.printer) } in
    within_if (ends_in bytes) s _ _ shows shows

within_after_read : (a : Result ℕ Failure) (bytes : List ℕ) (s : Session) → length bytes ≤ 128 → Within s (after_type_read a bytes s)
within_after_read (Err which) bytes s few = within_fault s which (command_drive s)
within_after_read (Ok code) bytes s few =
    within_if (code == 0) s _ _ (within_record_shown bytes s few) (within_same s)

length-record : (bytes : List ℕ) → length (take 128 bytes) ≤ 128
length-record bytes = simp (length-take) (omega arith)

within_next_shown : (system : Disk) (s : Session) → Within s (next_shown system s)
unfolding next_shown
within_next_shown system s =
    let c = read_next s.disks system s.file own_record in
    within_after_read c.answer (record_read c) (with_call s c) (length-record c.buffer)

within_shown_on : (system : Disk) (s : Session) → Within s (shown_on system s)
unfolding shown_on
within_shown_on system s =
    within_if (is_stopped s && shows_record (next_ahead s.disks system s.file)) s _ _ (within_held s part.Show) (within_next_shown system s)

-- ---- the loader

within_unknown : (s : Session) → length s.line.characters ≤ 255 → Within s (unknown s)
within_unknown s few =
    let short = first_word-le (typed_line s) in
    let size = length-line_of s in
    within_says s (13 ∷ 10 ∷ (first_word (typed_line s) ++ (63 ∷ []))) (omega (arith, length-append (first_word (typed_line s)) (63 ∷ [])))

within_opened : (a : Result ℕ Failure) (s : Session) → length s.line.characters ≤ 255 → Within s (loading.after_load_open a s)
within_opened (Err which) s few = within_fault s which (command_drive s)
within_opened (Ok code) s few = within_if (code == 255) s _ _ (within_unknown s few) (within_same s)

within_load_begun : (system : Disk) (file : Fcb) (s : Session) → length s.line.characters ≤ 255 → Within s (load_begun system file s)
unfolding load_begun
within_load_begun system file s few =
    let c = open_file s.disks system file own_record in within_opened c.answer (with_call s c) few

bounded_started : (s : Session) (m : Contents) → length s.line.characters ≤ 255 → IsBounded s m (started s m)
bounded_started s m few =
    let tail = tail_of (typed_line s) in
    let short = tail_of-le (typed_line s) in
    let size = length-line_of s in
    record { pages = pages_started tail m (omega arith); limit = limit_started tail m; output = within_same s }

bounded_loaded : (next : ℕ) (bytes : List ℕ) (s : Session) (m : Contents) → length bytes ≤ 128 → IsBounded s m (record_loaded next bytes s m)
bounded_loaded next bytes s m few =
    elim (cases_lt 58240 next) [
      | inl lt ↦ rw (lt-ltb 58240 next lt) (record { pages = omega arith; limit = refl; output = within_told s message.BadLoad })
      | inr ge ↦
          rw (le-ltb 58240 next ge) (record {
            pages = omega (arith, touched_of-run m next bytes (omega arith) (omega (arith, few)), pages-le next (length bytes));
            limit = limit-run m next bytes;
            output = within_same s;
          })
    ]

bounded_read : (a : Result ℕ Failure) (next : ℕ) (bytes : List ℕ) (s : Session) (m : Contents) → length s.line.characters ≤ 255 → length bytes ≤ 128 → IsBounded s m (loading.after_load_read a next bytes s m)
bounded_read (Err which) next bytes s m line few = bounded_faulted s m which (command_drive s)
bounded_read (Ok code) next bytes s m line few =
    bounded_if (code == 0) s m _ _ (bounded_loaded next bytes s m few) (bounded_started s m line)

bounded_load_record : (system : Disk) (next : ℕ) (s : Session) (m : Contents) → length s.line.characters ≤ 255 → IsBounded s m (load_record system next s m)
unfolding load_record
bounded_load_record system next s m line =
    let c = read_next s.disks system s.file own_record in
    let b = bounded_read c.answer next (record_read c) (with_call s c) m line (length-record c.buffer) in
    record { pages = b.pages; limit = b.limit; output = record { screen = b.output.screen; printer = b.output.printer } }

-- ---- steps

bounded_begun_by : (command : Typed) (system : Disk) (s : Session) (m : Contents) → IsFit s → IsBounded s m (begun_by command system s m)
bounded_begun_by typed.Nothing system s m fit = bounded_stepped s (finished s) m (within_same s)
bounded_begun_by (typed.SelectDrive drive) system s m fit = bounded_drive_selected drive s m
bounded_begun_by (typed.Directory file) system s m fit = bounded_stepped s _ m (within_listed system 0 0 true (on_file s file))
bounded_begun_by (typed.Erase file) system s m fit = bounded_stepped s _ m (within_erased system file s)
bounded_begun_by (typed.EraseAll file) system s m fit = bounded_stepped s _ m (within_asked file s)
bounded_begun_by (typed.Rename old new) system s m fit = bounded_stepped s _ m (within_renamed system old new s)
bounded_begun_by typed.RenameForm system s m fit = bounded_stepped s _ m (within_told s message.RenameForm)
bounded_begun_by (typed.Save pages file) system s m fit = bounded_stepped s _ m (within_save_begun system pages file s)
bounded_begun_by typed.SaveForm system s m fit = bounded_stepped s _ m (within_told s message.SaveForm)
bounded_begun_by (typed.TypeFile file) system s m fit = bounded_stepped s _ m (within_show_begun system file s)
bounded_begun_by typed.TypeForm system s m fit = bounded_stepped s _ m (within_told s message.TypeForm)
bounded_begun_by (typed.User user) system s m fit = bounded_change s m (with_user user (byte_at m 4))
bounded_begun_by typed.UserForm system s m fit = bounded_stepped s _ m (within_told s message.UserForm)
bounded_begun_by (typed.Program file) system s m fit = bounded_stepped s _ m (within_load_begun system file s fit.characters)
bounded_begun_by typed.Unknown system s m fit = bounded_stepped s _ m (within_unknown s fit.characters)

bounded_begun : (command : Typed) (system : Disk) (s : Session) (m : Contents) → IsFit s → IsBounded s m (begun_command command system s m)
bounded_begun command system s m fit =
    bounded_if (is_stopped s && looks_first command) s m _ _ (bounded_stepped s _ m (within_held s part.Begin)) (bounded_begun_by command system s m fit)

bounded_in_part : (p : CommandPart) (system : Disk) (s : Session) (m : Contents) → IsFit s → IsBounded s m (in_part p system s m)
bounded_in_part part.Line system s m fit = bounded_edit_line part.Begin s m fit
bounded_in_part part.Begin system s m fit = bounded_begun (command_of s.disks.current (typed_line s)) system s m fit
bounded_in_part (part.Directory next column) system s m fit = bounded_stepped s _ m (within_listed_on system next column s)
bounded_in_part part.Answer system s m fit = bounded_edit_line part.EraseAll s m fit
bounded_in_part part.EraseAll system s m fit = bounded_stepped s _ m (within_erased_all system s)
bounded_in_part (part.Save next left) system s m fit = bounded_stepped s _ m (within_saved system next left (run_at m next 128) s)
bounded_in_part part.Close system s m fit = bounded_stepped s _ m (within_closed system s)
bounded_in_part part.Show system s m fit = bounded_stepped s _ m (within_shown_on system s)
bounded_in_part (part.Load next) system s m fit = bounded_load_record system next s m fit.characters

-- a step of another call is none of the command processor's
bounded_other : (s : Session) (m : Contents) → IsBounded s m (did s m GoesOn)
bounded_other s m = record { pages = omega arith; limit = refl; output = within_same s }

bounded_in_mode : (mode : Mode) (system : Disk) (s : Session) (m : Contents) → IsFit s → IsBounded s m (command_in_mode mode system s m)
bounded_in_mode Program system s m fit = bounded_stepped s _ m (within_prompted system (byte_at m 4) s)
bounded_in_mode (Text next) system s m fit = bounded_other s m
bounded_in_mode Line system s m fit = bounded_other s m
bounded_in_mode (Hold held) system s m fit = bounded_other s m
bounded_in_mode Fault system s m fit = bounded_other s m
bounded_in_mode (Command p) system s m fit = bounded_in_part p system s m fit

pub IsBounded-ccp : (system : Disk) (s : Session) (m : Contents) → IsFit s → IsBounded s m (ccp system s m)
IsBounded-ccp system s m fit = bounded_in_mode s.mode system s m fit

bounded_load_part : (p : CommandPart) (system : Disk) (s : Session) (m : Contents) → IsFit s → IsBounded s m (load_in (Command p) system s m)
bounded_load_part part.Line system s m fit = bounded_other s m
bounded_load_part part.Begin system s m fit = bounded_other s m
bounded_load_part (part.Directory next column) system s m fit = bounded_other s m
bounded_load_part part.Answer system s m fit = bounded_other s m
bounded_load_part part.EraseAll system s m fit = bounded_other s m
bounded_load_part (part.Save next left) system s m fit = bounded_other s m
bounded_load_part part.Close system s m fit = bounded_other s m
bounded_load_part part.Show system s m fit = bounded_other s m
bounded_load_part (part.Load next) system s m fit = bounded_load_record system next s m fit.characters

bounded_load_in : (mode : Mode) (system : Disk) (s : Session) (m : Contents) → IsFit s → IsBounded s m (load_in mode system s m)
bounded_load_in Program system s m fit = bounded_other s m
bounded_load_in (Text next) system s m fit = bounded_other s m
bounded_load_in Line system s m fit = bounded_other s m
bounded_load_in (Hold held) system s m fit = bounded_other s m
bounded_load_in Fault system s m fit = bounded_other s m
bounded_load_in (Command p) system s m fit = bounded_load_part p system s m fit

pub IsBounded-load : (system : Disk) (s : Session) (m : Contents) → IsFit s → IsBounded s m (load system s m)
IsBounded-load system s m fit = bounded_load_in s.mode system s m fit
