-- ^S holds a step of DIR and of TYPE exactly where the step would show a byte.
use Rattle.std.proofs.Common.{◌≡◌, ◌≢◌, ℕ, Bool, true, false, ◌&&◌, not, refl, sym, ap, ◌∙◌, List, [], ◌∷◌, Result, Ok, Err, inl, inr}
use Rattle.std.specs.Prelude.{if◌then◌else◌, ◌==◌}
use Rattle.cpm_geom.specs.Disk.{Disk}
use Rattle.cpm_console.specs.Terminal.{Terminal, said, shown, expanded}
use Rattle.cpm_memory.specs.Contents.{Contents}
use Rattle.cpm_volume.specs.declared.answer.Fault.{Fault as Failure}
use Rattle.cpm_volume.specs.declared.answer.Fault.TheVariants as failure
use Rattle.cpm_volume.specs.Files.{entry_at}
use Rattle.cpm_drives.specs.Disks.{is_there}
use Rattle.cpm_drives.specs.Files.{read_next, next_ahead}
use Rattle.cpm_bdos.specs.StepResult.{StepResult}
use Rattle.cpm_bdos.specs.Faults.{in_fault}
use Rattle.cpm_bdos.specs.Laws.{session_with_keys, without_keys, did_with_keys}
use Rattle.cpm_bdos.specs.declared.session.Session.{Session}
use Rattle.cpm_bdos.specs.declared.session.CommandPart.{CommandPart}
use Rattle.cpm_bdos.specs.declared.session.CommandPart.TheVariants as part
use Rattle.cpm_bdos.specs.declared.session.Mode.{Mode}
use Rattle.cpm_bdos.specs.declared.session.Mode.TheVariants.{Program, Command}
use Rattle.cpm_ccp.specs.declared.command.Command.{Command as Typed}
use Rattle.cpm_ccp.specs.declared.command.Command.TheVariants as typed
use Rattle.cpm_ccp.specs.declared.message.Message.TheVariants as message
use Rattle.cpm_ccp.specs.Parts.{stepped, is_stopped, held_at_part, on_file, own_record, record_read, command_drive, with_call}
use Rattle.cpm_ccp.specs.Listing.{entries_listed, next_listed, has_next, file_shown, drive_used, list_next, shows_file, listed_on}
use Rattle.cpm_ccp.specs.Showing.{record_text, ends_in, wrote_all, record_shown, after_type_read, next_shown, shows_record, shown_on}
use Rattle.cpm_ccp.specs.Step.{looks_first, begun_by, in_part, command_in_mode}
use Rattle.cpm_ccp.specs.Laws.{command_now, looks_for_stop, IsInUse, IsReadyFor, IsHeldRight}
use Rattle.cpm_ccp.proofs.ShownLemmas.{Grows, Stays, grows_told, listed_first, listed_grows, listed_stays, begun_grows, record_grows_ahead, record_stays_ahead}
use Rattle.cpm_ccp.proofs.FreeLaws.{step_in_mode}

-- ---- a part of DIR or TYPE does the same whatever keys are pending

module _ (keys : List ℕ) where
  keys_if : (b : Bool) (x y x' y' : Session) → x' ≡ session_with_keys keys x → y' ≡ session_with_keys keys y → (if b then x' else y') ≡ session_with_keys keys (if b then x else y)
  keys_if true x y x' y' ex ey = ex
  keys_if false x y x' y' ex ey = ey

  keys_fault : (s : Session) (which : Failure) (drive : ℕ) → in_fault (session_with_keys keys s) which drive ≡ session_with_keys keys (in_fault s which drive)
  unfolding shown
  keys_fault s which drive = refl

  keys_file_shown : (index column : ℕ) (name : List ℕ) (s : Session) → file_shown index column name (session_with_keys keys s) ≡ session_with_keys keys (file_shown index column name s)
  unfolding said
  keys_file_shown index column name s = refl

  keys_listed : (system : Disk) (from column : ℕ) (s : Session) → list_next system from column false (session_with_keys keys s) ≡ session_with_keys keys (list_next system from column false s)
  unfolding list_next has_next next_listed
  keys_listed system from column s =
      keys_if (not (is_there s.disks (command_drive s))) _ _ _ _ (keys_fault s failure.Select (command_drive s)) (keys_if (has_next system from s) _ _ _ _ (keys_file_shown (next_listed system from s) column (entry_at (entries_listed system s) (next_listed system from s)).extent.name (drive_used system s)) refl)

  keys_said : (t : Terminal) (text : List ℕ) → said (record t { keys = keys }) text ≡ record (said t text) { keys = keys }
  unfolding said
  keys_said t text = refl

  keys_wrote_all : (t : Terminal) (text : List ℕ) → wrote_all (record t { keys = keys }) text ≡ record (wrote_all t text) { keys = keys }
  unfolding wrote_all
  keys_wrote_all t [] = refl
  keys_wrote_all t (c ∷ cs) =
      ap (λ (u : Terminal). wrote_all u cs) (keys_said t (expanded t.column c)) ∙ keys_wrote_all (said t (expanded t.column c)) cs

  keys_record_shown : (bytes : List ℕ) (s : Session) → record_shown bytes (session_with_keys keys s) ≡ session_with_keys keys (record_shown bytes s)
  keys_record_shown bytes s =
      let wrote = keys_wrote_all s.console (record_text bytes) in
      keys_if (ends_in bytes) _ _ _ _ (ap (λ (t : Terminal). record s { console = t; mode = Program }) wrote) (ap (λ (t : Terminal). record s { console = t; mode = Command part.Show }) wrote)

  keys_after_read : (a : Result ℕ Failure) (bytes : List ℕ) (s : Session) → after_type_read a bytes (session_with_keys keys s) ≡ session_with_keys keys (after_type_read a bytes s)
  keys_after_read (Err which) bytes s = keys_fault s which (command_drive s)
  keys_after_read (Ok code) bytes s =
      keys_if (code == 0) _ _ _ _ (keys_record_shown bytes s) refl

  keys_next_shown : (system : Disk) (s : Session) → next_shown system (session_with_keys keys s) ≡ session_with_keys keys (next_shown system s)
  unfolding next_shown
  keys_next_shown system s =
      let c = read_next s.disks system s.file own_record in
      keys_after_read c.answer (record_read c) (with_call s c)

-- ---- a step that looks

held_so : (stop looks : Bool) (x y : Session) → stop ≡ true → looks ≡ true → (if stop && looks then x else y) ≡ x
held_so true true x y h k = refl
held_so true false x y h k = absurd cc
held_so false looks x y h k = absurd cc

goes_so : (stop looks : Bool) (x y : Session) → looks ≡ false → (if stop && looks then x else y) ≡ y
goes_so true true x y k = absurd cc
goes_so true false x y k = refl
goes_so false looks x y k = refl

-- what is looked at ahead decides
decided : (looks : Bool) (s free : Session) → (looks ≡ true → Grows s free) → (looks ≡ false → Stays s free) → (free.console.screen ≢ s.console.screen → looks ≡ true) × (free.console.screen ≡ s.console.screen → looks ≡ false)
decided true s free grows stays = (λ h. refl, λ h. absurd (grows refl h))
decided false s free grows stays = (λ h. absurd (h (stays refl)), λ h. refl)

free_listed : (system : Disk) (from column : ℕ) (s : Session) → listed_on system from column (without_keys s) ≡ list_next system from column false (without_keys s)
unfolding listed_on
free_listed system from column s = refl

free_shown : (system : Disk) (s : Session) → shown_on system (without_keys s) ≡ next_shown system (without_keys s)
unfolding shown_on
free_shown system s = refl

same_ahead : (system : Disk) (from : ℕ) (s : Session) → shows_file system from (without_keys s) ≡ shows_file system from s
unfolding shows_file has_next next_listed
same_ahead system from s = refl

same_record : (system : Disk) (s : Session) → next_ahead (without_keys s).disks system (without_keys s).file ≡ next_ahead s.disks system s.file
same_record system s = refl

-- the first step shows something, whatever comes of it
first_grows : (command : Typed) (system : Disk) (s : Session) (m : Contents) → looks_first command ≡ true → Grows s (begun_by command system s m).session
first_grows typed.Nothing system s m h = absurd cc
first_grows (typed.SelectDrive drive) system s m h = absurd cc
first_grows (typed.Directory file) system s m h = listed_first system 0 0 (on_file s file)
first_grows (typed.Erase file) system s m h = absurd cc
first_grows (typed.EraseAll file) system s m h = absurd cc
first_grows (typed.Rename old new) system s m h = absurd cc
first_grows typed.RenameForm system s m h = absurd cc
first_grows (typed.Save pages file) system s m h = absurd cc
first_grows typed.SaveForm system s m h = absurd cc
first_grows (typed.TypeFile file) system s m h = begun_grows system file s
first_grows typed.TypeForm system s m h = grows_told s message.TypeForm
first_grows (typed.User user) system s m h = absurd cc
first_grows typed.UserForm system s m h = absurd cc
first_grows (typed.Program file) system s m h = absurd cc
first_grows typed.Unknown system s m h = absurd cc

first_held : (stop looks : Bool) (x y : StepResult) → stop ≡ true → looks ≡ true → (if stop && looks then x else y) ≡ x
first_held true true x y h k = refl
first_held true false x y h k = absurd cc
first_held false looks x y h k = absurd cc

module _ (system : Disk) (s : Session) (m : Contents) (stop : is_stopped s ≡ true) where
  -- ---- each file of DIR
  module _ (from column : ℕ) where
    file_ahead : ((listed_on system from column (without_keys s)).console.screen ≢ s.console.screen → shows_file system from s ≡ true) × ((listed_on system from column (without_keys s)).console.screen ≡ s.console.screen → shows_file system from s ≡ false)
    file_ahead =
        decided (shows_file system from s) (without_keys s) (listed_on system from column (without_keys s)) (λ h. rw (free_listed system from column s) (listed_grows system from column (without_keys s) (same_ahead system from s ∙ h))) (λ h. rw (free_listed system from column s) (listed_stays system from column (without_keys s) (same_ahead system from s ∙ h)))

    file_held : shows_file system from s ≡ true → listed_on system from column s ≡ held_at_part s (part.Directory from column)
    unfolding listed_on
    file_held h = held_so (is_stopped s) (shows_file system from s) _ _ stop h

    file_listed : shows_file system from s ≡ false → listed_on system from column s ≡ list_next system from column false s
    unfolding listed_on
    file_listed h = goes_so (is_stopped s) (shows_file system from s) _ _ h

    file_goes : shows_file system from s ≡ false → listed_on system from column s ≡ session_with_keys s.console.keys (listed_on system from column (without_keys s))
    file_goes h =
        file_listed h ∙ (keys_listed s.console.keys system from column (without_keys s) ∙ ap (session_with_keys s.console.keys) (sym (free_listed system from column s)))

  -- ---- each record of TYPE
  module _ (in_use : IsInUse system s) where
    use_free : IsInUse system (without_keys s)
    use_free = record { whole = in_use.whole; protected = in_use.protected }

    record_ahead : ((shown_on system (without_keys s)).console.screen ≢ s.console.screen → shows_record (next_ahead s.disks system s.file) ≡ true) × ((shown_on system (without_keys s)).console.screen ≡ s.console.screen → shows_record (next_ahead s.disks system s.file) ≡ false)
    record_ahead =
        decided (shows_record (next_ahead s.disks system s.file)) (without_keys s) (shown_on system (without_keys s)) (λ h. rw (free_shown system s) (record_grows_ahead system (without_keys s) use_free h)) (λ h. rw (free_shown system s) (record_stays_ahead system (without_keys s) use_free h))

    record_held : shows_record (next_ahead s.disks system s.file) ≡ true → shown_on system s ≡ held_at_part s part.Show
    unfolding shown_on
    record_held h = held_so (is_stopped s) (shows_record (next_ahead s.disks system s.file)) _ _ stop h

    record_is_read : shows_record (next_ahead s.disks system s.file) ≡ false → shown_on system s ≡ next_shown system s
    unfolding shown_on
    record_is_read h = goes_so (is_stopped s) (shows_record (next_ahead s.disks system s.file)) _ _ h

    record_goes : shows_record (next_ahead s.disks system s.file) ≡ false → shown_on system s ≡ session_with_keys s.console.keys (shown_on system (without_keys s))
    record_goes h =
        record_is_read h ∙ (keys_next_shown s.console.keys system (without_keys s) ∙ ap (session_with_keys s.console.keys) (sym (free_shown system s)))

  -- ---- parts

  part_held : (p : CommandPart) → looks_for_stop p (command_now s) ≡ true → IsReadyFor p system s → (in_part p system (without_keys s) m).session.console.screen ≢ s.console.screen → in_part p system s m ≡ stepped (held_at_part s p) m
  part_held part.Line looks in_use h = absurd cc
  part_held part.Begin looks in_use h =
      first_held (is_stopped s) (looks_first (command_now s)) _ _ stop looks
  part_held (part.Directory next column) looks in_use h =
      ap (λ (t : Session). stepped t m) (file_held next column ((file_ahead next column).0 h))
  part_held part.Answer looks in_use h = absurd cc
  part_held part.EraseAll looks in_use h = absurd cc
  part_held (part.Save next left) looks in_use h = absurd cc
  part_held part.Close looks in_use h = absurd cc
  part_held part.Show looks in_use h =
      ap (λ (t : Session). stepped t m) (record_held in_use ((record_ahead in_use).0 h))
  part_held (part.Load next) looks in_use h = absurd cc

  part_silent : (p : CommandPart) → looks_for_stop p (command_now s) ≡ true → IsReadyFor p system s → (in_part p system (without_keys s) m).session.console.screen ≡ s.console.screen → in_part p system s m ≡ did_with_keys s.console.keys (in_part p system (without_keys s) m)
  part_silent part.Line looks in_use h = absurd cc
  part_silent part.Begin looks in_use h =
      absurd (first_grows (command_now s) system (without_keys s) m looks h)
  part_silent (part.Directory next column) looks in_use h =
      ap (λ (t : Session). stepped t m) (file_goes next column ((file_ahead next column).1 h))
  part_silent part.Answer looks in_use h = absurd cc
  part_silent part.EraseAll looks in_use h = absurd cc
  part_silent (part.Save next left) looks in_use h = absurd cc
  part_silent part.Close looks in_use h = absurd cc
  part_silent part.Show looks in_use h =
      ap (λ (t : Session). stepped t m) (record_goes in_use ((record_ahead in_use).1 h))
  part_silent (part.Load next) looks in_use h = absurd cc

  mode_held : (mode : Mode) (p : CommandPart) → mode ≡ Command p → looks_for_stop p (command_now s) ≡ true → IsReadyFor p system s → (command_in_mode mode system (without_keys s) m).session.console.screen ≢ s.console.screen → command_in_mode mode system s m ≡ stepped (held_at_part s p) m
  mode_held mode p is looks in_use h = rw is (part_held p looks in_use (rw is at h))

  mode_silent : (mode : Mode) (p : CommandPart) → mode ≡ Command p → looks_for_stop p (command_now s) ≡ true → IsReadyFor p system s → (command_in_mode mode system (without_keys s) m).session.console.screen ≡ s.console.screen → command_in_mode mode system s m ≡ did_with_keys s.console.keys (command_in_mode mode system (without_keys s) m)
  mode_silent mode p is looks in_use h = rw is (part_silent p looks in_use (rw is at h))

pub IsHeldRight-now : (system : Disk) (s : Session) (m : Contents) → IsHeldRight system s m
IsHeldRight-now system s m = record {
  looking = λ p is looks stop in_use. record {
    shows = mode_held system s m stop s.mode p is looks in_use;
    silent = mode_silent system s m stop s.mode p is looks in_use;
  };
  others = λ now looks. step_in_mode system s m now s.mode now (inr looks);
  other_keys = λ now stop. step_in_mode system s m now s.mode now (inl stop);
}
