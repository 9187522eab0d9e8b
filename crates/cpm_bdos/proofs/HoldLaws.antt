-- ^S holds a step of a call exactly where the step would show a byte.
use Rattle.std.proofs.Common.{◌≡◌, ◌≢◌, ℕ, ◌<◌, Bool, true, false, refl, ap, List, [], ◌∷◌, length, replicate, Option, Some, None, Result, Ok, Err, ◌⊎◌, inl, inr, arith}
use Rattle.std.specs.Prelude.{if◌then◌else◌, ◌==◌, ◌-◌, ◌%◌}
use Rattle.std.proofs.lemmas.List.{length-replicate}
use Rattle.cpm_geom.specs.Disk.{Disk}
use Rattle.cpm_console.specs.Terminal.{Terminal, said, key_read, expanded}
use Rattle.cpm_console.specs.EditedLine.{EditedLine}
use Rattle.cpm_console.specs.Editing.{begun_line, key_into_line}
use Rattle.cpm_console.specs.declared.line.LineState.{LineState}
use Rattle.cpm_console.specs.declared.line.LineState.TheVariants as line
use Rattle.cpm_console.proofs.Said.{length-screen_said}
use Rattle.cpm_memory.specs.Contents.{Contents, byte_at, next, run_at}
use Rattle.cpm_volume.specs.declared.answer.Fault.{Fault as Failure}
use Rattle.cpm_drives.specs.declared.function.FileFunction.{FileFunction}
use Rattle.cpm_drives.specs.Functions.{file_function_bytes}
use Rattle.cpm_drives.specs.Selecting.{select}
use Rattle.cpm_bdos.specs.Registers.{pair_de}
use Rattle.cpm_bdos.specs.Function.{function_of}
use Rattle.cpm_bdos.specs.StepResult.{StepResult, did, answered}
use Rattle.cpm_bdos.specs.Keys.{first_key}
use Rattle.cpm_bdos.specs.Hold.{is_stop, held_at}
use Rattle.cpm_bdos.specs.Output.{wrote, write_byte, write_text}
use Rattle.cpm_bdos.specs.Input.{read_key, direct_console}
use Rattle.cpm_bdos.specs.ReadLine.{LineReader, is_open, after_key, with_edited, take_key, line_step}
use Rattle.cpm_bdos.specs.Faults.{after_fault}
use Rattle.cpm_bdos.specs.Disks.{by_answer, fcb_size, record_size, call_file_function, select_disk, give_allocation, user_code}
use Rattle.cpm_bdos.specs.Step.{function_called, in_mode}
use Rattle.cpm_bdos.specs.Laws.{without_keys, did_with_keys, is_hold, held_by, held_in, HoldsOutput}
use Rattle.cpm_bdos.specs.declared.function.Function.{Function}
use Rattle.cpm_bdos.specs.declared.function.Function.TheVariants as f
use Rattle.cpm_bdos.specs.declared.session.Session.{Session}
use Rattle.cpm_bdos.specs.declared.session.HeldOutput.{HeldOutput}
use Rattle.cpm_bdos.specs.declared.session.HeldOutput.TheVariants as held
use Rattle.cpm_bdos.specs.declared.session.Mode.{Mode}
use Rattle.cpm_bdos.specs.declared.session.Mode.TheVariants.{Program, Text, Line, Hold, Fault, Command}
use Rattle.cpm_bdos.specs.declared.session.Went.TheVariants.{GoesOn}

-- ---- bytes shown

-- a byte takes one column at least where it is expanded
expanded_some : (column byte : ℕ) → 0 < length (expanded column byte)
unfolding expanded
expanded_some column byte = by_kind (byte == 9)
  where
    by_kind : (tab : Bool) → 0 < length (if tab then replicate (8 - column % 8) 32 else byte ∷ [])
    by_kind true = rw (length-replicate {A = ℕ} (8 - column % 8) 32) (omega arith)
    by_kind false = omega arith

-- a text that is not empty makes the screen longer
pub said_grows : (t : Terminal) (text : List ℕ) → 0 < length text → (said t text).screen ≡ t.screen → ⊥
said_grows t text some same = omega (arith, length-screen_said t text, ap length same, some)

pub wrote_grows : (t : Terminal) (byte : ℕ) → (said t (expanded t.column byte)).screen ≡ t.screen → ⊥
wrote_grows t byte same =
    said_grows t (expanded t.column byte) (expanded_some t.column byte) same

-- ---- steps that are never held

abbrev Free : StepResult → Type 0
Free d = is_hold d.session.mode ≡ false

free_if : (b : Bool) (x y : StepResult) → Free x → Free y → Free (if b then x else y)
free_if true x y hx hy = hx
free_if false x y hx hy = hy

free_unless : (b : Bool) (x y : StepResult) → b ≡ false → Free y → Free (if b then x else y)
free_unless true x y h hy = absurd cc
free_unless false x y h hy = hy

free_read_key : (k : Option ℕ) (s : Session) (m : Contents) → is_hold s.mode ≡ false → Free (read_key k s m)
free_read_key None s m h = h
free_read_key (Some key) s m h = refl

-- a line's reader that is never held
abbrev pub ReaderIsFree : LineReader → Type 0
ReaderIsFree goes_on = (p : LineState) (s : Session) (m : Contents) → is_hold s.mode ≡ false → Free (goes_on p s m)

free_after_key : ReaderIsFree after_key
free_after_key line.GoesOn s m h = refl
free_after_key line.Ended s m h = refl
free_after_key line.Interrupted s m h = refl

free_take_key : (goes_on : LineReader) → ReaderIsFree goes_on → (k : Option ℕ) (draft : EditedLine) (s : Session) (m : Contents) → is_hold s.mode ≡ false → Free (take_key goes_on k draft s m)
free_take_key goes_on free None draft s m h = h
free_take_key goes_on free (Some key) draft s m h =
    let e = key_into_line (key_read s.console) draft key in free e.progress (with_edited s e) m h

pub free_line_step : (goes_on : LineReader) → ReaderIsFree goes_on → (draft : EditedLine) (s : Session) (m : Contents) → is_hold s.mode ≡ false → Free (line_step goes_on draft s m)
free_line_step goes_on free draft s m h =
    free_if (is_open draft) _ _ (free_take_key goes_on free (first_key s) draft s m h) (free line.Ended (record s { console = said s.console (13 ∷ []); line = draft }) m h)

free_by_answer : (a : Result ℕ Failure) (drive : ℕ) (s : Session) (m : Contents) → Free (by_answer a drive s m)
free_by_answer (Ok code) drive s m = refl
free_by_answer (Err which) drive s m = refl

free_call_file_function : (function : FileFunction) (system : Disk) (s : Session) (m : Contents) → Free (call_file_function function system s m)
unfolding call_file_function
free_call_file_function function system s m =
    let c = file_function_bytes function s.disks system (run_at m (pair_de s.regs) fcb_size) (run_at m s.buffer record_size) in
    free_by_answer c.answer _ _ _

free_select_disk : (system : Disk) (s : Session) (m : Contents) → Free (select_disk system s m)
unfolding select_disk
free_select_disk system s m = free_by_answer (select s.disks system s.regs.e).answer _ _ _

free_give_allocation : (system : Disk) (s : Session) (m : Contents) → Free (give_allocation system s m)
unfolding give_allocation
free_give_allocation system s m = refl

free_user_code : (s : Session) (m : Contents) → Free (user_code s m)
unfolding user_code
free_user_code s m = free_if (s.regs.e == 255) _ _ refl refl

free_direct_console : (s : Session) (m : Contents) → Free (direct_console s.regs.e s m)
free_direct_console s m =
    free_if (s.regs.e == 255) _ _ refl (free_if (s.regs.e == 254) _ _ refl refl)

free_write_byte : (s : Session) (m : Contents) → is_stop (first_key s) ≡ false → Free (write_byte s m)
free_write_byte s m h = free_unless (is_stop (first_key s)) _ _ h refl

free_write_text : (held : HeldOutput) (s : Session) (m : Contents) (address : ℕ) → is_stop (first_key s) ≡ false → Free (write_text held s m address)
free_write_text held s m address h =
    free_if (byte_at m address == 36) _ _ refl (free_unless (is_stop (first_key s)) _ _ h refl)

-- a function is not held where no ^S is read next, or where it does not look for it
module _ (system : Disk) (s : Session) (m : Contents) (now : is_hold s.mode ≡ false) where
  free_called : (function : Function) → (is_stop (first_key s) ≡ false) ⊎ (held_by function ≡ None) → Free (function_called function system s m)
  free_called f.WarmBoot h = refl
  free_called f.ReadKey h = free_read_key (first_key s) s m now
  free_called f.WriteByte (inl h) = free_write_byte s m h
  free_called f.WriteByte (inr h) = absurd cc
  free_called f.ReaderInput h = refl
  free_called f.PunchOutput h = refl
  free_called f.ListOutput h = refl
  free_called f.DirectConsole h = free_direct_console s m
  free_called f.GetIoByte h = refl
  free_called f.SetIoByte h = refl
  free_called f.WriteText (inl h) = free_write_text held.Call s m (pair_de s.regs) h
  free_called f.WriteText (inr h) = absurd cc
  free_called f.ReadLine h =
      free_line_step after_key free_after_key (begun_line s.console.column (byte_at m (pair_de s.regs))) s m now
  free_called f.ConsoleStatus h = refl
  free_called f.Version h = refl
  free_called f.ResetDisks h = refl
  free_called f.SelectDisk h = free_select_disk system s m
  free_called (f.File function) h = free_call_file_function function system s m
  free_called f.LoginVector h = refl
  free_called f.CurrentDisk h = refl
  free_called f.SetBuffer h = refl
  free_called f.AllocationVector h = free_give_allocation system s m
  free_called f.ProtectDisk h = refl
  free_called f.ReadOnlyVector h = refl
  free_called f.DiskParameters h = refl
  free_called f.UserCode h = free_user_code s m
  free_called f.ResetDrives h = refl
  free_called f.Other h = refl

  free_after_fault : (k : Option ℕ) → Free (after_fault k s m)
  free_after_fault None = now
  free_after_fault (Some key) = refl

  free_in_mode : (mode : Mode) → is_hold mode ≡ false → (is_stop (first_key s) ≡ false) ⊎ (held_in mode s.regs.c ≡ None) → Free (in_mode mode system s m)
  free_in_mode Program is h = free_called (function_of s.regs.c) h
  free_in_mode (Text address) is (inl h) = free_write_text (held.Text address) s m address h
  free_in_mode (Text address) is (inr h) = absurd cc
  free_in_mode Line is h = free_line_step after_key free_after_key s.line s m now
  free_in_mode (Hold what) is h = absurd cc
  free_in_mode Fault is h = free_after_fault (first_key s)
  free_in_mode (Command part) is h = now

-- ---- steps that look for ^S

held_if : (b : Bool) (x y : StepResult) → b ≡ true → (if b then x else y) ≡ x
held_if true x y h = refl
held_if false x y h = absurd cc

-- a text's step: `$` shows nothing, and another byte does
text_shows : (dollar stop : Bool) (held ends ends_free on on_free : StepResult) (screen : List ℕ) → stop ≡ true → ends_free.session.console.screen ≡ screen → (if dollar then ends_free else on_free).session.console.screen ≢ screen → (if dollar then ends else if stop then held else on) ≡ held
text_shows true stop held ends ends_free on on_free screen h same shows = absurd (shows same)
text_shows false stop held ends ends_free on on_free screen h same shows = held_if stop held on h

text_silent : (dollar : Bool) (keys : List ℕ) (ends ends_free on on_free : StepResult) (screen : List ℕ) → ends ≡ did_with_keys keys ends_free → (on_free.session.console.screen ≡ screen → ⊥) → (if dollar then ends_free else on_free).session.console.screen ≡ screen → (if dollar then ends else on) ≡ did_with_keys keys (if dollar then ends_free else on_free)
text_silent true keys ends ends_free on on_free screen same grows is = same
text_silent false keys ends ends_free on on_free screen same grows is = absurd (grows is)

module _ (s : Session) (m : Contents) (stop : is_stop (first_key s) ≡ true) where
  byte_held : write_byte s m ≡ held_at held.Call s m
  byte_held = held_if (is_stop (first_key s)) _ _ stop

  byte_shows : (write_byte (without_keys s) m).session.console.screen ≡ s.console.screen → ⊥
  byte_shows same = wrote_grows (without_keys s).console s.regs.e same

  text_held : (what : HeldOutput) (address : ℕ) → (write_text what (without_keys s) m address).session.console.screen ≢ s.console.screen → write_text what s m address ≡ held_at what s m
  text_held what address shows =
      text_shows (byte_at m address == 36) (is_stop (first_key s)) (held_at what s m) (answered s m 0) (answered (without_keys s) m 0) (did (record (wrote s (byte_at m address)) { mode = Text (next address) }) m GoesOn) (did (record (wrote (without_keys s) (byte_at m address)) { mode = Text (next address) }) m GoesOn) s.console.screen stop refl shows

  text_ends : (what : HeldOutput) (address : ℕ) → (write_text what (without_keys s) m address).session.console.screen ≡ s.console.screen → write_text what s m address ≡ did_with_keys s.console.keys (write_text what (without_keys s) m address)
  text_ends what address same =
      text_silent (byte_at m address == 36) s.console.keys (answered s m 0) (answered (without_keys s) m 0) (if is_stop (first_key s) then held_at what s m else did (record (wrote s (byte_at m address)) { mode = Text (next address) }) m GoesOn) (did (record (wrote (without_keys s) (byte_at m address)) { mode = Text (next address) }) m GoesOn) s.console.screen refl (wrote_grows (without_keys s).console (byte_at m address)) same

-- what is held is the call
call_held : (what : HeldOutput) → Some held.Call ≡ Some what → what ≡ held.Call
call_held what is = cc

text_at : (what : HeldOutput) (address : ℕ) → Some (held.Text address) ≡ Some what → what ≡ held.Text address
text_at what address is = cc

module _ (system : Disk) (s : Session) (m : Contents) (what : HeldOutput) (stop : is_stop (first_key s) ≡ true) where
  function_held : (function : Function) → held_by function ≡ Some what → (function_called function system (without_keys s) m).session.console.screen ≢ s.console.screen → function_called function system s m ≡ held_at what s m
  function_held f.WriteByte is shows = rw (call_held what is) (byte_held s m stop)
  function_held f.WriteText is shows =
      rw (call_held what is) (text_held s m stop held.Call (pair_de s.regs) shows)
  function_held f.WarmBoot is shows = absurd cc
  function_held f.ReadKey is shows = absurd cc
  function_held f.ReaderInput is shows = absurd cc
  function_held f.PunchOutput is shows = absurd cc
  function_held f.ListOutput is shows = absurd cc
  function_held f.DirectConsole is shows = absurd cc
  function_held f.GetIoByte is shows = absurd cc
  function_held f.SetIoByte is shows = absurd cc
  function_held f.ReadLine is shows = absurd cc
  function_held f.ConsoleStatus is shows = absurd cc
  function_held f.Version is shows = absurd cc
  function_held f.ResetDisks is shows = absurd cc
  function_held f.SelectDisk is shows = absurd cc
  function_held (f.File function) is shows = absurd cc
  function_held f.LoginVector is shows = absurd cc
  function_held f.CurrentDisk is shows = absurd cc
  function_held f.SetBuffer is shows = absurd cc
  function_held f.AllocationVector is shows = absurd cc
  function_held f.ProtectDisk is shows = absurd cc
  function_held f.ReadOnlyVector is shows = absurd cc
  function_held f.DiskParameters is shows = absurd cc
  function_held f.UserCode is shows = absurd cc
  function_held f.ResetDrives is shows = absurd cc
  function_held f.Other is shows = absurd cc

  function_silent : (function : Function) → held_by function ≡ Some what → (function_called function system (without_keys s) m).session.console.screen ≡ s.console.screen → function_called function system s m ≡ did_with_keys s.console.keys (function_called function system (without_keys s) m)
  function_silent f.WriteByte is same = absurd (byte_shows s m stop same)
  function_silent f.WriteText is same = text_ends s m stop held.Call (pair_de s.regs) same
  function_silent f.WarmBoot is same = absurd cc
  function_silent f.ReadKey is same = absurd cc
  function_silent f.ReaderInput is same = absurd cc
  function_silent f.PunchOutput is same = absurd cc
  function_silent f.ListOutput is same = absurd cc
  function_silent f.DirectConsole is same = absurd cc
  function_silent f.GetIoByte is same = absurd cc
  function_silent f.SetIoByte is same = absurd cc
  function_silent f.ReadLine is same = absurd cc
  function_silent f.ConsoleStatus is same = absurd cc
  function_silent f.Version is same = absurd cc
  function_silent f.ResetDisks is same = absurd cc
  function_silent f.SelectDisk is same = absurd cc
  function_silent (f.File function) is same = absurd cc
  function_silent f.LoginVector is same = absurd cc
  function_silent f.CurrentDisk is same = absurd cc
  function_silent f.SetBuffer is same = absurd cc
  function_silent f.AllocationVector is same = absurd cc
  function_silent f.ProtectDisk is same = absurd cc
  function_silent f.ReadOnlyVector is same = absurd cc
  function_silent f.DiskParameters is same = absurd cc
  function_silent f.UserCode is same = absurd cc
  function_silent f.ResetDrives is same = absurd cc
  function_silent f.Other is same = absurd cc

  mode_held : (mode : Mode) → held_in mode s.regs.c ≡ Some what → (in_mode mode system (without_keys s) m).session.console.screen ≢ s.console.screen → in_mode mode system s m ≡ held_at what s m
  mode_held Program is shows = function_held (function_of s.regs.c) is shows
  mode_held (Text address) is shows =
      rw (text_at what address is) (text_held s m stop (held.Text address) address shows)
  mode_held Line is shows = absurd cc
  mode_held (Hold other) is shows = absurd cc
  mode_held Fault is shows = absurd cc
  mode_held (Command part) is shows = absurd cc

  mode_silent : (mode : Mode) → held_in mode s.regs.c ≡ Some what → (in_mode mode system (without_keys s) m).session.console.screen ≡ s.console.screen → in_mode mode system s m ≡ did_with_keys s.console.keys (in_mode mode system (without_keys s) m)
  mode_silent Program is same = function_silent (function_of s.regs.c) is same
  mode_silent (Text address) is same = text_ends s m stop (held.Text address) address same
  mode_silent Line is same = absurd cc
  mode_silent (Hold other) is same = absurd cc
  mode_silent Fault is same = absurd cc
  mode_silent (Command part) is same = absurd cc

pub HoldsOutput-now : (system : Disk) (s : Session) (m : Contents) → HoldsOutput system s m
HoldsOutput-now system s m = record {
  shows = λ what is stop shows. mode_held system s m what stop s.mode is shows;
  silent = λ what is stop same. mode_silent system s m what stop s.mode is same;
  others = λ now is. free_in_mode system s m now s.mode now (inr is);
  other_keys = λ now stop. free_in_mode system s m now s.mode now (inl stop);
}
