-- A file that TYPE shows is on a drive that was used.
use Rattle.std.proofs.Common.{◌≡◌, ℕ, Bool, true, false, ◌&&◌, refl, sym, ap, ◌∙◌, List, length, get_or, set, Option, Some, None, is_some, Result, Ok, Err, inl, inr}
use Rattle.std.specs.Prelude.{if◌then◌else◌, ◌==◌}
use Rattle.std.proofs.lemmas.List.{get_or-set_same, get_or_past}
use Rattle.std.proofs.lemmas.Bool.{cases_lt}
use Rattle.cpm_geom.specs.Disk.{Disk}
use Rattle.cpm_memory.specs.Contents.{Contents}
use Rattle.cpm_volume.specs.declared.fcb.Fcb.{Fcb}
use Rattle.cpm_volume.specs.declared.answer.Fault.{Fault as Failure}
use Rattle.cpm_volume.specs.declared.answer.Fault.TheVariants as failure
use Rattle.cpm_volume.specs.declared.extent.Extent.{Extent}
use Rattle.cpm_drive.specs.declared.drive.Drive.{Drive}
use Rattle.cpm_drive.specs.Drive.{drive_after, after_call}
use Rattle.cpm_drive.specs.Calls.{after_open}
use Rattle.cpm_drives.specs.declared.disks.Disks.{Disks}
use Rattle.cpm_drives.specs.Disks.{is_there, own_drive, system_drive, drive_at, with_drive}
use Rattle.cpm_drives.specs.Selecting.{ready}
use Rattle.cpm_drives.specs.Calls.{OnDrive, FileCall, on_named_drive, drive_named}
use Rattle.cpm_drives.specs.Files.{open_file_on, read_next_on, open_file, read_next, next_ahead}
use Rattle.cpm_bdos.specs.StepResult.{StepResult}
use Rattle.cpm_bdos.specs.declared.session.Session.{Session}
use Rattle.cpm_bdos.specs.declared.session.CommandPart.TheVariants as part
use Rattle.cpm_bdos.specs.declared.session.Mode.{Mode}
use Rattle.cpm_bdos.specs.declared.session.Mode.TheVariants.{Command}
use Rattle.cpm_ccp.specs.Parts.{is_stopped, own_record, record_read, command_drive, with_call}
use Rattle.cpm_ccp.specs.Showing.{show_begun, ends_in, after_type_read, next_shown, shows_record, shown_on}
use Rattle.cpm_ccp.specs.Showing as showing
use Rattle.cpm_ccp.specs.Laws.{command_now, IsMarked, KeepsMarks}
use Rattle.cpm_ccp.specs.Step.{looks_first, begun_by, command_in_mode}
use Rattle.cpm_ccp.specs.declared.command.Command.{Command as Typed}
use Rattle.cpm_ccp.specs.declared.command.Command.TheVariants as typed

-- the drives and the file control block of a call
abbrev IsLentProtected : Disks → ℕ → Type 0
IsLentProtected disks dr = own_drive disks (drive_named disks dr) ≡ None → disks.system.is_protected ≡ true

-- a call that keeps the protection of its drive and the drive of its file
record Keeps (call : Drive → OnDrive) (dr : ℕ) : Type 0 where
  protected : (drive : Drive) → (call drive).drive.marks.is_protected ≡ drive.marks.is_protected
  file : (drive : Drive) → (call drive).fcb.drive ≡ dr

ready_if : (b : Bool) (x y : Drive) → x.marks.is_protected ≡ true → y.marks.is_protected ≡ true → (if b then x else y).marks.is_protected ≡ true
ready_if true x y hx hy = hx
ready_if false x y hx hy = hy

system_ready : (disks : Disks) (system : Disk) → (ready (system_drive disks system)).marks.is_protected ≡ true
unfolding system_drive
system_ready disks system =
    ready_if (system_drive disks system).marks.is_logged_in _ _ refl refl

-- a drive of the session's own stays one
still_own : (drives : List (Option Drive)) (n : ℕ) (now : Drive) → is_some (get_or drives n None) ≡ true → get_or (set drives n (Some now)) n None ≡ None → ⊥
still_own drives n now is gone =
    elim (cases_lt n (length drives)) [
      | inl low ↦ let e = sym (get_or-set_same drives n (Some now) None low) ∙ gone in cc
      | inr past ↦ let e = sym (ap (λ (o : Option Drive). is_some o) (get_or_past drives n None past)) ∙ is in cc
    ]

none_of : (o : Option Drive) → is_some o ≡ false → o ≡ None
none_of None h = refl
none_of (Some drive) h = absurd cc

marked_if : (b : Bool) (x y : Disks) (dr : ℕ) → (b ≡ true → IsLentProtected x dr) → (b ≡ false → IsLentProtected y dr) → IsLentProtected (if b then x else y) dr
marked_if true x y dr hx hy = hx refl
marked_if false x y dr hx hy = hy refl

marked_with : (disks : Disks) (dr : ℕ) (drive : Drive) → (own_drive disks (drive_named disks dr) ≡ None → drive.marks.is_protected ≡ true) → IsLentProtected (with_drive disks (drive_named disks dr) drive) dr
unfolding with_drive own_drive drive_named
marked_with disks dr drive h =
    marked_if (is_some (own_drive disks (drive_named disks dr))) _ _ dr (λ is gone. absurd (still_own disks.drives (drive_named disks dr) drive is gone)) (λ is gone. h (none_of _ is))

module _ (call : Drive → OnDrive) (disks : Disks) (system : Disk) (dr : ℕ) (keeps : Keeps call dr) where
  call_protected : own_drive disks (drive_named disks dr) ≡ None → (call (ready (drive_at disks system (drive_named disks dr)))).drive.marks.is_protected ≡ true
  unfolding drive_at
  call_protected none =
      keeps.protected _ ∙ rw none (system_ready disks system)

  marked_there : IsLentProtected (with_drive disks (drive_named disks dr) (call (ready (drive_at disks system (drive_named disks dr)))).drive) (call (ready (drive_at disks system (drive_named disks dr)))).fcb.drive
  marked_there =
      rw (keeps.file (ready (drive_at disks system (drive_named disks dr)))) (marked_with disks dr (call (ready (drive_at disks system (drive_named disks dr)))).drive call_protected)

-- ---- TYPE's first step

opened_file : (fcb : Fcb) (index : ℕ) (o : Option Extent) → (after_open fcb index o).1.drive ≡ fcb.drive
unfolding after_open
opened_file fcb index None = refl
opened_file fcb index (Some extent) = refl

open_keeps : (user : ℕ) (fcb : Fcb) (buffer : List ℕ) → Keeps (open_file_on user fcb buffer) fcb.drive
unfolding open_file_on
open_keeps user fcb buffer = record { protected = λ drive. refl; file = λ drive. opened_file fcb _ _ }

marked_opened : (a : Result ℕ Failure) (s : Session) → IsMarked s → IsMarked (showing.after_type_open a s)
marked_opened (Err which) s h = h
marked_opened (Ok code) s h = session_if (code == 255) _ _ h h
  where
    session_if : (b : Bool) (x y : Session) → IsMarked x → IsMarked y → IsMarked (if b then x else y)
    session_if true x y hx hy = hx
    session_if false x y hx hy = hy

begun_if : (b : Bool) (c d : FileCall) (s : Session) → d.answer ≡ Err failure.Select → IsLentProtected c.disks c.fcb.drive → (showing.after_type_open (if b then c else d).answer (with_call s (if b then c else d))).mode ≡ Command part.Show → IsMarked (showing.after_type_open (if b then c else d).answer (with_call s (if b then c else d)))
begun_if true c d s e h shows = marked_opened c.answer (with_call s c) h
begun_if false c d s e h shows = absurd (let x = rw e at shows in cc)

pub marked_begun : (system : Disk) (file : Fcb) (s : Session) → (show_begun system file s).mode ≡ Command part.Show → IsMarked (show_begun system file s)
unfolding show_begun open_file on_named_drive
marked_begun system file s shows =
    begun_if (is_there s.disks (drive_named s.disks file.drive)) _ _ s refl (marked_there (open_file_on s.disks.user file own_record) s.disks system file.drive (open_keeps s.disks.user file own_record)) shows

-- ---- and each record

read_keeps : (user : ℕ) (fcb : Fcb) (buffer : List ℕ) → Keeps (read_next_on user fcb buffer) fcb.drive
unfolding read_next_on after_call drive_after
read_keeps user fcb buffer = record { protected = λ drive. refl; file = λ drive. refl }

marked_read : (a : Result ℕ Failure) (bytes : List ℕ) (s : Session) → IsMarked s → IsMarked (after_type_read a bytes s)
marked_read (Err which) bytes s h = h
marked_read (Ok code) bytes s h =
    session_if (code == 0) _ _ (session_if (ends_in bytes) _ _ h h) h
  where
    session_if : (b : Bool) (x y : Session) → IsMarked x → IsMarked y → IsMarked (if b then x else y)
    session_if true x y hx hy = hx
    session_if false x y hx hy = hy

called_if : (b : Bool) (c d : FileCall) → IsLentProtected c.disks c.fcb.drive → IsLentProtected d.disks d.fcb.drive → IsLentProtected (if b then c else d).disks (if b then c else d).fcb.drive
called_if true c d hc hd = hc
called_if false c d hc hd = hd

marked_call : (system : Disk) (s : Session) → IsMarked s → IsLentProtected (read_next s.disks system s.file own_record).disks (read_next s.disks system s.file own_record).fcb.drive
unfolding read_next on_named_drive
marked_call system s h =
    called_if (is_there s.disks (command_drive s)) _ _ (marked_there (read_next_on s.disks.user s.file own_record) s.disks system s.file.drive (read_keeps s.disks.user s.file own_record)) h

marked_next : (system : Disk) (s : Session) → IsMarked s → IsMarked (next_shown system s)
unfolding next_shown
marked_next system s h =
    let c = read_next s.disks system s.file own_record in
    marked_read c.answer (record_read c) (with_call s c) (marked_call system s h)

pub marked_shown : (system : Disk) (s : Session) → IsMarked s → IsMarked (shown_on system s)
unfolding shown_on
marked_shown system s h =
    shown_if (is_stopped s && shows_record (next_ahead s.disks system s.file)) _ _ h (marked_next system s h)
  where
    shown_if : (b : Bool) (x y : Session) → IsMarked x → IsMarked y → IsMarked (if b then x else y)
    shown_if true x y hx hy = hx
    shown_if false x y hx hy = hy

-- ---- steps

begun_marked : (stop : Bool) (held : StepResult) (command : Typed) (file : Fcb) (system : Disk) (s : Session) (m : Contents) → stop ≡ false → command ≡ typed.TypeFile file → (if stop && looks_first command then held else begun_by command system s m).session.mode ≡ Command part.Show → IsMarked (if stop && looks_first command then held else begun_by command system s m).session
begun_marked true held command file system s m stop is shows = absurd cc
begun_marked false held command file system s m stop is shows =
    rw is (marked_begun system file s (rw is at shows))

mode_begun : (mode : Mode) (file : Fcb) (system : Disk) (s : Session) (m : Contents) → mode ≡ Command part.Begin → command_now s ≡ typed.TypeFile file → is_stopped s ≡ false → (command_in_mode mode system s m).session.mode ≡ Command part.Show → IsMarked (command_in_mode mode system s m).session
mode_begun mode file system s m is command stop shows =
    rw is (begun_marked (is_stopped s) _ (command_now s) file system s m stop command (rw is at shows))

mode_shown : (mode : Mode) (system : Disk) (s : Session) (m : Contents) → mode ≡ Command part.Show → IsMarked s → IsMarked (command_in_mode mode system s m).session
mode_shown mode system s m is h = rw is (marked_shown system s h)

pub KeepsMarks-now : (system : Disk) (s : Session) (m : Contents) → KeepsMarks system s m
KeepsMarks-now system s m = record {
  opened = λ file is command stop shows. mode_begun s.mode file system s m is command stop shows;
  shown = λ is h. mode_shown s.mode system s m is h;
}
