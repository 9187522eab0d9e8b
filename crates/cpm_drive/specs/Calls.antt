-- What the calls that close, open and make a file leave, and a login.
use Rattle.std.specs.Prelude.{true, ℕ, ◌%◌, List, Option, Some, None, Result, Ok, Err}
use Rattle.cpm_geom.specs.declared.dpb.Dpb.{Dpb}
use Rattle.cpm_volume.specs.declared.extent.Extent.{Extent}
use Rattle.cpm_volume.specs.declared.extent.Entry.{Entry}
use Rattle.cpm_volume.specs.declared.fcb.Fcb.{Fcb}
use Rattle.cpm_volume.specs.declared.answer.Fault.{Fault}
use Rattle.cpm_volume.specs.Files.{group_of, first_match}
use Rattle.cpm_volume.specs.Operations.{Close, refused, close_fault, closed, with_entry}
use Rattle.cpm_geom.specs.Geometry.{dpb_of}
use Rattle.cpm_geom.specs.Disk.{Disk}
use Rattle.cpm_directory.specs.Directory.{entries_of}
use Rattle.cpm_directory.specs.Login.{reserved_at_login}
use Rattle.cpm_drive.specs.declared.drive.Drive.{Drive}
use Rattle.cpm_drive.specs.declared.drive.Marks.{Marks}
use Rattle.cpm_drive.specs.Drive.{directory_code, volume_of, drive_after}

-- what a close leaves: its directory code or none, or its fault, the drive and the file control block
pub record ClosedFile : Type 0 where
  pub code : Result (Option ℕ) Fault
  pub drive : Drive
  pub fcb : Fcb

abbrev pub closed_file : Result (Option ℕ) Fault → Drive → Fcb → ClosedFile
closed_file code drive fcb = record { code = code; drive = drive; fcb = fcb }

-- what a close answers, and the file control block then
unfoldable pub close_answer : Fcb → Close → Result (Option ℕ) Fault × Fcb
close_answer fcb refused = (Ok None, fcb)
close_answer fcb (close_fault which) = (Err which, fcb)
close_answer fcb (closed index entries extent) = (Ok (Some (directory_code index)), record fcb { extent = extent })

-- the drive then
unfoldable pub drive_closed : Drive → Close → Drive
drive_closed drive refused = drive
drive_closed drive (close_fault which) = drive
drive_closed drive (closed index entries extent) =
    drive_after drive (with_entry (volume_of drive.image drive.marks.reserved) index entries)

-- CLOSE FILE
unfoldable pub after_close : Drive → Fcb → Close → ClosedFile
after_close drive fcb close =
    closed_file (close_answer fcb close).0 (drive_closed drive close) (close_answer fcb close).1

-- what an open leaves: its directory code or none, and the file control block
unfoldable pub after_open : Fcb → ℕ → Option Extent → Option ℕ × Fcb
after_open fcb index None = (None, fcb)
after_open fcb index (Some extent) = (Some (directory_code index), record fcb { extent = extent })

-- the entry that an open is of
unfoldable pub open_index : Dpb → List Entry → ℕ → Extent → ℕ
open_index d es user x = first_match d es user x.name (group_of d (x.ex % 32))

-- what a make leaves: its directory code or none, the drive and the file control block
pub record MadeFile : Type 0 where
  pub code : Option ℕ
  pub drive : Drive
  pub fcb : Fcb

abbrev pub made_file : Option ℕ → Drive → Fcb → MadeFile
made_file code drive fcb = record { code = code; drive = drive; fcb = fcb }

-- MAKE FILE, where the first entry that is not in use is at an index
unfoldable pub after_make : Drive → Fcb → ℕ → Option (List Entry × Extent) → MadeFile
after_make drive fcb index None = made_file None drive fcb
after_make drive fcb index (Some made) =
    made_file (Some (directory_code index))
    (drive_after drive (with_entry (volume_of drive.image drive.marks.reserved) index made.0)) (record fcb { extent = made.1 })

-- the marks of a drive that is logged in
abbrev pub logged_in_marks : Disk → Marks → Marks
logged_in_marks disk marks =
    record marks { reserved = reserved_at_login (dpb_of disk.format) (entries_of disk); is_logged_in = true }

-- a drive that is logged in
abbrev pub logged_in : Drive → Drive
logged_in drive = record drive { marks = logged_in_marks drive.image drive.marks }
