-- What the calls on all entries of a name leave, and a search.
use Rattle.std.specs.Prelude.{ℕ, ◌/◌, if◌then◌else◌, nat_lt, List, [], Option, Some, None, Result, Ok, Err, length, slice_index_or}
use Rattle.cpm_geom.specs.Geometry.{dpb_of}
use Rattle.cpm_geom.specs.Disk.{Disk, records_of}
use Rattle.cpm_volume.specs.declared.extent.Entry.{Entry}
use Rattle.cpm_volume.specs.declared.answer.Fault.{Fault}
use Rattle.cpm_volume.specs.declared.answer.Fault.TheVariants.{FileReadOnly}
use Rattle.cpm_volume.specs.Names.{NameOutcome, none_named, file_read_only, named, deletion, renaming, marking}
use Rattle.cpm_directory.specs.declared.pattern.Pattern.{Pattern}
use Rattle.cpm_directory.specs.Matching.{match_from}
use Rattle.cpm_directory.specs.Directory.{entries_of}
use Rattle.cpm_drive.specs.declared.drive.Drive.{Drive}
use Rattle.cpm_drive.specs.declared.named.Alteration.{Alteration}
use Rattle.cpm_drive.specs.declared.named.Alteration.TheVariants.{Deletion, Renaming, Marking}
use Rattle.cpm_drive.specs.Drive.{directory_code, drive_after}

-- what becomes of an entry
abbrev pub altered : Alteration → Entry → Entry
altered Deletion e = deletion e
altered (Renaming name) e = renaming name e
altered (Marking name) e = marking name e

-- DELETE FILE, RENAME FILE, SET FILE ATTRIBUTES: the code of the first entry, none where there is none, or a fault; and the drive then
unfoldable pub after_named : Drive → NameOutcome → Result (Option ℕ) Fault × Drive
after_named drive none_named = (Ok None, drive)
after_named drive file_read_only = (Err FileReadOnly, drive)
after_named drive (named first v) = (Ok (Some (directory_code first)), drive_after drive v)

-- SEARCH FOR FIRST, SEARCH FOR NEXT: the first entry from a place on that is looked for; its record of the directory lies in the buffer then
unfoldable pub searched : Disk → Pattern → ℕ → List ℕ → Option ℕ × List ℕ
searched disk pattern from buffer =
    let i = match_from (dpb_of disk.format) pattern (entries_of disk) from in
    if nat_lt i (length (entries_of disk)) then (Some i, slice_index_or (records_of disk) (i / 4) []) else (None, buffer)
