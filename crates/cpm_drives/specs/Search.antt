-- SEARCH FOR FIRST and SEARCH FOR NEXT.
-- CP/M 2.2 Operating System Manual, section 5.2, Operating System Call Conventions, functions 17 and 18; own: what the manual leaves open.
use Rattle.std.specs.Prelude.{ℕ, ◌+◌, ◌%◌, ◌==◌, List, Option, Some, None, Ok, Err, if◌then◌else◌, length}
use Rattle.cpm_geom.specs.Disk.{Disk}
use Rattle.cpm_geom.specs.Geometry.{dpb_of}
use Rattle.cpm_geom.specs.declared.dpb.Dpb.{Dpb}
use Rattle.cpm_volume.specs.declared.fcb.Fcb.{Fcb}
use Rattle.cpm_volume.specs.declared.answer.Fault.TheVariants.{Select}
use Rattle.cpm_volume.specs.Files.{group_of}
use Rattle.cpm_directory.specs.Directory.{entries_of}
use Rattle.cpm_directory.specs.declared.pattern.Pattern.{Pattern}
use Rattle.cpm_directory.specs.declared.pattern.Pattern.TheVariants.{Every, Files}
use Rattle.cpm_drive.specs.declared.drive.Drive.{Drive}
use Rattle.cpm_drive.specs.Drive.{directory_code}
use Rattle.cpm_drive.specs.Named.{searched}
use Rattle.cpm_drives.specs.declared.disks.Disks.{Disks}
use Rattle.cpm_drives.specs.declared.search.Search.{Search}
use Rattle.cpm_drives.specs.Disks.{is_there, drive_at}
use Rattle.cpm_drives.specs.Selecting.{drive_in_use}
use Rattle.cpm_drives.specs.Calls.{FileCall, file_call, drive_named}

-- a `?` as the extent: any extent, else that extent's group; own: with S2 as 0
abbrev pub group_sought : Dpb → ℕ → Option ℕ
group_sought d ex = if ex == 0x3F then None else Some (group_of d (ex % 32))

-- what a search looks for: every entry of the drive, or the user's that match
unfoldable pub pattern_of : Dpb → Search → ℕ → Pattern
pattern_of d sought user =
    if sought.is_every then Every else Files user sought.name (group_sought d sought.ex)

-- the search goes on after the entry that was found, whose directory record lies in the buffer and whose place in that is the code;
-- after the last it stays at the end
abbrev pub search_left : Search → ℕ → Disks → Fcb → Option ℕ → List ℕ → FileCall
search_left sought count disks fcb (Some index) buffer =
    file_call (Ok (directory_code index)) (record disks { sought = Some (record sought { next = index + 1 }) }) fcb buffer
search_left sought count disks fcb None buffer =
    file_call (Ok 0xFF) (record disks { sought = Some (record sought { next = count }) }) fcb buffer

-- it goes on from its place on a drive
unfoldable pub search_from : Drive → Search → Disks → Fcb → List ℕ → FileCall
search_from drive sought disks fcb buffer =
    let found = searched drive.image (pattern_of (dpb_of drive.image.format) sought disks.user) sought.next buffer in
    search_left sought (length (entries_of drive.image)) disks fcb found.0 found.1

-- and uses that drive
unfoldable pub search_on : Search → Disks → Disk → Fcb → List ℕ → FileCall
search_on sought disks system fcb buffer =
    search_from (drive_at disks system sought.drive) sought (drive_in_use disks system sought.drive) fcb buffer

-- SEARCH FOR FIRST: a `?` as the drive is every entry of the current drive; own: it is kept until the next one, or a warm boot
unfoldable pub search_of : Disks → Fcb → Search
search_of disks fcb =
    record {
      drive = if fcb.drive == 0x3F then disks.current else drive_named disks fcb.drive;
      is_every = fcb.drive == 0x3F;
      name = fcb.extent.name;
      ex = fcb.extent.ex;
      next = 0;
    }

unfoldable pub search_first : Disks → Disk → Fcb → List ℕ → FileCall
search_first disks system fcb buffer =
    if is_there disks (search_of disks fcb).drive then search_on (search_of disks fcb) disks system fcb buffer else file_call (Err Select) disks fcb buffer

-- SEARCH FOR NEXT: own: FFh without a search; the user is the current one
abbrev pub search_next_from : Option Search → Disks → Disk → Fcb → List ℕ → FileCall
search_next_from None disks system fcb buffer = file_call (Ok 0xFF) disks fcb buffer
search_next_from (Some sought) disks system fcb buffer = search_on sought disks system fcb buffer

unfoldable pub search_next : Disks → Disk → Fcb → List ℕ → FileCall
search_next disks system fcb buffer = search_next_from disks.sought disks system fcb buffer
