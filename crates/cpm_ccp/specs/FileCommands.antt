-- ERA, REN and SAVE: CP/M 2.2 Operating System Manual, section 1.4, Built-in Commands.
use Rattle.std.specs.Prelude.{ℕ, ◌+◌, ◌-◌, ◌*◌, ◌%◌, ◌==◌, ◌&&◌, ◌||◌, Bool, nat_lt, List, length, slice_index, None, Result, Ok, Err, if◌then◌else◌}
use Rattle.cpm_geom.specs.Disk.{Disk}
use Rattle.cpm_geom.specs.Geometry.{dpb_of}
use Rattle.cpm_volume.specs.declared.fcb.Fcb.{Fcb}
use Rattle.cpm_volume.specs.declared.answer.Fault.{Fault}
use Rattle.cpm_directory.specs.Directory.{entries_of}
use Rattle.cpm_directory.specs.Matching.{match_from}
use Rattle.cpm_directory.specs.declared.pattern.Pattern.TheVariants.{Files}
use Rattle.cpm_drives.specs.declared.disks.Disks.{Disks}
use Rattle.cpm_drives.specs.Disks.{is_there, drive_at}
use Rattle.cpm_drives.specs.Selecting.{drive_in_use}
use Rattle.cpm_drives.specs.Calls.{drive_named}
use Rattle.cpm_drives.specs.Files.{close_file, make_file, erase_files, rename_files, write_next}
use Rattle.cpm_bdos.specs.Faults.{in_fault}
use Rattle.cpm_bdos.specs.declared.session.Session.{Session}
use Rattle.cpm_bdos.specs.declared.session.CommandPart.{CommandPart}
use Rattle.cpm_bdos.specs.declared.session.CommandPart.TheVariants as part
use Rattle.cpm_ccp.specs.declared.message.Message.TheVariants as message
use Rattle.cpm_ccp.specs.Parts.{at_part, finished, says_below, message_told, reads_line, own_record, on_file, failed, with_call_disks, with_call}
use Rattle.cpm_ccp.specs.Message.{message_text}

-- ERA and REN end by the code of their function: FFh is that no file has the name
abbrev pub by_code : Result ℕ Fault → ℕ → Session → Session
by_code (Err which) drive s = in_fault s which drive
by_code (Ok code) drive s = if code == 0xFF then message_told s message.NoFile else finished s

-- ---- ERA

-- function 19
unfoldable pub erased : Disk → Fcb → Session → Session
erased system file s =
    let c = erase_files s.disks system file own_record in
    by_code c.answer (drive_named s.disks file.drive) (with_call_disks s c.disks)

-- all files are asked for: a line is the answer
abbrev pub all_files_asked : Fcb → Session → Session
all_files_asked file s =
    reads_line (says_below (on_file s file) (message_text message.EraseAll)) part.Answer

-- own: the first character of the answer counts
abbrev pub is_yes : List ℕ → Bool
is_yes answer = (slice_index answer 0 == 0x59) || (slice_index answer 0 == 0x79)

unfoldable pub erased_all : Disk → Session → Session
erased_all system s = if is_yes s.line.characters then erased system s.file s else finished s

-- ---- REN

-- the user has the name, in any entry
unfoldable pub is_name_taken : Disk → Disks → Fcb → Bool
is_name_taken system disks file =
    let image = (drive_at disks system (drive_named disks file.drive)).image in
    nat_lt (match_from (dpb_of image.format) (Files disks.user file.extent.name None) (entries_of image) 0) (length (entries_of image))

-- a file has the new name, on a drive that is there
abbrev pub has_new_name : Disk → Disks → Fcb → Bool
has_new_name system disks new =
    is_there disks (drive_named disks new.drive) && is_name_taken system disks new

-- function 23
unfoldable pub renamed : Disk → Fcb → Fcb → Session → Session
renamed system old new s =
    let c = rename_files new.extent.name s.disks system old own_record in
    if has_new_name system s.disks new
    then message_told (with_call_disks s (drive_in_use s.disks system (drive_named s.disks new.drive))) message.FileExists
    else by_code c.answer (drive_named s.disks old.drive) (with_call_disks s c.disks)

-- ---- SAVE

-- the records that are left, and then the close
abbrev pub saving : ℕ → ℕ → CommandPart
saving next left = if left == 0 then part.Close else part.Save next left

abbrev pub after_save_make : Result ℕ Fault → ℕ → Session → Session
after_save_make (Err which) pages s = failed which s
after_save_make (Ok code) pages s = if code == 0xFF then message_told s message.NoSpace else at_part s (saving 256 (2 * pages))

-- function 22
unfoldable pub file_made : Disk → ℕ → Session → Session
file_made system pages s =
    let c = make_file s.disks system s.file own_record in after_save_make c.answer pages (with_call s c)

abbrev pub after_erase : Result ℕ Fault → Disk → ℕ → Session → Session
after_erase (Err which) system pages s = failed which s
after_erase (Ok code) system pages s = file_made system pages s

-- function 19 in front of it
unfoldable pub save_begun : Disk → ℕ → Fcb → Session → Session
save_begun system pages file s =
    let c = erase_files s.disks system file own_record in
    after_erase c.answer system pages (with_call_disks (on_file s file) c.disks)

abbrev pub after_save_write : Result ℕ Fault → ℕ → ℕ → Session → Session
after_save_write (Err which) next left s = failed which s
after_save_write (Ok code) next left s =
    if code == 0 then at_part s (saving ((next + 128) % 65536) (left - 1)) else message_told s message.NoSpace

-- function 21, of the record at an address; own: after NO SPACE the file isn't closed
unfoldable pub saved : Disk → ℕ → ℕ → List ℕ → Session → Session
saved system next left bytes s =
    let c = write_next s.disks system s.file bytes in after_save_write c.answer next left (with_call s c)

abbrev pub after_save_close : Result ℕ Fault → Session → Session
after_save_close (Err which) s = failed which s
after_save_close (Ok code) s = finished s

-- function 16
unfoldable pub file_closed : Disk → Session → Session
file_closed system s =
    let c = close_file s.disks system s.file own_record in after_save_close c.answer (with_call s c)
