-- DIR: CP/M 2.2 Operating System Manual, section 1.4, Built-in Commands.
use Rattle.std.specs.Prelude.{ℕ, ◌+◌, ◌%◌, ◌==◌, ◌&&◌, ◌||◌, Bool, false, not, nat_le, nat_lt, List, []}
use Rattle.std.specs.Prelude.{◌∷◌, ◌++◌, length, map, take, drop, slice_index, slice_range, if◌then◌else◌}
use Rattle.std.specs.List.{position_or_len}
use Rattle.cpm_geom.specs.Disk.{Disk}
use Rattle.cpm_geom.specs.Geometry.{dpb_of}
use Rattle.cpm_geom.specs.declared.dpb.Dpb.{Dpb}
use Rattle.cpm_volume.specs.declared.extent.Entry.{Entry}
use Rattle.cpm_volume.specs.declared.answer.Fault.TheVariants.{Select}
use Rattle.cpm_volume.specs.Files.{entry_at}
use Rattle.cpm_volume.specs.Names.{is_named}
use Rattle.cpm_directory.specs.Directory.{entries_of}
use Rattle.cpm_drives.specs.Disks.{is_there, drive_at}
use Rattle.cpm_drives.specs.Selecting.{drive_in_use}
use Rattle.cpm_bdos.specs.Faults.{in_fault}
use Rattle.cpm_bdos.specs.declared.session.Session.{Session}
use Rattle.cpm_bdos.specs.declared.session.CommandPart.TheVariants as part
use Rattle.cpm_ccp.specs.declared.message.Message.TheVariants.{NoFile}
use Rattle.cpm_ccp.specs.Parts.{at_part, finished, says, message_told, is_stopped, held_at_part, command_drive, with_call_disks}

-- own: the high bit of the type's second character marks a system file
abbrev pub is_system : List ℕ → Bool
is_system name = nat_le 128 (slice_index name 9)

-- a file is listed by its first entry; own: EX and S2 are looked at as they are, and S2 is 0; system files aren't listed
unfoldable pub is_listed : Dpb → ℕ → List ℕ → Entry → Bool
is_listed d user pattern e =
    is_named user pattern e && (nat_le e.extent.ex d.extent_mask && ((e.extent.s2 == 0) && not (is_system e.extent.name)))

-- the index of the first entry from a place on that is listed; the number of entries where there is none
unfoldable pub listed_from : Dpb → ℕ → List ℕ → List Entry → ℕ → ℕ
listed_from d user pattern es from =
    if nat_lt from (length es) then from + position_or_len (is_listed d user pattern) (drop from es) else length es

-- own: four files on a line; in front of the first a fresh line, the drive's letter and a colon, in front of the others a colon
abbrev pub before_file : ℕ → ℕ → List ℕ
before_file column drive =
    if column == 0 then 0x0D ∷ 0x0A ∷ (0x41 + drive % 16) ∷ 0x3A ∷ 0x20 ∷ [] else 0x20 ∷ 0x3A ∷ 0x20 ∷ []

abbrev pub low_seven : ℕ → ℕ
low_seven c = c % 128

-- the name, a space and the type
unfoldable pub file_text : ℕ → ℕ → List ℕ → List ℕ
file_text column drive name =
    before_file column drive ++ (map low_seven (take 8 name) ++ (0x20 ∷ map low_seven (slice_range name 8 11)))

-- the entries of the drive that is listed, and the next one
abbrev pub entries_listed : Disk → Session → List Entry
entries_listed system s = entries_of (drive_at s.disks system (command_drive s)).image

unfoldable pub next_listed : Disk → ℕ → Session → ℕ
next_listed system from s =
    listed_from (dpb_of (drive_at s.disks system (command_drive s)).image.format) s.disks.user s.file.extent.name (entries_listed system s) from

unfoldable pub has_next : Disk → ℕ → Session → Bool
has_next system from s = nat_lt (next_listed system from s) (length (entries_listed system s))

-- a file is shown, and the next entry is looked at then
abbrev pub file_shown : ℕ → ℕ → List ℕ → Session → Session
file_shown index column name s =
    at_part (says s (file_text column (command_drive s) name)) (part.Directory (index + 1) ((column + 1) % 4))

-- after the last file the listing ends; where there was none it says so
abbrev pub listing_ended : Bool → Session → Session
listing_ended is_first s = if is_first then message_told s NoFile else finished s

-- the drive is used by a listing
abbrev pub drive_used : Disk → Session → Session
drive_used system s = with_call_disks s (drive_in_use s.disks system (command_drive s))

-- one file from an entry on, or the end; own: a drive that is not there is a fault
unfoldable pub list_next : Disk → ℕ → ℕ → Bool → Session → Session
list_next system from column is_first s =
    if not (is_there s.disks (command_drive s)) then in_fault s Select (command_drive s)
    else if has_next system from s
    then file_shown (next_listed system from s) column (entry_at (entries_listed system s) (next_listed system from s)).extent.name (drive_used system s)
    else listing_ended is_first (drive_used system s)

-- own: a step that shows anything looks for ^S first, the end after files shows nothing
unfoldable pub shows_file : Disk → ℕ → Session → Bool
shows_file system from s = not (is_there s.disks (command_drive s)) || has_next system from s

unfoldable pub listed_on : Disk → ℕ → ℕ → Session → Session
listed_on system from column s =
    if is_stopped s && shows_file system from s then held_at_part s (part.Directory from column) else list_next system from column false s
