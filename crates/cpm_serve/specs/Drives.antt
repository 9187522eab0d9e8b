-- The images of drives that are named: those with which a session is opened, and those that are written where it is closed. All of it is own.
use Rattle.std.specs.Prelude.{ℕ, ◌+◌, List, [], ◌∷◌, ◌++◌, length, codes, Option, Some, None, Result, Ok, Err, if◌then◌else◌}
use Rattle.std.specs.List.{concat}
use Rattle.std.specs.Str.{bytes_eq}
use Rattle.cpm_geom.specs.Disk.{Disk, blank_disk, disk_of}
use Rattle.cpm_geom.specs.Geometry.{format_of_length}
use Rattle.cpm_geom.specs.declared.format.Format.{Format}
use Rattle.cpm_geom.specs.declared.format.Format.TheVariants.{Ibm3740, Large}
use Rattle.cpm_machine.specs.MachineState.{MachineState}
use Rattle.cpm_slots.specs.Drives.{drive_image}
use Rattle.cpm_store.specs.Laws.{has_name_among}
use Rattle.cpm_store.specs.Writes.{NamedBytes}
use Rattle.cpm_protocol.specs.Requests.{FourNames}
use Rattle.cpm_protocol.specs.declared.word.WireRefusal.{WireRefusal}
use Rattle.cpm_protocol.specs.declared.word.WireRefusal.TheVariants as refusal
use Rattle.cpm_serve.specs.Folder.{FolderAccess, FolderAnswer, Failed, Given, Stored, read_access, read_refusal}

-- ---- drives that are read

-- the disk that a name is of, if it is of no file
abbrev pub disk_named : List ℕ → Option Disk
disk_named name =
    if bytes_eq name (codes "blank") then Some (blank_disk Ibm3740) else
    if bytes_eq name (codes "blank-large") then Some (blank_disk Large) else None

abbrev pub disk_in_format : Option Format → List ℕ → Result Disk WireRefusal
disk_in_format (Some f) bytes = Ok (disk_of f bytes)
disk_in_format None bytes = Err refusal.DamagedDisk

-- the disk that a file's bytes are, by their number
abbrev pub disk_of_file : List ℕ → Result Disk WireRefusal
disk_of_file bytes = disk_in_format (format_of_length (length bytes)) bytes

abbrev pub disk_answered : FolderAnswer → Result Disk WireRefusal
disk_answered (Given bytes) = disk_of_file bytes
disk_answered Stored = Err refusal.FileFault
disk_answered (Failed e) = Err (read_refusal e)

-- the drives so far or the first fault, what was asked for them, and the answers that are left
pub record DrivesRead : Type 0 where
  pub drives : Result (List Disk) WireRefusal
  pub accesses : List FolderAccess
  pub rest : List FolderAnswer

abbrev pub drives_state : Result (List Disk) WireRefusal → List FolderAccess → List FolderAnswer → DrivesRead
drives_state drives accesses rest = record { drives = drives; accesses = accesses; rest = rest }

abbrev pub one_more_disk : List Disk → Result Disk WireRefusal → Result (List Disk) WireRefusal
one_more_disk disks (Ok disk) = Ok (disks ++ disk ∷ [])
one_more_disk disks (Err why) = Err why

-- with the disk in a file; where the answers end, memory was refused
abbrev pub with_file_read : List ℕ → List Disk → List FolderAccess → List FolderAnswer → DrivesRead
with_file_read name disks log [] = drives_state (Err refusal.OutOfMemory) log []
with_file_read name disks log (a ∷ rest) = drives_state (one_more_disk disks (disk_answered a)) (log ++ read_access name a ∷ []) rest

abbrev pub with_disk : List ℕ → Option Disk → List Disk → List FolderAccess → List FolderAnswer → DrivesRead
with_disk name (Some blank) disks log rest = drives_state (Ok (disks ++ blank ∷ [])) log rest
with_disk name None disks log rest = with_file_read name disks log rest

-- behind a fault no more is asked
abbrev pub with_image_named : List ℕ → Result (List Disk) WireRefusal → List FolderAccess → List FolderAnswer → DrivesRead
with_image_named name (Ok disks) log rest = with_disk name (disk_named name) disks log rest
with_image_named name (Err why) log rest = drives_state (Err why) log rest

abbrev pub with_drive_named : Option (List ℕ) → DrivesRead → DrivesRead
with_drive_named None x = x
with_drive_named (Some name) x = with_image_named name x.drives x.accesses x.rest

abbrev pub none_read : List FolderAnswer → DrivesRead
none_read answers = drives_state (Ok []) [] answers

-- the drives of the names, one after another
abbrev pub drives_read : FourNames → List FolderAnswer → DrivesRead
drives_read n answers =
    with_drive_named n.d (with_drive_named n.c (with_drive_named n.b (with_drive_named n.a (none_read answers))))

abbrev pub some_count : Option (List ℕ) → ℕ
some_count None = 0
some_count (Some name) = 1

abbrev pub name_count : FourNames → ℕ
name_count n = some_count n.a + some_count n.b + some_count n.c + some_count n.d

-- ---- drives that are written

-- a name more and the disk for it; none where there is no such disk, or the name was there
abbrev pub with_output_of : List ℕ → Option Disk → Option (List NamedBytes) → Option (List NamedBytes)
with_output_of name (Some disk) (Some files) =
    if has_name_among name files then None else Some (files ++ (name, concat disk.sectors) ∷ [])
with_output_of name _ _ = None

abbrev pub with_output : Option (List ℕ) → Option Disk → Option (List NamedBytes) → Option (List NamedBytes)
with_output None disk files = files
with_output (Some name) disk files = with_output_of name disk files

-- the image of a drive of an open slot
abbrev pub session_image : MachineState → ℕ → Option Disk
session_image s drive = drive_image drive (Some s)

-- the images of the first drives, under the names; none where there are more names than drives, or a name stands twice
abbrev pub named_drive_outputs : FourNames → MachineState → Option (List NamedBytes)
named_drive_outputs n s =
    with_output n.d (session_image s 3) (with_output n.c (session_image s 2)
    (with_output n.b (session_image s 1) (with_output n.a (session_image s 0) (Some []))))
