-- Files on a drive that no session has. All of it is own: docs/PROTOCOL.md.
use Rattle.std.specs.Prelude.{⊤, ◌≡◌, ℕ, ◌==◌, List, [], ◌∷◌, ◌++◌, length, false, Option, Some, None, option_map, Result, Ok, Err}
use Rattle.std.specs.Prelude.{if◌then◌else◌}
use Rattle.std.specs.List.{concat}
use Rattle.cpm_geom.specs.Disk.{Disk}
use Rattle.cpm_disk_commands.specs.Listing.{seen_name}
use Rattle.cpm_disk_commands.specs.Names.{one_name, with_marks}
use Rattle.cpm_image_files.specs.ImageFiles.{IsPut, IsPutRefusal, records_for}
use Rattle.cpm_image_files.specs.Listing.{IsListRefusal, IsListed}
use Rattle.cpm_image_files.specs.Taken.{IsGetRefusal, IsGot}
use Rattle.cpm_image_files.specs.declared.listing.DiskFile.{DiskFile}
use Rattle.cpm_image_files.specs.declared.listing.DiskListing.{DiskListing}
use Rattle.cpm_image_files.specs.declared.refusal.FileRefusal.{FileRefusal}
use Rattle.cpm_image_files.specs.declared.refusal.FileRefusal.TheVariants as reason
use Rattle.cpm_image_files.specs.declared.refusal.ImageFilesError.{ImageFilesError}
use Rattle.cpm_image_files.specs.declared.refusal.ImageFilesError.TheVariants as fault
use Rattle.cpm_protocol.specs.Replies.{Answered, Refused, Text, Written}
use Rattle.cpm_protocol.specs.declared.word.WireRefusal.{WireRefusal}
use Rattle.cpm_protocol.specs.declared.word.WireRefusal.TheVariants as refusal
use Rattle.cpm_serve.specs.Drives.{disk_answered}
use Rattle.cpm_serve.specs.Folder.{FolderAccess, FolderAnswer, Failed, Given, Released, Stored, first_answer, hold_access, one_read, one_write, write_refusal}

-- What the work on a disk makes: bytes, or why it is not done. It is part of an event; what it is says `IsDiskWork`.
abbrev pub DiskWork : Type 0
DiskWork = Result (List ℕ) WireRefusal

-- where none is done
abbrev pub no_work : DiskWork
no_work = Ok []

-- the name that a text is of, without attributes
abbrev pub disk_file_name : List ℕ → Option (List ℕ)
disk_file_name text = option_map (with_marks false false) (one_name text)

-- ---- refusals

abbrev pub file_refusal : FileRefusal → WireRefusal
file_refusal reason.ReadOnly = refusal.ReadOnly
file_refusal reason.DirectoryFull = refusal.DirectoryFull
file_refusal reason.DiskFull = refusal.DiskFull
file_refusal reason.NoFile = refusal.NoFile
file_refusal reason.Exists = refusal.Exists

abbrev pub disk_refusal : ImageFilesError → WireRefusal
disk_refusal (fault.Damaged damage) = refusal.DamagedDisk
disk_refusal (fault.Refused why) = file_refusal why
disk_refusal fault.OutOfMemory = refusal.OutOfMemory

-- a reason of this kind, as a reply says it
abbrev pub IsDriveFileRefusal : (ImageFilesError → Type 0) → WireRefusal → Type 0
IsDriveFileRefusal Is why = (e : ImageFilesError) × Is e × (why ≡ disk_refusal e)

-- ---- what the work makes

-- the image of the disk with a file of this text, of user 0
abbrev pub IsPutWork : (text : List ℕ) → Disk → (name : List ℕ) → DiskWork → Type 0
IsPutWork text disk name (Ok image) = (new : Disk) × IsPut disk 0 name text new × (image ≡ concat new.sectors)
IsPutWork text disk name (Err why) = IsDriveFileRefusal (IsPutRefusal disk 0 name (records_for (length text))) why

-- the bytes of a file
abbrev pub IsGetWork : Disk → (name : List ℕ) → DiskWork → Type 0
IsGetWork disk name (Ok text) = IsGot disk 0 name text
IsGetWork disk name (Err why) = IsDriveFileRefusal (IsGetRefusal disk 0 name) why

-- a line for each file of user 0, in their order
unfoldable pub name_line : DiskFile → List ℕ
name_line file = if file.user == 0 then seen_name file.name ++ 0x0A ∷ [] else []

unfoldable pub name_lines : List DiskFile → List ℕ
name_lines [] = []
name_lines (file ∷ files) = name_line file ++ name_lines files

abbrev pub IsListWork : Disk → DiskWork → Type 0
IsListWork disk (Ok text) = (listing : DiskListing) × IsListed disk listing × (text ≡ name_lines listing.files.items)
IsListWork disk (Err why) = IsDriveFileRefusal (IsListRefusal disk) why

-- of the disk in a file, and of the file that a name is of, if both are there
abbrev pub OfNamed : (Disk → List ℕ → DiskWork → Type 0) → Option (List ℕ) → Result Disk WireRefusal → DiskWork → Type 0
OfNamed Is (Some name) (Ok disk) made = Is disk name made
OfNamed Is _ _ made = ⊤

abbrev pub OfDisk : (Disk → DiskWork → Type 0) → Result Disk WireRefusal → DiskWork → Type 0
OfDisk Is (Ok disk) made = Is disk made
OfDisk Is (Err why) made = ⊤

-- ---- replies

-- so many bytes were to be written
abbrev pub stored_answer : ℕ → FolderAnswer → Answered
stored_answer count (Given bytes) = Refused refusal.FileFault
stored_answer count Stored = Written count
stored_answer count (Failed e) = Refused (write_refusal e)

abbrev pub text_made : Result Disk WireRefusal → DiskWork → Answered
text_made (Err why) made = Refused why
text_made (Ok disk) (Ok text) = Text text
text_made (Ok disk) (Err why) = Refused why

-- a text is no name of a file
abbrev pub got_answer : Option (List ℕ) → List FolderAnswer → DiskWork → Answered
got_answer None answers made = Refused refusal.BadName
got_answer (Some name) answers made = text_made (disk_answered (first_answer answers)) made

abbrev pub got_accesses : (drive : List ℕ) → Option (List ℕ) → List FolderAnswer → List FolderAccess
got_accesses drive None answers = []
got_accesses drive (Some name) answers = one_read drive answers

abbrev pub put_made : ℕ → Result Disk WireRefusal → DiskWork → List FolderAnswer → Answered
put_made count (Err why) made rest = Refused why
put_made count (Ok disk) (Err why) rest = Refused why
put_made count (Ok disk) (Ok image) rest = stored_answer count (first_answer rest)

abbrev pub answers_behind : List FolderAnswer → List FolderAnswer
answers_behind [] = []
answers_behind (a ∷ rest) = rest

abbrev pub put_answer : ℕ → Option (List ℕ) → List FolderAnswer → DiskWork → Answered
put_answer count None answers made = Refused refusal.BadName
put_answer count (Some name) answers made = put_made count (disk_answered (first_answer answers)) made (answers_behind answers)

-- the file is written, or it is let go
abbrev pub put_writes : (drive : List ℕ) → Result Disk WireRefusal → DiskWork → List FolderAnswer → List FolderAccess
put_writes drive (Ok disk) (Ok image) rest = one_write ((drive, image) ∷ []) rest
put_writes drive (Ok disk) (Err why) rest = Released ∷ []
put_writes drive (Err why) made rest = Released ∷ []

abbrev pub held_accesses : (drive : List ℕ) → List FolderAnswer → DiskWork → List FolderAccess
held_accesses drive [] made = []
held_accesses drive (a ∷ rest) made = hold_access drive a ∷ put_writes drive (disk_answered a) made rest

abbrev pub put_accesses : (drive : List ℕ) → Option (List ℕ) → List FolderAnswer → DiskWork → List FolderAccess
put_accesses drive None answers made = []
put_accesses drive (Some name) answers made = held_accesses drive answers made
