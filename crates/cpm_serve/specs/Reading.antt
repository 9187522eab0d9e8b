-- What is promised of the parts of requests that need files. All of it is own.
use Rattle.std.specs.Prelude.{⊤, ℕ, ◌≡◌, ◌⊎◌, ◌++◌, List, [], map, Bool, true, false, Option, Some, None, Result, Ok, Err, Vec, if◌then◌else◌}
use Rattle.std.specs.declared.alloc.Global.{Global}
use Rattle.cpm_geom.specs.Disk.{Disk}
use Rattle.cpm_slots.specs.declared.event.HostRestoreError.{HostRestoreError}
use Rattle.cpm_slots.specs.declared.event.SlotId.{SlotId}
use Rattle.cpm_store.specs.Writes.{NamedBytes, named_output}
use Rattle.cpm_store.specs.declared.writes.Output.{Output}
use Rattle.cpm_protocol.specs.Replies.{Answered, Opened, Refused, Text}
use Rattle.cpm_protocol.specs.declared.word.WireRefusal.{WireRefusal}
use Rattle.cpm_protocol.specs.declared.word.WireRefusal.TheVariants as refusal
use Rattle.cpm_serve.specs.DriveFiles.{DiskWork}
use Rattle.cpm_serve.specs.Drives.{DrivesRead, disk_answered, disk_named, drives_state, with_drive_named}
use Rattle.cpm_serve.specs.Folder.{AccessesLead, AreNoFolderWrites, FolderAccess, FolderAnswer, Failed, Given, Stored, hold_access, read_access}
use Rattle.cpm_serve.specs.Folder.{first_answer, write_refusal}
use Rattle.cpm_serve.specs.ServedWith.{accesses_of_outputs, restore_refusal}

-- ---- drives that are read

-- the disk in a file, by what the folder answered
pub record IsFileDisk {F : Type 0} (does : F → FolderAccess → F → Type 0) (name : List ℕ) (from to : F) (r : Result Disk WireRefusal) : Type 0 where
  pub answer : FolderAnswer
  pub did : does from (read_access name answer) to
  pub is : r ≡ disk_answered answer

-- and of one that is replaced next
pub record IsHeldDisk {F : Type 0} (does : F → FolderAccess → F → Type 0) (name : List ℕ) (from to : F) (r : Result Disk WireRefusal) : Type 0 where
  pub answer : FolderAnswer
  pub did : does from (hold_access name answer) to
  pub is : r ≡ disk_answered answer

-- memory was refused
abbrev pub IsLacked : {A : Type 0} → Result A WireRefusal → Type 0
IsLacked r = r ≡ Err refusal.OutOfMemory

abbrev pub IsDriveReadOf : {F : Type 0} → (F → FolderAccess → F → Type 0) → List ℕ → Option Disk → (from to : F) → Result Disk WireRefusal → Type 0
IsDriveReadOf {F} does name (Some blank) from to r = (from ≡ to) × ((r ≡ Ok blank) ⊎ IsLacked r)
IsDriveReadOf {F} does name None from to r = IsFileDisk does name from to r

-- the disk that a name is of: a blank one, or that in a file
abbrev pub IsDriveRead : {F : Type 0} → (F → FolderAccess → F → Type 0) → List ℕ → (from to : F) → Result Disk WireRefusal → Type 0
IsDriveRead {F} does name from to r = IsDriveReadOf does name (disk_named name) from to r

-- the images that the code has
abbrev pub images_had : Result (Vec Disk Global) WireRefusal → Result (List Disk) WireRefusal
images_had (Ok drives) = Ok drives.items
images_had (Err why) = Err why

-- Drives were read with these answers, by a reading; `all` says that what is left over is left. Or memory was refused, and no answer is left.
pub record AreReadWith {F : Type 0} (does : F → FolderAccess → F → Type 0) (read : List FolderAnswer → DrivesRead) (r : Result (List Disk) WireRefusal)
    (from to : F) (answers : List FolderAnswer) (log : List FolderAccess) : Type 0 where
  pub leads : AccessesLead does from to log
  pub unwritten : AreNoFolderWrites log
  pub is : ((more : List FolderAnswer) → read (answers ++ more) ≡ drives_state r log more)
      ⊎ (IsLacked r × ((read answers).accesses ≡ log) × ((read answers).rest ≡ []))

abbrev pub AreNamedDrivesRead : {F : Type 0} → (F → FolderAccess → F → Type 0) → (List FolderAnswer → DrivesRead) → Result (List Disk) WireRefusal
    → (from to : F) → Type 0
AreNamedDrivesRead {F} does read r from to =
    (answers : List FolderAnswer) × (log : List FolderAccess) × AreReadWith does read r from to answers log

-- a name more, whatever was read before
abbrev pub IsOneDriveMore : {F : Type 0} → (F → FolderAccess → F → Type 0) → Option (List ℕ) → (before after : Result (List Disk) WireRefusal)
    → (from to : F) → Type 0
IsOneDriveMore {F} does name before after from to =
    (read : List FolderAnswer → DrivesRead) (start : F) → AreNamedDrivesRead does read before start from
    → AreNamedDrivesRead does (λ answers. with_drive_named name (read answers)) after start to

-- ---- drives that are written

abbrev pub outputs_had : Result (Vec Output Global) WireRefusal → Result (List NamedBytes) WireRefusal
outputs_had (Ok files) = Ok (map named_output files.items)
outputs_had (Err why) = Err why

abbrev pub or_bad_drives : Option (List NamedBytes) → Result (List NamedBytes) WireRefusal
or_bad_drives (Some files) = Ok files
or_bad_drives None = Err refusal.BadDrives

abbrev pub AreMade : Option (List NamedBytes) → Result (List NamedBytes) WireRefusal → Type 0
AreMade wanted r = (r ≡ or_bad_drives wanted) ⊎ IsLacked r

abbrev pub written_result : FolderAnswer → Result ⊤ WireRefusal
written_result (Given bytes) = Err refusal.FileFault
written_result Stored = Ok tt
written_result (Failed e) = Err (write_refusal e)

abbrev pub outputs_written : Option (List NamedBytes) → List FolderAnswer → Result ⊤ WireRefusal
outputs_written None answers = Err refusal.BadDrives
outputs_written (Some files) answers = written_result (first_answer answers)

-- the images of a slot's drives, if there are as many, were written under names; unless there is no name
pub record AreOutputsWritten {F : Type 0} (does : F → FolderAccess → F → Type 0) (no_name : Bool) (wanted : Option (List NamedBytes)) (from to : F)
    (r : Result ⊤ WireRefusal) : Type 0 where
  pub lacked : Bool
  pub answers : List FolderAnswer
  pub is : r ≡ (if lacked then Err refusal.OutOfMemory else if no_name then Ok tt else outputs_written wanted answers)
  pub named : lacked ≡ true → no_name ≡ false
  pub leads : AccessesLead does from to (if no_name then [] else accesses_of_outputs wanted answers)
  pub unwritten : lacked ≡ true → AreNoFolderWrites (if no_name then [] else accesses_of_outputs wanted answers)

-- ---- replies

-- the reply to a restoring that a host made, or refused
abbrev pub restore_result : Result SlotId HostRestoreError → Answered
restore_result (Ok id) = Opened id.0
restore_result (Err e) = Refused (restore_refusal e)

-- what the code made of a disk
abbrev pub text_work : Result (Vec ℕ Global) WireRefusal → DiskWork
text_work (Ok bytes) = Ok bytes.items
text_work (Err why) = Err why

abbrev pub work_answer : DiskWork → Answered
work_answer (Ok text) = Text text
work_answer (Err why) = Refused why
