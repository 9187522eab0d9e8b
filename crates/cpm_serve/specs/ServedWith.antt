-- What a host does for a request, with what a folder answered, and what it asked of that. All of it is own: docs/PROTOCOL.md.
use Rattle.std.specs.Prelude.{⊤, ◌≡◌, ℕ, ◌&&◌, Bool, true, List, [], ◌∷◌, length, Option, Some, None, Result, Ok, Err, if◌then◌else◌}
use Rattle.cpm_flags.specs.declared.regs.Cpu.{Cpu}
use Rattle.cpm_geom.specs.Disk.{Disk}
use Rattle.cpm_saved.specs.declared.part.SavingDamage.{SavingDamage}
use Rattle.cpm_machine.specs.MachineState.{MachineState}
use Rattle.cpm_machine.specs.Saving.{Saving, bytes_of_saving, restored, saving_with}
use Rattle.cpm_machine.specs.SystemDigest.{system_digest}
use Rattle.cpm_machine.specs.declared.opening.OpenError.{OpenError}
use Rattle.cpm_slots.specs.Drives.{open_fault}
use Rattle.cpm_slots.specs.Host.{Host, restore_fault, slot_at, with_slot_restored}
use Rattle.cpm_slots.specs.Serving.{Ask, Closes}
use Rattle.cpm_slots.specs.declared.event.HostRestoreError.{HostRestoreError}
use Rattle.cpm_slots.specs.declared.event.HostRestoreError.TheVariants as restore
use Rattle.cpm_store.specs.Writes.{NamedBytes}
use Rattle.cpm_protocol.specs.Replies.{Answered, Opened, Refused}
use Rattle.cpm_protocol.specs.Requests.{FourNames, WireAsked, Open, Resume, Save, Close, Put, Get, Files}
use Rattle.cpm_protocol.specs.declared.word.WireRefusal.{WireRefusal}
use Rattle.cpm_protocol.specs.declared.word.WireRefusal.TheVariants as refusal
use Rattle.cpm_serve.specs.DriveFiles.{DiskWork, IsGetWork, IsListWork, IsPutWork, OfDisk, OfNamed, got_accesses, got_answer, put_accesses, put_answer}
use Rattle.cpm_serve.specs.DriveFiles.{disk_file_name, stored_answer, text_made}
use Rattle.cpm_serve.specs.Drives.{DrivesRead, disk_answered, drives_read, name_count, named_drive_outputs}
use Rattle.cpm_serve.specs.Folder.{AreNoFolderWrites, FolderAccess, FolderAnswer, Failed, Given, Stored, first_answer, one_read, one_write}
use Rattle.cpm_serve.specs.Folder.{read_refusal, write_refusal}
use Rattle.cpm_serve.specs.Seen.{open_refusal}
use Rattle.cpm_serve.specs.Served.{Served, after_asks, is_no_name, opened_with_disks, outcome, refused, served, takes_memory}
use Rattle.cpm_serve.specs.Slot.{asks_of, look_answer, slot_answer}

-- ---- openings

abbrev pub opened_read : Host → Cpu → ℕ → Result (List Disk) WireRefusal → Served
opened_read h cpu quota (Ok disks) = opened_with_disks h cpu quota disks
opened_read h cpu quota (Err why) = refused h why

-- what costs no file is seen to first
abbrev pub opened_if_fit : Option OpenError → Host → Cpu → ℕ → DrivesRead → Served
opened_if_fit None h cpu quota x = opened_read h cpu quota x.drives
opened_if_fit (Some fault) h cpu quota x = refused h (open_refusal fault)

abbrev pub opened_named : Host → Cpu → ℕ → FourNames → List FolderAnswer → Served
opened_named h cpu quota names answers = opened_if_fit (open_fault h quota (name_count names)) h cpu quota (drives_read names answers)

abbrev pub accesses_if_fit : Option OpenError → DrivesRead → List FolderAccess
accesses_if_fit None x = x.accesses
accesses_if_fit (Some fault) x = []

-- why no session goes on from a saving
abbrev pub restore_refusal : HostRestoreError → WireRefusal
restore_refusal (restore.Damaged damage) = refusal.Damaged
restore_refusal restore.OtherSystem = refusal.OtherSystem
restore_refusal restore.NoSlot = refusal.NoSlot
restore_refusal restore.NoFrames = refusal.NoFrames
restore_refusal restore.OutOfMemory = refusal.OutOfMemory

abbrev pub resumed_if : Option HostRestoreError → Host → Result Saving SavingDamage → Served
resumed_if None h x = record { host = with_slot_restored h x; reply = Opened h.openings }
resumed_if (Some fault) h x = refused h (restore_refusal fault)

abbrev pub resumed_of : Host → Result Saving SavingDamage → Served
resumed_of h x = resumed_if (restore_fault h x) h x

abbrev pub resumed_with : Host → FolderAnswer → Served
resumed_with h (Given bytes) = resumed_of h (restored bytes)
resumed_with h Stored = refused h refusal.FileFault
resumed_with h (Failed e) = refused h (read_refusal e)

-- ---- a slot

-- the bytes of a session's saving
abbrev pub session_saving : Disk → MachineState → List ℕ
session_saving system s = bytes_of_saving (saving_with (system_digest system) s)

-- it is closed where all was written
abbrev pub asks_when_stored : FolderAnswer → List Ask
asks_when_stored Stored = Closes ∷ []
asks_when_stored _ = []

abbrev pub closed_answer : MachineState → FolderAnswer → Answered
closed_answer s (Given bytes) = Refused refusal.FileFault
closed_answer s Stored = look_answer s
closed_answer s (Failed e) = Refused (write_refusal e)

abbrev pub asks_with_outputs : Option (List NamedBytes) → List FolderAnswer → List Ask
asks_with_outputs None answers = []
asks_with_outputs (Some files) answers = asks_when_stored (first_answer answers)

abbrev pub answer_with_outputs : MachineState → Option (List NamedBytes) → List FolderAnswer → Answered
answer_with_outputs s None answers = Refused refusal.BadDrives
answer_with_outputs s (Some files) answers = closed_answer s (first_answer answers)

abbrev pub accesses_of_outputs : Option (List NamedBytes) → List FolderAnswer → List FolderAccess
accesses_of_outputs None answers = []
accesses_of_outputs (Some files) answers = one_write files answers

-- what is asked of a slot that is open
abbrev pub asks_with : List FolderAnswer → Disk → WireAsked → MachineState → List Ask
asks_with answers system (Save slot file) s = []
asks_with answers system (Close slot out) s = if is_no_name out.a then Closes ∷ [] else asks_with_outputs (named_drive_outputs out s) answers
asks_with answers system r s = asks_of system r s

abbrev pub answer_with : List FolderAnswer → Disk → WireAsked → MachineState → Answered
answer_with answers system (Save slot file) s = stored_answer (length (session_saving system s)) (first_answer answers)
answer_with answers system (Close slot out) s = if is_no_name out.a then look_answer s else answer_with_outputs s (named_drive_outputs out s) answers
answer_with answers system r s = slot_answer system r s

-- and of the folder
abbrev pub slot_accesses : List FolderAnswer → Disk → WireAsked → Option MachineState → List FolderAccess
slot_accesses answers system (Save slot file) (Some s) = one_write ((file, session_saving system s) ∷ []) answers
slot_accesses answers system (Close slot out) (Some s) = if is_no_name out.a then [] else accesses_of_outputs (named_drive_outputs out s) answers
slot_accesses answers system r o = []

abbrev pub slot_served_with : Host → List FolderAnswer → ℕ → WireAsked → Option MachineState → Served
slot_served_with h answers id r None = refused h refusal.NoSuchSlot
slot_served_with h answers id r (Some s) = record { host = after_asks id (asks_with answers h.system r s) h; reply = answer_with answers h.system r s }

abbrev pub asked_slot_with : Host → List FolderAnswer → ℕ → WireAsked → Served
asked_slot_with h answers id r = slot_served_with h answers id r (slot_at id h.slots)

-- ---- the tables

-- What is done, and what is replied. `made` is what the work on a disk makes.
abbrev pub served_with : Host → List FolderAnswer → DiskWork → WireAsked → Served
served_with h answers made (Open cpu quota drives) = opened_named h cpu quota drives answers
served_with h answers made (Resume from) = resumed_with h (first_answer answers)
served_with h answers made (Save slot file) = asked_slot_with h answers slot (Save slot file)
served_with h answers made (Close slot out) = asked_slot_with h answers slot (Close slot out)
served_with h answers made (Put drive name text) = outcome h (put_answer (length text) (disk_file_name name) answers made)
served_with h answers made (Get drive name) = outcome h (got_answer (disk_file_name name) answers made)
served_with h answers made (Files drive) = outcome h (text_made (disk_answered (first_answer answers)) made)
served_with h answers made r = served h r

-- What is asked of the folder, as far as it answered: where the answers end, memory was refused.
abbrev pub accesses_of : Host → List FolderAnswer → DiskWork → WireAsked → List FolderAccess
accesses_of h answers made (Open cpu quota drives) = accesses_if_fit (open_fault h quota (name_count drives)) (drives_read drives answers)
accesses_of h answers made (Resume from) = one_read from answers
accesses_of h answers made (Save slot file) = slot_accesses answers h.system (Save slot file) (slot_at slot h.slots)
accesses_of h answers made (Close slot out) = slot_accesses answers h.system (Close slot out) (slot_at slot h.slots)
accesses_of h answers made (Put drive name text) = put_accesses drive (disk_file_name name) answers made
accesses_of h answers made (Get drive name) = got_accesses drive (disk_file_name name) answers
accesses_of h answers made (Files drive) = one_read drive answers
accesses_of h answers made r = []

-- a request to which memory is refused, if it takes any, changes nothing
abbrev pub served_with_if : (lacked : Bool) → Host → List FolderAnswer → DiskWork → WireAsked → Served
served_with_if lacked h answers made r = if lacked && takes_memory r then refused h refusal.OutOfMemory else served_with h answers made r

-- what the work on a disk is, of the disk that was read
abbrev pub IsDiskWork : WireAsked → List FolderAnswer → DiskWork → Type 0
IsDiskWork (Put drive name text) answers made = OfNamed (IsPutWork text) (disk_file_name name) (disk_answered (first_answer answers)) made
IsDiskWork (Get drive name) answers made = OfNamed IsGetWork (disk_file_name name) (disk_answered (first_answer answers)) made
IsDiskWork (Files drive) answers made = OfDisk IsListWork (disk_answered (first_answer answers)) made
IsDiskWork _ answers made = ⊤

-- ---- what is promised of a request

-- A host served a request, and this is the reply: so the folder answered, and this was asked of it.
pub record IsRequestServedWith (Leads : List FolderAccess → Type 0) (r : WireAsked) (old new : Host) (reply : Answered) : Type 0 where
  -- memory was refused
  pub lacked : Bool
  pub answers : List FolderAnswer
  pub made : DiskWork
  pub work : IsDiskWork r answers made
  pub served : outcome new reply ≡ served_with_if lacked old answers made r
  pub leads : Leads (accesses_of old answers made r)
  -- where it was refused, no file was written
  pub unwritten : lacked ≡ true → AreNoFolderWrites (accesses_of old answers made r)
