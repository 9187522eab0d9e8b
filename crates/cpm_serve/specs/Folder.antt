-- A folder of files: what it is asked, and what it answers. All of it is own: docs/PROTOCOL.md.
use Rattle.std.specs.Prelude.{⊤, ◌≡◌, ℕ, List, [], ◌∷◌, Option, Some, None, Result, Ok, Err, Vec}
use Rattle.serde_json.specs.Data.{Data}
use Rattle.cpm_machine.specs.MachineState.{MachineState}
use Rattle.cpm_machine.specs.Saving.{Saving}
use Rattle.cpm_slots.specs.Host.{Host, saving_of}
use Rattle.std.specs.declared.alloc.Global.{Global}
use Rattle.cpm_store.specs.Writes.{NamedBytes}
use Rattle.cpm_protocol.specs.declared.word.WireRefusal.{WireRefusal}
use Rattle.cpm_protocol.specs.declared.word.WireRefusal.TheVariants as refusal
use Rattle.cpm_serve.specs.declared.folder.FolderError.{FolderError}
use Rattle.cpm_serve.specs.declared.folder.FolderError.TheVariants as error

-- what a folder answers: the bytes of a file, that all was written, or why not
pub data FolderAnswer : Type 0 where
  Given : (bytes : List ℕ) → FolderAnswer
  Stored : FolderAnswer
  Failed : (fault : FolderError) → FolderAnswer

-- What changed a host: a request as it was asked; a session that was opened from files, as its saving; or a slot that was closed.
pub data HostChange : Type 0 where
  AsAsked : (value : Data) → HostChange
  AsSaved : (saving : Saving) → HostChange
  AsClosed : (slot : ℕ) → HostChange

-- An access: what was asked of a folder, and its answer. A file is held where it is replaced next; it is let go where it is not. A change is kept where the
-- folder has a journal.
pub data FolderAccess : Type 0 where
  Gave : (name bytes : List ℕ) → FolderAccess
  Unread : (name : List ℕ) (fault : FolderError) → FolderAccess
  Held : (name bytes : List ℕ) → FolderAccess
  Unheld : (name : List ℕ) (fault : FolderError) → FolderAccess
  Wrote : (files : List NamedBytes) → FolderAccess
  Unwritten : (files : List NamedBytes) (fault : FolderError) → FolderAccess
  Released : FolderAccess
  Kept : (change : HostChange) → FolderAccess
  Unkept : (change : HostChange) (fault : FolderError) → FolderAccess

-- ---- accesses by their answers; an answer to another question counts as a fault

abbrev pub read_access : List ℕ → FolderAnswer → FolderAccess
read_access name (Given bytes) = Gave name bytes
read_access name Stored = Unread name error.Fault
read_access name (Failed e) = Unread name e

abbrev pub hold_access : List ℕ → FolderAnswer → FolderAccess
hold_access name (Given bytes) = Held name bytes
hold_access name Stored = Unheld name error.Fault
hold_access name (Failed e) = Unheld name e

abbrev pub write_access : List NamedBytes → FolderAnswer → FolderAccess
write_access files (Given bytes) = Unwritten files error.Fault
write_access files Stored = Wrote files
write_access files (Failed e) = Unwritten files e

abbrev pub keep_access : HostChange → FolderAnswer → FolderAccess
keep_access change (Given bytes) = Unkept change error.Fault
keep_access change Stored = Kept change
keep_access change (Failed e) = Unkept change e

-- a session is kept where it is open
abbrev pub KeepsOpened : {F : Type 0} → (F → FolderAccess → F → Type 0) → (from to : F) → Host → Option MachineState → FolderAnswer → Type 0
KeepsOpened {F} does from to h None answer = from ≡ to
KeepsOpened {F} does from to h (Some s) answer = does from (keep_access (AsSaved (saving_of h s)) answer) to

-- the answer that the code gets
abbrev pub read_answer : Result (Vec ℕ Global) FolderError → FolderAnswer
read_answer (Ok bytes) = Given bytes.items
read_answer (Err e) = Failed e

abbrev pub write_answer : Result ⊤ FolderError → FolderAnswer
write_answer (Ok done) = Stored
write_answer (Err e) = Failed e

-- ---- answers, as a reply says them

abbrev pub read_refusal : FolderError → WireRefusal
read_refusal error.Absent = refusal.AbsentFile
read_refusal error.Busy = refusal.BusyFile
read_refusal error.Fault = refusal.FileFault
read_refusal error.OutOfMemory = refusal.OutOfMemory

-- what is written need not be there
abbrev pub write_refusal : FolderError → WireRefusal
write_refusal error.Absent = refusal.FileFault
write_refusal error.Busy = refusal.BusyFile
write_refusal error.Fault = refusal.FileFault
write_refusal error.OutOfMemory = refusal.OutOfMemory

-- where there is no answer, memory was refused before it
abbrev pub first_answer : List FolderAnswer → FolderAnswer
first_answer [] = Failed error.OutOfMemory
first_answer (a ∷ rest) = a

abbrev pub one_read : List ℕ → List FolderAnswer → List FolderAccess
one_read name [] = []
one_read name (a ∷ rest) = read_access name a ∷ []

abbrev pub one_write : List NamedBytes → List FolderAnswer → List FolderAccess
one_write files [] = []
one_write files (a ∷ rest) = write_access files a ∷ []

-- ---- many accesses

-- from one state of a folder to another by these accesses and no others, where an access leads from state to state as `does` says
abbrev pub AccessesLead : {F : Type 0} → (F → FolderAccess → F → Type 0) → (from to : F) → List FolderAccess → Type 0
AccessesLead {F} does from to [] = from ≡ to
AccessesLead {F} does from to (a ∷ log) = (next : F) × does from a next × AccessesLead does next to log

-- a file that was not written
abbrev pub IsNoFolderWrite : FolderAccess → Type 0
IsNoFolderWrite (Wrote files) = ⊥
IsNoFolderWrite (Unwritten files e) = ⊥
IsNoFolderWrite _ = ⊤

abbrev pub AreNoFolderWrites : List FolderAccess → Type 0
AreNoFolderWrites [] = ⊤
AreNoFolderWrites (a ∷ log) = IsNoFolderWrite a × AreNoFolderWrites log

-- what a folder that is none is asked: no file is there, none is written, and it has no journal
abbrev pub IsNoFolderAccess : FolderAccess → Type 0
IsNoFolderAccess (Unread name e) = e ≡ error.Absent
IsNoFolderAccess (Unheld name e) = e ≡ error.Absent
IsNoFolderAccess (Unwritten files e) = e ≡ error.Fault
IsNoFolderAccess Released = ⊤
IsNoFolderAccess (Kept change) = ⊤
IsNoFolderAccess _ = ⊥
