-- What a folder with a journal keeps.
use Rattle.std.proofs.Common.{◌≡◌, ◌<◌, ℕ, suc, get_or, Bool, true, false, if◌then◌else◌, List, [], ◌∷◌, ◌++◌, Option, Some, None, refl, sym, subst, ap, append_assoc, append-nil}
use Rattle.std.specs.Prelude.{⊤, IfErr, OnOk, Result, Ok, Err}
use Rattle.std.specs.Io.KnownBytes.{Appends}
use Rattle.std.specs.List.{AllByRecursion}
use Rattle.std.specs.declared.alloc.AllocError.{AllocError}
use Rattle.cpm_geom.specs.Disk.{Disk}
use Rattle.cpm_machine.specs.MachineState.{MachineState}
use Rattle.cpm_machine.specs.Saving.{restored}
use Rattle.cpm_machine.specs.declared.opening.OpenError.{OpenError}
use Rattle.cpm_slots.specs.Drives.{open_fault}
use Rattle.cpm_slots.specs.Host.{Host, saving_of, slot_at}
use Rattle.cpm_slots.specs.Restoring.{IsSlotSaved}
use Rattle.cpm_store.specs.Writes.{NamedBytes}
use Rattle.cpm_journal.specs.Entries.{IsKeepable, IsLineAdded, KeptSaving, entry_json}
use Rattle.cpm_journal.specs.Lines.{lines_text}
use Rattle.cpm_protocol.specs.Requests.{AskedFault, FourNames, WireAsked, Open, Resume, Key, Grant, Take, ListTake, Look, Peek, Fork, Save, Close, Turn, Put, Get, Files, request_asked}
use Rattle.cpm_protocol.specs.declared.word.WireRefusal.{WireRefusal}
use Rattle.cpm_serve.specs.Changes.{keep_accesses}
use Rattle.cpm_serve.specs.DriveFiles.{DiskWork, disk_file_name, got_accesses, put_accesses, put_writes}
use Rattle.cpm_serve.specs.Drives.{DrivesRead, disk_answered, disk_named, drives_read, name_count, named_drive_outputs, none_read, with_disk, with_drive_named, with_file_read, with_image_named}
use Rattle.cpm_serve.specs.Folder.{AccessesLead, AsSaved, FolderAccess, FolderAnswer, HostChange, KeepsOpened, Failed, Given, Stored, hold_access, keep_access, one_read, one_write, read_access, write_access, write_answer}
use Rattle.cpm_serve.specs.Folder.{Gave, Unread, Held, Unheld, Wrote, Unwritten, Released, Kept, Unkept}
use Rattle.cpm_serve.specs.KeptFolder.{AreChangesKept, IsChangeBegun, IsChangeKept, IsChangeTrue, IsChangeUnkept, IsKeptAccess, IsLineUnkept, KeptLines, change_entry, change_list, changes_of}
use Rattle.cpm_serve.specs.Written.{AppendsFirst}
use Rattle.cpm_serve.specs.Lines.{WireEvent, event_change, event_served, request_accesses}
use Rattle.cpm_serve.specs.Served.{is_no_name}
use Rattle.cpm_serve.specs.ServedWith.{accesses_if_fit, accesses_of, accesses_of_outputs, session_saving, slot_accesses}
use Rattle.cpm_serve.specs.declared.folder.FolderError.{FolderError}
use Rattle.cpm_serve.specs.declared.folder.FolderError.TheVariants as fault
use Rattle.cpm_serve.specs.declared.kept.KeptFolder.{KeptFolder}
use Rattle.cpm_serve.proofs.TalkLemmas.{appends_more}

-- ---- bytes

pub all-bytes : (xs : List ℕ) → ((i : ℕ) → get_or xs i 0 < 256) → AllByRecursion (λ b. b < 256) xs
all-bytes [] h = tt
all-bytes (x ∷ xs) h = (h 0, all-bytes xs (λ i. h (suc i)))

-- ---- an opened session

-- what was done of a line, which was made or not
abbrev pub IsLineSaid : (outcome : Result ⊤ AllocError) (r : Result ⊤ FolderError) (old new : Option (List ℕ)) (line : List ℕ) → Type 0
IsLineSaid outcome r old new line = OnOk r ((outcome ≡ Ok tt) × Appends old new line) × IfErr r (IsLineUnkept outcome old new line)

made-line : {P : Type 0} (outcome : Result ⊤ AllocError) → outcome ≡ Ok tt → OnOk outcome P → P
made-line {P} outcome is k = subst (λ (o : Result ⊤ AllocError). OnOk o P) is k

begun-change : (change : HostChange) (line : List ℕ) (outcome : Result ⊤ AllocError) (old new : Option (List ℕ)) → IsChangeTrue change →
    OnOk outcome (IsLineAdded (entry_json (change_entry change)) [] line) → (outcome ≡ Ok tt) × AppendsFirst old new line → IsChangeBegun change old new
begun-change change line outcome old new sure k (is, first) =
    let made = made-line outcome is k in
    record { line = made.line; of = made.of; true = sure; added = subst (AppendsFirst old new) made.added first }

unkept-change : (change : HostChange) (why : FolderError) (line : List ℕ) (outcome : Result ⊤ AllocError) (old new : Option (List ℕ)) → IsChangeTrue change →
    OnOk outcome (IsLineAdded (entry_json (change_entry change)) [] line) → IsLineUnkept outcome old new line why → IsChangeUnkept change why old new
unkept-change change fault.OutOfMemory line outcome old new sure k u = u
unkept-change change fault.Absent line outcome old new sure k u = begun-change change line outcome old new sure k u
unkept-change change fault.Busy line outcome old new sure k u = begun-change change line outcome old new sure k u
unkept-change change fault.Fault line outcome old new sure k u = begun-change change line outcome old new sure k u

-- a change was kept as its line was written
pub change-said : {F J : Type 0} (does : F → FolderAccess → F → Type 0) (contents : J → Option (List ℕ)) (from : KeptFolder F J) (journal : J) (change : HostChange) (line : List ℕ)
    (outcome : Result ⊤ AllocError) (r : Result ⊤ FolderError) → IsChangeTrue change → OnOk outcome (IsLineAdded (entry_json (change_entry change)) [] line) →
    IsLineSaid outcome r (contents from.journal) (contents journal) line →
    IsKeptAccess does contents from (keep_access change (write_answer r)) (record { folder = from.folder; journal = journal })
change-said does contents from journal change line outcome (Ok done) sure k w =
    let made = made-line outcome w.0.0 k in
    (refl, record { line = made.line; of = made.of; true = sure; added = subst (Appends (contents from.journal) (contents journal)) made.added w.0.1 })
change-said does contents from journal change line outcome (Err why) sure k w =
    (refl, unkept-change change why line outcome (contents from.journal) (contents journal) sure k w.1)

pub opened-kept : {F J : Type 0} (does : F → FolderAccess → F → Type 0) (contents : J → Option (List ℕ)) (from : KeptFolder F J) (journal : J) (h : Host) (id : ℕ) (bytes line : List ℕ)
    (outcome : Result ⊤ AllocError) (r : Result ⊤ FolderError) → IsSlotSaved h id bytes → IsKeepable (KeptSaving bytes) →
    OnOk outcome (IsLineAdded (entry_json (KeptSaving bytes)) [] line) → IsLineSaid outcome r (contents from.journal) (contents journal) line →
    KeepsOpened (IsKeptAccess does contents) from (record { folder = from.folder; journal = journal }) h (slot_at id h.slots) (write_answer r)
opened-kept does contents from journal h id bytes line outcome r saved small k w =
    let saving = saving_of h saved.state in
    subst (λ o. KeepsOpened (IsKeptAccess does contents) from (record { folder = from.folder; journal = journal }) h o (write_answer r)) (sym saved.there)
    (change-said does contents from journal (AsSaved saving) line outcome r
    (subst (λ bs. IsKeepable (KeptSaving bs)) saved.saving.saved small, subst (λ bs. restored bs ≡ Ok saving) saved.saving.saved saved.saving.restores)
    (subst (λ bs. OnOk outcome (IsLineAdded (entry_json (KeptSaving bs)) [] line)) saved.saving.saved k) w)

-- ---- what is asked of the folder before a change is kept

-- an access that is no keeping
abbrev pub IsQuiet : FolderAccess → Type 0
IsQuiet (Kept change) = ⊥
IsQuiet (Unkept change why) = ⊥
IsQuiet _ = ⊤

abbrev pub AreQuiet : List FolderAccess → Type 0
AreQuiet [] = ⊤
AreQuiet (a ∷ log) = IsQuiet a × AreQuiet log

quiet-append : (log more : List FolderAccess) → AreQuiet log → AreQuiet more → AreQuiet (log ++ more)
quiet-append [] more p q = q
quiet-append (a ∷ log) more p q = (p.0, quiet-append log more p.1 q)

quiet-read : (name : List ℕ) (a : FolderAnswer) → IsQuiet (read_access name a)
quiet-read name (Given bytes) = tt
quiet-read name Stored = tt
quiet-read name (Failed e) = tt

quiet-hold : (name : List ℕ) (a : FolderAnswer) → IsQuiet (hold_access name a)
quiet-hold name (Given bytes) = tt
quiet-hold name Stored = tt
quiet-hold name (Failed e) = tt

quiet-write : (files : List NamedBytes) (a : FolderAnswer) → IsQuiet (write_access files a)
quiet-write files (Given bytes) = tt
quiet-write files Stored = tt
quiet-write files (Failed e) = tt

quiet-one_read : (name : List ℕ) (answers : List FolderAnswer) → AreQuiet (one_read name answers)
quiet-one_read name [] = tt
quiet-one_read name (a ∷ rest) = (quiet-read name a, tt)

quiet-one_write : (files : List NamedBytes) (answers : List FolderAnswer) → AreQuiet (one_write files answers)
quiet-one_write files [] = tt
quiet-one_write files (a ∷ rest) = (quiet-write files a, tt)

quiet-file : (name : List ℕ) (disks : List Disk) (log : List FolderAccess) (answers : List FolderAnswer) → AreQuiet log → AreQuiet (with_file_read name disks log answers).accesses
quiet-file name disks log [] q = q
quiet-file name disks log (a ∷ rest) q = quiet-append log (read_access name a ∷ []) q (quiet-read name a, tt)

quiet-disk : (name : List ℕ) (o : Option Disk) (disks : List Disk) (log : List FolderAccess) (answers : List FolderAnswer) → AreQuiet log → AreQuiet (with_disk name o disks log answers).accesses
quiet-disk name (Some blank) disks log answers q = q
quiet-disk name None disks log answers q = quiet-file name disks log answers q

quiet-image : (name : List ℕ) (r : Result (List Disk) WireRefusal) (log : List FolderAccess) (answers : List FolderAnswer) → AreQuiet log → AreQuiet (with_image_named name r log answers).accesses
quiet-image name (Ok disks) log answers q = quiet-disk name (disk_named name) disks log answers q
quiet-image name (Err why) log answers q = q

quiet-drive : (o : Option (List ℕ)) (x : DrivesRead) → AreQuiet x.accesses → AreQuiet (with_drive_named o x).accesses
quiet-drive None x q = q
quiet-drive (Some name) x q = quiet-image name x.drives x.accesses x.rest q

quiet-drives : (n : FourNames) (answers : List FolderAnswer) → AreQuiet (drives_read n answers).accesses
quiet-drives n answers =
    let first = with_drive_named n.a (none_read answers) in
    let second = with_drive_named n.b first in
    let third = with_drive_named n.c second in
    quiet-drive n.d third (quiet-drive n.c second (quiet-drive n.b first (quiet-drive n.a (none_read answers) tt)))

quiet-fit : (f : Option OpenError) (x : DrivesRead) → AreQuiet x.accesses → AreQuiet (accesses_if_fit f x)
quiet-fit None x q = q
quiet-fit (Some fault) x q = tt

quiet-outputs : (files : Option (List NamedBytes)) (answers : List FolderAnswer) → AreQuiet (accesses_of_outputs files answers)
quiet-outputs None answers = tt
quiet-outputs (Some files) answers = quiet-one_write files answers

quiet-if : (b : Bool) (log : List FolderAccess) → AreQuiet log → AreQuiet (if b then [] else log)
quiet-if true log q = tt
quiet-if false log q = q

quiet-saved : (answers : List FolderAnswer) (system : Disk) (slot : ℕ) (file : List ℕ) (o : Option MachineState) → AreQuiet (slot_accesses answers system (Save slot file) o)
quiet-saved answers system slot file None = tt
quiet-saved answers system slot file (Some s) = quiet-one_write ((file, session_saving system s) ∷ []) answers

quiet-closed : (answers : List FolderAnswer) (system : Disk) (slot : ℕ) (out : FourNames) (o : Option MachineState) → AreQuiet (slot_accesses answers system (Close slot out) o)
quiet-closed answers system slot out None = tt
quiet-closed answers system slot out (Some s) = quiet-if (is_no_name out.a) (accesses_of_outputs (named_drive_outputs out s) answers) (quiet-outputs (named_drive_outputs out s) answers)

quiet-put_writes : (drive : List ℕ) (r : Result Disk WireRefusal) (made : DiskWork) (rest : List FolderAnswer) → AreQuiet (put_writes drive r made rest)
quiet-put_writes drive (Ok disk) (Ok image) rest = quiet-one_write ((drive, image) ∷ []) rest
quiet-put_writes drive (Ok disk) (Err why) rest = (tt, tt)
quiet-put_writes drive (Err why) made rest = (tt, tt)

quiet-put : (drive : List ℕ) (name : Option (List ℕ)) (answers : List FolderAnswer) (made : DiskWork) → AreQuiet (put_accesses drive name answers made)
quiet-put drive None answers made = tt
quiet-put drive (Some name) [] made = tt
quiet-put drive (Some name) (a ∷ rest) made = (quiet-hold drive a, quiet-put_writes drive (disk_answered a) made rest)

quiet-got : (drive : List ℕ) (name : Option (List ℕ)) (answers : List FolderAnswer) → AreQuiet (got_accesses drive name answers)
quiet-got drive None answers = tt
quiet-got drive (Some name) answers = quiet-one_read drive answers

quiet-request : (h : Host) (answers : List FolderAnswer) (made : DiskWork) (r : WireAsked) → AreQuiet (accesses_of h answers made r)
quiet-request h answers made (Open cpu quota drives) = quiet-fit (open_fault h quota (name_count drives)) (drives_read drives answers) (quiet-drives drives answers)
quiet-request h answers made (Resume from) = quiet-one_read from answers
quiet-request h answers made (Save slot file) = quiet-saved answers h.system slot file (slot_at slot h.slots)
quiet-request h answers made (Close slot out) = quiet-closed answers h.system slot out (slot_at slot h.slots)
quiet-request h answers made (Put drive name text) = quiet-put drive (disk_file_name name) answers made
quiet-request h answers made (Get drive name) = quiet-got drive (disk_file_name name) answers
quiet-request h answers made (Files drive) = quiet-one_read drive answers
quiet-request h answers made (Key slot keys) = tt
quiet-request h answers made (Grant slot steps goal) = tt
quiet-request h answers made (Take slot most) = tt
quiet-request h answers made (ListTake slot most) = tt
quiet-request h answers made (Look slot) = tt
quiet-request h answers made (Peek slot address length) = tt
quiet-request h answers made (Fork slot) = tt
quiet-request h answers made (Turn slot keys steps) = tt

pub quiet-event : (e : WireEvent) (h : Host) (r : Result WireAsked AskedFault) → AreQuiet (request_accesses e h r)
quiet-event e h (Ok r) = quiet-request h e.answers e.made r
quiet-event e h (Err fault) = tt

-- such an access leaves the journal
pub quiet-step : {F J : Type 0} (does : F → FolderAccess → F → Type 0) (contents : J → Option (List ℕ)) (s : KeptFolder F J) (a : FolderAccess) (t : KeptFolder F J) → IsQuiet a →
    IsKeptAccess does contents s a t → t.journal ≡ s.journal
quiet-step does contents s (Gave name bytes) t q k = k.1
quiet-step does contents s (Unread name e) t q k = k.1
quiet-step does contents s (Held name bytes) t q k = k.1
quiet-step does contents s (Unheld name e) t q k = k.1
quiet-step does contents s (Wrote files) t q k = k.1
quiet-step does contents s (Unwritten files e) t q k = k.1
quiet-step does contents s Released t q k = k.1
quiet-step does contents s (Kept change) t q k = absurd q
quiet-step does contents s (Unkept change why) t q k = absurd q

-- ---- events

-- the journal stays, or a change was kept
abbrev pub IsKeptAsSaid : Option HostChange → (old new : Option (List ℕ)) → Type 0
IsKeptAsSaid None old new = new ≡ old
IsKeptAsSaid (Some change) old new = IsChangeKept change old new

keep-step : {F J : Type 0} (does : F → FolderAccess → F → Type 0) (contents : J → Option (List ℕ)) (from to : KeptFolder F J) (unkept : Option FolderError) (o : Option HostChange) → unkept ≡ None →
    AccessesLead (IsKeptAccess does contents) from to (keep_accesses unkept o) → IsKeptAsSaid o (contents from.journal) (contents to.journal)
keep-step does contents from to unkept None e k = ap (λ x. contents x.journal) (sym k)
keep-step {F} {J} does contents from to (Some why) (Some change) e k = absurd cc
keep-step {F} {J} does contents from to None (Some change) e k = subst (λ (x : KeptFolder F J). IsChangeKept change (contents from.journal) (contents x.journal)) k.2 k.1.1

pub event-step : {F J : Type 0} (does : F → FolderAccess → F → Type 0) (contents : J → Option (List ℕ)) (from to : KeptFolder F J) (log : List FolderAccess) (unkept : Option FolderError) (o : Option HostChange) →
    unkept ≡ None → AreQuiet log → AccessesLead (IsKeptAccess does contents) from to (log ++ keep_accesses unkept o) → IsKeptAsSaid o (contents from.journal) (contents to.journal)
event-step does contents from to [] unkept o e q k = keep-step does contents from to unkept o e k
event-step {F} {J} does contents from to (a ∷ log) unkept o e q k =
    subst (λ (x : J). IsKeptAsSaid o (contents x) (contents to.journal)) (quiet-step does contents from a k.0 q.0 k.1) (event-step does contents k.0 to log unkept o e q.1 k.2)

pub appends-none : (known : Option (List ℕ)) → Appends known known []
appends-none None = tt
appends-none (Some xs) = sym (append-nil xs)

lines-kept : (o : Option HostChange) (changes : List HostChange) (old mid new : Option (List ℕ)) → IsKeptAsSaid o old mid → AreChangesKept changes mid new →
    AreChangesKept (change_list o ++ changes) old new
lines-kept None changes old mid new one k = subst (λ (x : Option (List ℕ)). AreChangesKept changes x new) one k
lines-kept (Some change) changes old mid new one k = record {
  lines = one.line ∷ k.lines;
  of = (one.of, k.of);
  true = (one.true, k.true);
  added = subst (Appends old new) (append_assoc one.line (0x0A ∷ []) (lines_text k.lines)) (appends_more old mid new (one.line ++ 0x0A ∷ []) (lines_text k.lines) one.added k.added);
}

pub kept-lines : {F J : Type 0} (does : F → FolderAccess → F → Type 0) (contents : J → Option (List ℕ)) → KeptLines does contents
kept-lines {F} {J} does contents h from to [] leads kept =
    subst (λ (x : KeptFolder F J). AreChangesKept [] (contents from.journal) (contents x.journal)) leads
    (record { lines = []; of = tt; true = tt; added = appends-none (contents from.journal) })
kept-lines does contents h from to (e ∷ es) leads kept =
    lines-kept (event_change h e) (changes_of (event_served h e).host es) (contents from.journal) (contents leads.0.journal) (contents to.journal)
    (event-step does contents from leads.0 (request_accesses e h (request_asked e.value)) e.unkept (event_change h e) kept.0 (quiet-event e h (request_asked e.value)) leads.2)
    (kept-lines does contents (event_served h e).host leads.0 to es leads.3 kept.1)
