-- A request that is kept as it was asked is done again as it was done: no file is asked for it.
use Rattle.std.proofs.Common.{◌≡◌, ℕ, List, [], ◌∷◌, Bool, true, false, Option, Some, None, refl, sym, ap, ◌∙◌, ◌&&◌, ◌||◌, not, if◌then◌else◌, OnOk, OnErr, IfErr, subst}
use Rattle.std.specs.Prelude.{Result, Ok, Err, is_none, ⊤}
use Rattle.serde_json.specs.Data.{Data}
use Rattle.cpm_flags.specs.declared.regs.Cpu.{Cpu}
use Rattle.cpm_geom.specs.Disk.{Disk}
use Rattle.cpm_machine.specs.MachineState.{MachineState}
use Rattle.cpm_machine.specs.declared.opening.OpenError.{OpenError}
use Rattle.cpm_slots.specs.Drives.{open_fault}
use Rattle.cpm_slots.specs.Host.{Host, slot_at}
use Rattle.cpm_slots.specs.Serving.{Closes}
use Rattle.cpm_journal.specs.Entries.{KeptRequest}
use Rattle.cpm_protocol.specs.Replies.{Answered, Opened, Accepted, Granted, Text, Looked, Written, Turned, Refused, Wrong, NoJson, TooLong}
use Rattle.cpm_protocol.specs.Requests.{FourNames, WireAsked, Open, Resume, Key, Grant, Take, ListTake, Look, Peek, Fork, Save, Close, Turn, Put, Get, Files, no_drive_names, request_asked}
use Rattle.cpm_protocol.specs.declared.word.WireRefusal.{WireRefusal}
use Rattle.cpm_protocol.specs.declared.word.WireRefusal.TheVariants as refusal
use Rattle.cpm_serve.specs.Changes.{has_file_name, is_in_file, is_refusal}
use Rattle.cpm_serve.specs.DriveFiles.{DiskWork, no_work}
use Rattle.cpm_serve.specs.Drives.{DrivesRead, disk_named, drives_read, name_count, named_drive_outputs, none_read, with_disk, with_drive_named, with_image_named}
use Rattle.cpm_serve.specs.Folder.{FolderAccess, FolderAnswer}
use Rattle.cpm_serve.specs.Redone.{IsUndone, host_if_done, is_again, redo_result, redone, redone_asked}
use Rattle.cpm_serve.specs.Served.{Served, after_asks, is_no_name, outcome, refused, takes_memory}
use Rattle.cpm_serve.specs.ServedWith.{answer_with_outputs, asks_with_outputs, opened_if_fit, served_with, served_with_if, slot_served_with}
use Rattle.cpm_serve.specs.Slot.{look_answer}
use Rattle.cpm_serve.specs.declared.redo.RedoFault.{RedoFault}
use Rattle.cpm_serve.specs.declared.redo.RedoFault.TheVariants as fault
use Rattle.cpm_serve.proofs.RefusedLemmas.{request-leaves}

-- ---- blank disks are read of no file

disk-same : (name : List ℕ) (o : Option Disk) (disks : List Disk) (log log' : List FolderAccess) (rest rest' : List FolderAnswer) → is_none o ≡ false →
    (with_disk name o disks log rest).drives ≡ (with_disk name o disks log' rest').drives
disk-same name (Some blank) disks log log' rest rest' e = refl
disk-same name None disks log log' rest rest' e = cc

image-same : (name : List ℕ) (r : Result (List Disk) WireRefusal) (log log' : List FolderAccess) (rest rest' : List FolderAnswer) → is_none (disk_named name) ≡ false →
    (with_image_named name r log rest).drives ≡ (with_image_named name r log' rest').drives
image-same name (Ok disks) log log' rest rest' e = disk-same name (disk_named name) disks log log' rest rest' e
image-same name (Err why) log log' rest rest' e = refl

drive-same : (o : Option (List ℕ)) (x y : DrivesRead) → is_in_file o ≡ false → x.drives ≡ y.drives → (with_drive_named o x).drives ≡ (with_drive_named o y).drives
drive-same None x y e same = same
drive-same (Some name) x y e same =
    ap (λ r. (with_image_named name r x.accesses x.rest).drives) same ∙ image-same name y.drives x.accesses y.accesses x.rest y.rest e

-- where no name is of a file
pub record AreBlank (n : FourNames) : Type 0 where
  pub a : is_in_file n.a ≡ false
  pub b : is_in_file n.b ≡ false
  pub c : is_in_file n.c ≡ false
  pub d : is_in_file n.d ≡ false

four-false : (a b c d : Bool) → (a || b || c || d) ≡ false → (a ≡ false) × (b ≡ false) × (c ≡ false) × (d ≡ false)
four-false true b c d e = absurd cc
four-false false true c d e = absurd cc
four-false false false true d e = absurd cc
four-false false false false true e = absurd cc
four-false false false false false e = (refl, refl, refl, refl)

blank-names : (n : FourNames) → has_file_name n ≡ false → AreBlank n
blank-names n e =
    let all = four-false (is_in_file n.a) (is_in_file n.b) (is_in_file n.c) (is_in_file n.d) e in
    record { a = all.0; b = all.1; c = all.2; d = all.3 }

blank-same : (n : FourNames) (answers : List FolderAnswer) → AreBlank n → (drives_read n answers).drives ≡ (drives_read n []).drives
blank-same n answers k =
    let x = none_read answers in
    let y = none_read [] in
    let one = drive-same n.a x y k.a refl in
    let two = drive-same n.b (with_drive_named n.a x) (with_drive_named n.a y) k.b one in
    let three = drive-same n.c (with_drive_named n.b (with_drive_named n.a x)) (with_drive_named n.b (with_drive_named n.a y)) k.c two in
    drive-same n.d (with_drive_named n.c (with_drive_named n.b (with_drive_named n.a x))) (with_drive_named n.c (with_drive_named n.b (with_drive_named n.a y))) k.d three

opened-same : (f : Option OpenError) (h : Host) (cpu : Cpu) (quota : ℕ) (x y : DrivesRead) → x.drives ≡ y.drives → opened_if_fit f h cpu quota x ≡ opened_if_fit f h cpu quota y
opened-same None h cpu quota x y e = rw e refl
opened-same (Some why) h cpu quota x y e = refl

-- ---- a slot that is closed, and no drive written

pub closed-plain : (h : Host) (answers : List FolderAnswer) (id : ℕ) (out : FourNames) (o : Option MachineState) → is_no_name out.a ≡ true →
    slot_served_with h answers id (Close id out) o ≡ slot_served_with h [] id (Close id no_drive_names) o
closed-plain h answers id out None e = refl
closed-plain h answers id out (Some s) e =
    ap (λ b. outcome (after_asks id (if b then Closes ∷ [] else asks_with_outputs (named_drive_outputs out s) answers) h)
    (if b then look_answer s else answer_with_outputs s (named_drive_outputs out s) answers)) e

-- ---- each request

not-true : (b : Bool) → not b ≡ true → b ≡ false
not-true true e = cc
not-true false e = refl

pub again-same : (h : Host) (answers : List FolderAnswer) (made : DiskWork) (r : WireAsked) → is_again r ≡ true → served_with h answers made r ≡ served_with h [] no_work r
again-same h answers made (Open cpu quota drives) e =
    opened-same (open_fault h quota (name_count drives)) h cpu quota (drives_read drives answers) (drives_read drives [])
    (blank-same drives answers (blank-names drives (not-true (has_file_name drives) e)))
again-same h answers made (Close slot out) e =
    closed-plain h answers slot out (slot_at slot h.slots) e ∙ sym (closed-plain h [] slot out (slot_at slot h.slots) e)
again-same h answers made (Key slot keys) e = refl
again-same h answers made (Grant slot steps goal) e = refl
again-same h answers made (Take slot most) e = refl
again-same h answers made (ListTake slot most) e = refl
again-same h answers made (Turn slot keys steps) e = refl
again-same h answers made (Fork slot) e = refl
again-same h answers made (Resume from) e = absurd cc
again-same h answers made (Look slot) e = absurd cc
again-same h answers made (Peek slot address length) e = absurd cc
again-same h answers made (Save slot file) e = absurd cc
again-same h answers made (Put drive name text) e = absurd cc
again-same h answers made (Get drive name) e = absurd cc
again-same h answers made (Files drive) e = absurd cc

-- a request that is done again
pub redone-done : (h : Host) (answers : List FolderAnswer) (made : DiskWork) (d : Data) (r : WireAsked) (b : Bool) → request_asked d ≡ Ok r → is_again r ≡ true →
    is_refusal (served_with h answers made r).reply ≡ b → redone h (KeptRequest d) ≡ (if b then None else Some (served_with h answers made r).host)
redone-done h answers made d r b asked again told =
    ap (redone_asked h) asked
    ∙ ap (λ t. if t then host_if_done (served_with h [] no_work r) else None) again
    ∙ ap host_if_done (sym (again-same h answers made r again))
    ∙ ap (λ t. if t then None else Some (served_with h answers made r).host) told

-- ---- as the code does it

-- what is promised of a request that was done again
pub record IsRedo (h new : Host) (d : Data) (result : Result ⊤ RedoFault) : Type 0 where
  pub done : OnOk result (redone h (KeptRequest d) ≡ Some new)
  pub undone : IfErr result (IsUndone h (KeptRequest d))
  pub unchanged : OnErr result (new ≡ h)

-- what a result says of a reply
abbrev IsResultOf : Bool → Result ⊤ RedoFault → Type 0
IsResultOf b (Ok done) = b ≡ false
IsResultOf b (Err why) = b ≡ true

result-refused : (why : WireRefusal) → IsResultOf true (redo_result (Refused why))
result-refused refusal.OutOfMemory = refl
result-refused why = refl

result-of : (a : Answered) → IsResultOf (is_refusal a) (redo_result a)
result-of (Opened slot) = refl
result-of (Accepted n) = refl
result-of (Granted n why) = refl
result-of (Text bytes) = refl
result-of (Looked look) = refl
result-of (Written n) = refl
result-of (Turned turn) = refl
result-of (Refused why) = result-refused why
result-of (Wrong why) = refl
result-of (NoJson at) = refl
result-of TooLong = refl

fault-undone : (h : Host) (d : Data) (why : RedoFault) → redone h (KeptRequest d) ≡ None → IsUndone h (KeptRequest d) why
fault-undone h d fault.Refused e = e
fault-undone h d fault.OutOfMemory e = tt

redo-of : (h new : Host) (d : Data) (x : Served) (b : Bool) (result : Result ⊤ RedoFault) → is_refusal x.reply ≡ b → redone h (KeptRequest d) ≡ (if b then None else Some x.host) →
    (is_refusal x.reply ≡ true → x.host ≡ h) → new ≡ x.host → IsResultOf b result → IsRedo h new d result
redo-of h new d x b (Ok done) told e leaves same of =
    record { done = e ∙ ap (λ t. if t then None else Some x.host) of ∙ ap Some (sym same); undone = tt; unchanged = tt }
redo-of h new d x b (Err why) told e leaves same of =
    record { done = tt; undone = fault-undone h d why (e ∙ ap (λ t. if t then None else Some x.host) of); unchanged = same ∙ leaves (told ∙ of) }

redo-lacked : (h new : Host) (a : Answered) (d : Data) (result : Result ⊤ RedoFault) → outcome new a ≡ refused h refusal.OutOfMemory → result ≡ redo_result a → IsRedo h new d result
redo-lacked h new a d result e is =
    let told : a ≡ Refused refusal.OutOfMemory = ap (λ (x : Served). x.reply) e in
    let same : new ≡ h = ap (λ (x : Served). x.host) e in
    let err : result ≡ Err fault.OutOfMemory = is ∙ ap redo_result told in
    subst (λ (q : Result ⊤ RedoFault). IsRedo h new d q) (sym err) (record { done = tt; undone = tt; unchanged = same })

redo-had : (h new : Host) (a : Answered) (d : Data) (r : WireAsked) (answers : List FolderAnswer) (made : DiskWork) (result : Result ⊤ RedoFault) → request_asked d ≡ Ok r → is_again r ≡ true →
    outcome new a ≡ served_with h answers made r → result ≡ redo_result a → IsRedo h new d result
redo-had h new a d r answers made result asked again e is =
    let x = served_with h answers made r in
    let told : a ≡ x.reply = ap (λ (y : Served). y.reply) e in
    let same : new ≡ x.host = ap (λ (y : Served). y.host) e in
    redo-of h new d x (is_refusal x.reply) result refl (redone-done h answers made d r (is_refusal x.reply) asked again refl) (request-leaves h answers made r) same
    (subst (λ (q : Result ⊤ RedoFault). IsResultOf (is_refusal x.reply) q) (sym (is ∙ ap redo_result told)) (result-of x.reply))

redo-if : (h new : Host) (a : Answered) (d : Data) (r : WireAsked) (answers : List FolderAnswer) (made : DiskWork) (result : Result ⊤ RedoFault) (b : Bool) → request_asked d ≡ Ok r → is_again r ≡ true →
    outcome new a ≡ (if b then refused h refusal.OutOfMemory else served_with h answers made r) → result ≡ redo_result a → IsRedo h new d result
redo-if h new a d r answers made result true asked again e is = redo-lacked h new a d result e is
redo-if h new a d r answers made result false asked again e is = redo-had h new a d r answers made result asked again e is

pub redo-served : (h new : Host) (a : Answered) (d : Data) (r : WireAsked) (lacked : Bool) (answers : List FolderAnswer) (made : DiskWork) (result : Result ⊤ RedoFault) → request_asked d ≡ Ok r → is_again r ≡ true →
    outcome new a ≡ served_with_if lacked h answers made r → result ≡ redo_result a → IsRedo h new d result
redo-served h new a d r lacked answers made result asked again e is = redo-if h new a d r answers made result (lacked && takes_memory r) asked again e is
