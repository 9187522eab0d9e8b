-- A request that is refused leaves the host.
use Rattle.std.proofs.Common.{◌≡◌, ℕ, List, [], ◌∷◌, Bool, true, false, Option, Some, None, refl, ◌&&◌, if◌then◌else◌, ap}
use Rattle.std.specs.Prelude.{Result, Ok, Err}
use Rattle.cpm_flags.specs.declared.regs.Cpu.{Cpu}
use Rattle.cpm_geom.specs.Disk.{Disk}
use Rattle.cpm_saved.specs.declared.part.SavingDamage.{SavingDamage}
use Rattle.cpm_machine.specs.MachineState.{MachineState, opened_machine}
use Rattle.cpm_machine.specs.Saving.{Saving, restored}
use Rattle.cpm_machine.specs.declared.opening.OpenError.{OpenError}
use Rattle.cpm_slots.specs.Drives.{open_fault}
use Rattle.cpm_slots.specs.Host.{Host, fork_fault, forked_if, restore_fault, slot_at}
use Rattle.cpm_slots.specs.declared.event.ForkError.{ForkError}
use Rattle.cpm_slots.specs.declared.event.HostRestoreError.{HostRestoreError}
use Rattle.cpm_slots.specs.Serving.{Closes}
use Rattle.cpm_store.specs.Writes.{NamedBytes}
use Rattle.cpm_protocol.specs.Requests.{AskedFault, FourNames, WireAsked, Open, Resume, Key, Grant, Take, ListTake, Look, Peek, Fork, Save, Close, Turn, Put, Get, Files, request_asked}
use Rattle.cpm_protocol.specs.declared.request.GrantGoal.TheVariants as goal
use Rattle.cpm_protocol.specs.declared.word.WireRefusal.{WireRefusal}
use Rattle.cpm_protocol.specs.declared.word.WireRefusal.TheVariants as refusal
use Rattle.cpm_serve.specs.Changes.{is_refusal}
use Rattle.cpm_serve.specs.DriveFiles.{DiskWork}
use Rattle.cpm_serve.specs.Drives.{DrivesRead, drives_read, name_count, named_drive_outputs}
use Rattle.cpm_serve.specs.Folder.{Failed, FolderAnswer, Given, Stored, first_answer}
use Rattle.cpm_serve.specs.Laws.{RefusedRequests}
use Rattle.cpm_serve.specs.Lines.{WireEvent, request_served}
use Rattle.cpm_serve.specs.Served.{Served, added_if, after_asks, forked_answer, is_no_name, refused, slot_served, takes_memory}
use Rattle.cpm_serve.specs.ServedWith.{answer_with_outputs, asks_when_stored, asks_with_outputs, closed_answer, opened_if_fit, opened_read, resumed_if, resumed_with, served_with}
use Rattle.cpm_serve.specs.ServedWith.{slot_served_with}
use Rattle.cpm_serve.specs.Slot.{look_answer, slot_answer}

-- what it leaves
abbrev pub Leaves : Host → Served → Type 0
Leaves h x = is_refusal x.reply ≡ true → x.host ≡ h

added-leaves : (f : Option OpenError) (h : Host) (s : MachineState) → Leaves h (added_if f h s)
added-leaves None h s e = absurd cc
added-leaves (Some fault) h s e = refl

read-leaves : (h : Host) (cpu : Cpu) (quota : ℕ) (r : Result (List Disk) WireRefusal) → Leaves h (opened_read h cpu quota r)
read-leaves h cpu quota (Ok disks) e = added-leaves _ h (opened_machine cpu quota disks) e
read-leaves h cpu quota (Err w) e = refl

open-leaves : (f : Option OpenError) (h : Host) (cpu : Cpu) (quota : ℕ) (x : DrivesRead) → Leaves h (opened_if_fit f h cpu quota x)
open-leaves None h cpu quota x e = read-leaves h cpu quota x.drives e
open-leaves (Some fault) h cpu quota x e = refl

resumed_if-leaves : (f : Option HostRestoreError) (h : Host) (x : Result Saving SavingDamage) → Leaves h (resumed_if f h x)
resumed_if-leaves None h x e = absurd cc
resumed_if-leaves (Some fault) h x e = refl

resume-leaves : (h : Host) (a : FolderAnswer) → Leaves h (resumed_with h a)
resume-leaves h (Given bytes) e = resumed_if-leaves (restore_fault h (restored bytes)) h (restored bytes) e
resume-leaves h Stored e = refl
resume-leaves h (Failed error) e = refl

fork-leaves : (f : Option ForkError) (h : Host) (id : ℕ) → is_refusal (forked_answer h f) ≡ true → forked_if f h id ≡ h
fork-leaves None h id e = absurd cc
fork-leaves (Some fault) h id e = refl

-- a slot that answers is not refused
plain-leaves : (h : Host) (id : ℕ) (r : WireAsked) (o : Option MachineState) → ((s : MachineState) → is_refusal (slot_answer h.system r s) ≡ false) →
    Leaves h (slot_served h id r o)
plain-leaves h id r None never e = refl
plain-leaves h id r (Some s) never e = let not = never s in absurd cc

stored-leaves : (h : Host) (id : ℕ) (s : MachineState) (a : FolderAnswer) → is_refusal (closed_answer s a) ≡ true → after_asks id (asks_when_stored a) h ≡ h
stored-leaves h id s (Given bytes) e = refl
stored-leaves h id s Stored e = absurd cc
stored-leaves h id s (Failed error) e = refl

outputs-leaves : (h : Host) (id : ℕ) (s : MachineState) (files : Option (List NamedBytes)) (answers : List FolderAnswer) →
    is_refusal (answer_with_outputs s files answers) ≡ true → after_asks id (asks_with_outputs files answers) h ≡ h
outputs-leaves h id s None answers e = refl
outputs-leaves h id s (Some files) answers e = stored-leaves h id s (first_answer answers) e

close-leaves : (h : Host) (id : ℕ) (s : MachineState) (no_name : Bool) (files : Option (List NamedBytes)) (answers : List FolderAnswer) →
    is_refusal (if no_name then look_answer s else answer_with_outputs s files answers) ≡ true →
    after_asks id (if no_name then Closes ∷ [] else asks_with_outputs files answers) h ≡ h
close-leaves h id s true files answers e = absurd cc
close-leaves h id s false files answers e = outputs-leaves h id s files answers e

closed-leaves : (h : Host) (answers : List FolderAnswer) (id : ℕ) (out : FourNames) (o : Option MachineState) → Leaves h (slot_served_with h answers id (Close id out) o)
closed-leaves h answers id out None e = refl
closed-leaves h answers id out (Some s) e = close-leaves h id s (is_no_name out.a) (named_drive_outputs out s) answers e

saved-leaves : (h : Host) (answers : List FolderAnswer) (id : ℕ) (file : List ℕ) (o : Option MachineState) → Leaves h (slot_served_with h answers id (Save id file) o)
saved-leaves h answers id file None e = refl
saved-leaves h answers id file (Some s) e = refl

pub request-leaves : (h : Host) (answers : List FolderAnswer) (made : DiskWork) (r : WireAsked) → Leaves h (served_with h answers made r)
request-leaves h answers made (Open cpu quota drives) e = open-leaves (open_fault h quota (name_count drives)) h cpu quota (drives_read drives answers) e
request-leaves h answers made (Resume from) e = resume-leaves h (first_answer answers) e
request-leaves h answers made (Fork slot) e = fork-leaves (fork_fault h (slot_at slot h.slots)) h slot e
request-leaves h answers made (Key slot keys) e = plain-leaves h slot (Key slot keys) (slot_at slot h.slots) (λ s. refl) e
request-leaves h answers made (Grant slot steps goal.Steps) e = plain-leaves h slot (Grant slot steps goal.Steps) (slot_at slot h.slots) (λ s. refl) e
request-leaves h answers made (Grant slot steps (goal.Address pc)) e = plain-leaves h slot (Grant slot steps (goal.Address pc)) (slot_at slot h.slots) (λ s. refl) e
request-leaves h answers made (Grant slot steps goal.Wait) e = plain-leaves h slot (Grant slot steps goal.Wait) (slot_at slot h.slots) (λ s. refl) e
request-leaves h answers made (Take slot most) e = plain-leaves h slot (Take slot most) (slot_at slot h.slots) (λ s. refl) e
request-leaves h answers made (ListTake slot most) e = plain-leaves h slot (ListTake slot most) (slot_at slot h.slots) (λ s. refl) e
request-leaves h answers made (Look slot) e = plain-leaves h slot (Look slot) (slot_at slot h.slots) (λ s. refl) e
request-leaves h answers made (Peek slot address length) e = plain-leaves h slot (Peek slot address length) (slot_at slot h.slots) (λ s. refl) e
request-leaves h answers made (Turn slot keys steps) e = plain-leaves h slot (Turn slot keys steps) (slot_at slot h.slots) (λ s. refl) e
request-leaves h answers made (Save slot file) e = saved-leaves h answers slot file (slot_at slot h.slots) e
request-leaves h answers made (Close slot out) e = closed-leaves h answers slot out (slot_at slot h.slots) e
request-leaves h answers made (Put drive name text) e = refl
request-leaves h answers made (Get drive name) e = refl
request-leaves h answers made (Files drive) e = refl

if-leaves : (h : Host) (b : Bool) (x : Served) → Leaves h x → Leaves h (if b then refused h refusal.OutOfMemory else x)
if-leaves h true x k e = refl
if-leaves h false x k e = k e

pub asked-leaves : (h : Host) (e : WireEvent) (r : Result WireAsked AskedFault) → Leaves h (request_served e h r)
asked-leaves h e (Ok r) is = if-leaves h (e.lacked && takes_memory r) (served_with h e.answers e.made r) (request-leaves h e.answers e.made r) is
asked-leaves h e (Err fault) is = refl

pub refused-requests : RefusedRequests
refused-requests h e why is = asked-leaves h e (request_asked e.value) (ap is_refusal is)
