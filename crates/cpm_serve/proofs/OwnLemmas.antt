-- A request, to the slot that it asks and to the others.
use Rattle.std.proofs.Common.{◌≡◌, ◌<◌, ℕ, List, [], ◌∷◌, ◌==◌, true, false, Bool, Option, Some, None, refl, sym, ap, ap₂, ◌∙◌, if◌then◌else◌, ◌&&◌}
use Rattle.std.specs.Prelude.{Result, Ok, Err}
use Rattle.cpm_flags.specs.declared.regs.Cpu.{Cpu}
use Rattle.cpm_geom.specs.Disk.{Disk}
use Rattle.cpm_saved.specs.declared.part.SavingDamage.{SavingDamage}
use Rattle.cpm_machine.specs.MachineState.{MachineState}
use Rattle.cpm_machine.specs.Saving.{Saving, restored}
use Rattle.cpm_machine.specs.declared.opening.OpenError.{OpenError}
use Rattle.cpm_slots.specs.Account.{slot_after}
use Rattle.cpm_slots.specs.Drives.{open_fault}
use Rattle.cpm_slots.specs.Host.{Host, after_ask, restore_fault, slot_at, with_added, with_slot_restored}
use Rattle.cpm_slots.specs.Serving.{Ask, serve_slot}
use Rattle.cpm_slots.specs.declared.event.HostRestoreError.{HostRestoreError}
use Rattle.cpm_slots.proofs.EventLaws.{added-slot, forked-is}
use Rattle.cpm_slots.proofs.SlotLaws.{slot_at-other, slot_at-same}
use Rattle.cpm_protocol.specs.Replies.{Answered, Refused}
use Rattle.cpm_protocol.specs.Requests.{WireAsked, Open, Resume, Key, Grant, Take, ListTake, Look, Peek, Fork, Save, Close, Turn, Put, Get, Files}
use Rattle.cpm_protocol.specs.declared.word.WireRefusal.{WireRefusal}
use Rattle.cpm_protocol.specs.declared.word.WireRefusal.TheVariants as refusal
use Rattle.cpm_serve.specs.DriveFiles.{DiskWork}
use Rattle.cpm_serve.specs.Drives.{DrivesRead, drives_read, name_count}
use Rattle.cpm_serve.specs.Folder.{Failed, FolderAnswer, Given, Stored, first_answer}
use Rattle.cpm_serve.specs.Own.{answer_alone, asks_alone, asks_slot, unnumbered}
use Rattle.cpm_serve.specs.Served.{Served, added_if, after_asks, outcome, refused, slot_served, takes_memory}
use Rattle.cpm_serve.specs.ServedWith.{answer_with, asked_slot_with, asks_with, opened_if_fit, opened_read, resumed_if, resumed_with, served_with, served_with_if, slot_served_with}
use Rattle.cpm_serve.specs.Slot.{asks_of, slot_answer, slot_named}

-- ---- what becomes of a host

added-is : (h : Host) (fault : Option OpenError) (s : MachineState) (P : Host → Type 0) → P h → ((s : MachineState) → P (with_added h s)) → P (added_if fault h s).host
added-is h None s P same more = more s
added-is h (Some fault) s P same more = same

opened_read-is : (h : Host) (cpu : Cpu) (quota : ℕ) (r : Result (List Disk) WireRefusal) (P : Host → Type 0) → P h → ((s : MachineState) → P (with_added h s)) → P (opened_read h cpu quota r).host
opened_read-is h cpu quota (Ok disks) P same more = added-is h _ _ P same more
opened_read-is h cpu quota (Err why) P same more = same

opened-is : (h : Host) (cpu : Cpu) (quota : ℕ) (f : Option OpenError) (x : DrivesRead) (P : Host → Type 0) → P h → ((s : MachineState) → P (with_added h s)) → P (opened_if_fit f h cpu quota x).host
opened-is h cpu quota None x P same more = opened_read-is h cpu quota x.drives P same more
opened-is h cpu quota (Some fault) x P same more = same

with_restored-is : (h : Host) (x : Result Saving SavingDamage) (P : Host → Type 0) → P h → ((s : MachineState) → P (with_added h s)) → P (with_slot_restored h x)
with_restored-is h (Ok x) P same more = more x.state
with_restored-is h (Err damage) P same more = same

resumed_if-is : (f : Option HostRestoreError) (h : Host) (x : Result Saving SavingDamage) (P : Host → Type 0) → P h → ((s : MachineState) → P (with_added h s)) → P (resumed_if f h x).host
resumed_if-is None h x P same more = with_restored-is h x P same more
resumed_if-is (Some fault) h x P same more = same

resumed-is : (h : Host) (a : FolderAnswer) (P : Host → Type 0) → P h → ((s : MachineState) → P (with_added h s)) → P (resumed_with h a).host
resumed-is h (Given bytes) P same more = resumed_if-is (restore_fault h (restored bytes)) h (restored bytes) P same more
resumed-is h Stored P same more = same
resumed-is h (Failed e) P same more = same

slot-is : (h : Host) (id : ℕ) (r : WireAsked) (o : Option MachineState) (P : Host → Type 0) → P h → ((asks : List Ask) → P (after_asks id asks h)) → P (slot_served h id r o).host
slot-is h id r None P same asked = same
slot-is h id r (Some s) P same asked = asked (asks_of h.system r s)

slot-with-is : (h : Host) (answers : List FolderAnswer) (id : ℕ) (r : WireAsked) (o : Option MachineState) (P : Host → Type 0) → P h → ((asks : List Ask) → P (after_asks id asks h)) → P (slot_served_with h answers id r o).host
slot-with-is h answers id r None P same asked = same
slot-with-is h answers id r (Some s) P same asked = asked (asks_with answers h.system r s)

-- a request leaves a host, adds a slot to it, or asks the slot that it names
served-is : (h : Host) (answers : List FolderAnswer) (made : DiskWork) (r : WireAsked) (P : Host → Type 0) → P h → ((s : MachineState) → P (with_added h s)) →
    ((id : ℕ) (asks : List Ask) → slot_named r ≡ Some id → P (after_asks id asks h)) → P (served_with h answers made r).host
served-is h answers made (Open cpu quota drives) P same more asked = opened-is h cpu quota (open_fault h quota (name_count drives)) (drives_read drives answers) P same more
served-is h answers made (Fork slot) P same more asked = forked-is h slot P same (λ s at e. more s)
served-is h answers made (Resume from) P same more asked = resumed-is h (first_answer answers) P same more
served-is h answers made (Key slot keys) P same more asked = slot-is h slot (Key slot keys) (slot_at slot h.slots) P same (λ asks. asked slot asks refl)
served-is h answers made (Grant slot steps goal) P same more asked = slot-is h slot (Grant slot steps goal) (slot_at slot h.slots) P same (λ asks. asked slot asks refl)
served-is h answers made (Take slot most) P same more asked = slot-is h slot (Take slot most) (slot_at slot h.slots) P same (λ asks. asked slot asks refl)
served-is h answers made (ListTake slot most) P same more asked = slot-is h slot (ListTake slot most) (slot_at slot h.slots) P same (λ asks. asked slot asks refl)
served-is h answers made (Look slot) P same more asked = slot-is h slot (Look slot) (slot_at slot h.slots) P same (λ asks. asked slot asks refl)
served-is h answers made (Peek slot address length) P same more asked = slot-is h slot (Peek slot address length) (slot_at slot h.slots) P same (λ asks. asked slot asks refl)
served-is h answers made (Turn slot keys steps) P same more asked = slot-is h slot (Turn slot keys steps) (slot_at slot h.slots) P same (λ asks. asked slot asks refl)
served-is h answers made (Save slot file) P same more asked = slot-with-is h answers slot (Save slot file) (slot_at slot h.slots) P same (λ asks. asked slot asks refl)
served-is h answers made (Close slot out) P same more asked = slot-with-is h answers slot (Close slot out) (slot_at slot h.slots) P same (λ asks. asked slot asks refl)
served-is h answers made (Put drive name text) P same more asked = same
served-is h answers made (Get drive name) P same more asked = same
served-is h answers made (Files drive) P same more asked = same

pub served_if-is : (h : Host) (lacked : Bool) (answers : List FolderAnswer) (made : DiskWork) (r : WireAsked) (P : Host → Type 0) → P h → ((s : MachineState) → P (with_added h s)) →
    ((id : ℕ) (asks : List Ask) → slot_named r ≡ Some id → P (after_asks id asks h)) → P (served_with_if lacked h answers made r).host
served_if-is h lacked answers made r P same more asked =
    elim (lacked && takes_memory r) as (λ b. P (let x : Served = if b then refused h refusal.OutOfMemory else served_with h answers made r in x).host)
    [ true ↦ same | false ↦ served-is h answers made r P same more asked ]

-- ---- the slots that it doesn't ask

other-slot : (id named : ℕ) (asks : List Ask) (h : Host) → (named == id) ≡ false → slot_at id (after_asks named asks h).slots ≡ slot_at id h.slots
other-slot id named [] h ne = refl
other-slot id named (x ∷ xs) h ne =
    other-slot id named xs (after_ask h named x) ne ∙ slot_at-other id named (serve_slot h.system x (slot_at named h.slots)).slot h.slots ne

pub not-asked : (id : ℕ) (h : Host) (lacked : Bool) (answers : List FolderAnswer) (made : DiskWork) (r : WireAsked) → id < h.openings → asks_slot id (slot_named r) ≡ false →
    slot_at id (served_with_if lacked h answers made r).host.slots ≡ slot_at id h.slots
not-asked id h lacked answers made r below other =
    served_if-is h lacked answers made r (λ g. slot_at id g.slots ≡ slot_at id h.slots) refl (λ s. added-slot id h s below)
    (λ named asks is. other-slot id named asks h (sym (ap (asks_slot id) is) ∙ other))

-- ---- the slot that it asks

pub own-slot : (id : ℕ) (asks : List Ask) (h : Host) → slot_at id (after_asks id asks h).slots ≡ slot_after h.system asks (slot_at id h.slots)
own-slot id [] h = refl
own-slot id (x ∷ xs) h = own-slot id xs (after_ask h id x) ∙ ap (slot_after h.system xs) (slot_at-same id x h.system h.slots (slot_at id h.slots) refl)

slot-plain : (h : Host) (answers : List FolderAnswer) (id : ℕ) (r : WireAsked) (o : Option MachineState) → ((s : MachineState) → asks_of h.system r s ≡ asks_with answers h.system r s) →
    ((s : MachineState) → slot_answer h.system r s ≡ answer_with answers h.system r s) → slot_served h id r o ≡ slot_served_with h answers id r o
slot-plain h answers id r None asks answer = refl
slot-plain h answers id r (Some s) asks answer = ap₂ (λ (xs : List Ask) (a : Answered). outcome (after_asks id xs h) a) (asks s) (answer s)

own-served : (h : Host) (answers : List FolderAnswer) (made : DiskWork) (r : WireAsked) (id : ℕ) → slot_named r ≡ Some id → served_with h answers made r ≡ asked_slot_with h answers id r
own-served h answers made (Open cpu quota drives) id e = cc
own-served h answers made (Fork slot) id e = cc
own-served h answers made (Resume from) id e = cc
own-served h answers made (Put drive name text) id e = cc
own-served h answers made (Get drive name) id e = cc
own-served h answers made (Files drive) id e = cc
own-served h answers made (Key slot keys) id e = let same : slot ≡ id = cc in slot-plain h answers slot (Key slot keys) (slot_at slot h.slots) (λ s. refl) (λ s. refl) ∙ ap (λ n. asked_slot_with h answers n (Key slot keys)) same
own-served h answers made (Grant slot steps goal) id e = let same : slot ≡ id = cc in slot-plain h answers slot (Grant slot steps goal) (slot_at slot h.slots) (λ s. refl) (λ s. refl) ∙ ap (λ n. asked_slot_with h answers n (Grant slot steps goal)) same
own-served h answers made (Take slot most) id e = let same : slot ≡ id = cc in slot-plain h answers slot (Take slot most) (slot_at slot h.slots) (λ s. refl) (λ s. refl) ∙ ap (λ n. asked_slot_with h answers n (Take slot most)) same
own-served h answers made (ListTake slot most) id e = let same : slot ≡ id = cc in slot-plain h answers slot (ListTake slot most) (slot_at slot h.slots) (λ s. refl) (λ s. refl) ∙ ap (λ n. asked_slot_with h answers n (ListTake slot most)) same
own-served h answers made (Look slot) id e = let same : slot ≡ id = cc in slot-plain h answers slot (Look slot) (slot_at slot h.slots) (λ s. refl) (λ s. refl) ∙ ap (λ n. asked_slot_with h answers n (Look slot)) same
own-served h answers made (Peek slot address length) id e = let same : slot ≡ id = cc in slot-plain h answers slot (Peek slot address length) (slot_at slot h.slots) (λ s. refl) (λ s. refl) ∙ ap (λ n. asked_slot_with h answers n (Peek slot address length)) same
own-served h answers made (Turn slot keys steps) id e = let same : slot ≡ id = cc in slot-plain h answers slot (Turn slot keys steps) (slot_at slot h.slots) (λ s. refl) (λ s. refl) ∙ ap (λ n. asked_slot_with h answers n (Turn slot keys steps)) same
own-served h answers made (Save slot file) id e = let same : slot ≡ id = cc in ap (λ n. asked_slot_with h answers n (Save slot file)) same
own-served h answers made (Close slot out) id e = let same : slot ≡ id = cc in ap (λ n. asked_slot_with h answers n (Close slot out)) same

-- the slot's number makes no difference
pub no-number_asks : (answers : List FolderAnswer) (system : Disk) (r : WireAsked) (s : MachineState) → asks_with answers system (unnumbered r) s ≡ asks_with answers system r s
no-number_asks answers system (Open cpu quota drives) s = refl
no-number_asks answers system (Fork slot) s = refl
no-number_asks answers system (Resume from) s = refl
no-number_asks answers system (Put drive name text) s = refl
no-number_asks answers system (Get drive name) s = refl
no-number_asks answers system (Files drive) s = refl
no-number_asks answers system (Key slot keys) s = refl
no-number_asks answers system (Grant slot steps goal) s = refl
no-number_asks answers system (Take slot most) s = refl
no-number_asks answers system (ListTake slot most) s = refl
no-number_asks answers system (Look slot) s = refl
no-number_asks answers system (Peek slot address length) s = refl
no-number_asks answers system (Save slot file) s = refl
no-number_asks answers system (Close slot out) s = refl
no-number_asks answers system (Turn slot keys steps) s = refl

no-number_answer : (answers : List FolderAnswer) (system : Disk) (r : WireAsked) (s : MachineState) → answer_with answers system (unnumbered r) s ≡ answer_with answers system r s
no-number_answer answers system (Open cpu quota drives) s = refl
no-number_answer answers system (Fork slot) s = refl
no-number_answer answers system (Resume from) s = refl
no-number_answer answers system (Put drive name text) s = refl
no-number_answer answers system (Get drive name) s = refl
no-number_answer answers system (Files drive) s = refl
no-number_answer answers system (Key slot keys) s = refl
no-number_answer answers system (Grant slot steps goal) s = refl
no-number_answer answers system (Take slot most) s = refl
no-number_answer answers system (ListTake slot most) s = refl
no-number_answer answers system (Look slot) s = refl
no-number_answer answers system (Peek slot address length) s = refl
no-number_answer answers system (Save slot file) s = refl
no-number_answer answers system (Close slot out) s = refl
no-number_answer answers system (Turn slot keys steps) s = refl

no-number_memory : (r : WireAsked) → takes_memory (unnumbered r) ≡ takes_memory r
no-number_memory (Open cpu quota drives) = refl
no-number_memory (Fork slot) = refl
no-number_memory (Resume from) = refl
no-number_memory (Put drive name text) = refl
no-number_memory (Get drive name) = refl
no-number_memory (Files drive) = refl
no-number_memory (Key slot keys) = refl
no-number_memory (Grant slot steps goal) = refl
no-number_memory (Take slot most) = refl
no-number_memory (ListTake slot most) = refl
no-number_memory (Look slot) = refl
no-number_memory (Peek slot address length) = refl
no-number_memory (Save slot file) = refl
no-number_memory (Close slot out) = refl
no-number_memory (Turn slot keys steps) = refl

slot-served_asks : (h : Host) (answers : List FolderAnswer) (id : ℕ) (r : WireAsked) (o : Option MachineState) → (slot_served_with h answers id r o).host ≡ after_asks id (asks_alone answers h.system (unnumbered r) o) h
slot-served_asks h answers id r None = refl
slot-served_asks h answers id r (Some s) = ap (λ asks. after_asks id asks h) (sym (no-number_asks answers h.system r s))

slot-served_answer : (h : Host) (answers : List FolderAnswer) (id : ℕ) (r : WireAsked) (o : Option MachineState) → (slot_served_with h answers id r o).reply ≡ answer_alone answers h.system (unnumbered r) o
slot-served_answer h answers id r None = refl
slot-served_answer h answers id r (Some s) = sym (no-number_answer answers h.system r s)

-- what becomes of the host, and the reply, by the slot's state alone
pub asked-host : (h : Host) (lacked : Bool) (answers : List FolderAnswer) (made : DiskWork) (r : WireAsked) (id : ℕ) → slot_named r ≡ Some id →
    (served_with_if lacked h answers made r).host ≡ after_asks id (if lacked && takes_memory (unnumbered r) then [] else asks_alone answers h.system (unnumbered r) (slot_at id h.slots)) h
asked-host h lacked answers made r id e =
    rw (no-number_memory r)
    (elim (lacked && takes_memory r) as (λ b. (let x : Served = if b then refused h refusal.OutOfMemory else served_with h answers made r in x).host ≡ after_asks id (if b then [] else asks_alone answers h.system (unnumbered r) (slot_at id h.slots)) h)
    [ true ↦ refl | false ↦ ap (λ (x : Served). x.host) (own-served h answers made r id e) ∙ slot-served_asks h answers id r (slot_at id h.slots) ])

pub asked-reply : (h : Host) (lacked : Bool) (answers : List FolderAnswer) (made : DiskWork) (r : WireAsked) (id : ℕ) → slot_named r ≡ Some id →
    (served_with_if lacked h answers made r).reply ≡ (if lacked && takes_memory (unnumbered r) then Refused refusal.OutOfMemory else answer_alone answers h.system (unnumbered r) (slot_at id h.slots))
asked-reply h lacked answers made r id e =
    rw (no-number_memory r)
    (elim (lacked && takes_memory r) as (λ b. (let x : Served = if b then refused h refusal.OutOfMemory else served_with h answers made r in x).reply ≡ (if b then Refused refusal.OutOfMemory else answer_alone answers h.system (unnumbered r) (slot_at id h.slots)))
    [ true ↦ refl | false ↦ ap (λ (x : Served). x.reply) (own-served h answers made r id e) ∙ slot-served_answer h answers id r (slot_at id h.slots) ])

pub asks-openings : (id : ℕ) (asks : List Ask) (h : Host) → (after_asks id asks h).openings ≡ h.openings
asks-openings id [] h = refl
asks-openings id (x ∷ xs) h = asks-openings id xs (after_ask h id x)
