-- What events change, done again, makes the host that it was kept of.
use Rattle.std.proofs.Common.{◌≡◌, ℕ, suc, zero, List, [], ◌∷◌, ◌++◌, Bool, true, false, Option, Some, None, refl, sym, ap, ◌∙◌, ◌&&◌, ◌||◌, not, if◌then◌else◌, subst, map, take, length, option_map}
use Rattle.std.specs.Prelude.{Result, Ok, Err, option_and_then, nat_lt}
use Rattle.std.proofs.lemmas.Cmp.{nat_list_eq_equiv}
use Rattle.serde_json.specs.Data.{Data}
use Rattle.cpm_flags.specs.declared.regs.Cpu.{Cpu}
use Rattle.cpm_geom.specs.Disk.{Disk}
use Rattle.cpm_saved.specs.declared.part.SavingDamage.{SavingDamage}
use Rattle.cpm_machine.specs.MachineState.{MachineState, opened_machine}
use Rattle.cpm_machine.specs.Opening.{drives_fault, fault_else}
use Rattle.cpm_machine.specs.Saving.{Saving, bytes_of_saving, restored}
use Rattle.cpm_machine.specs.SystemDigest.{system_digest}
use Rattle.cpm_machine.specs.declared.opening.OpenError.{OpenError}
use Rattle.cpm_machine.specs.declared.opening.OpenError.TheVariants as opening
use Rattle.cpm_slots.specs.Drives.{open_fault}
use Rattle.cpm_slots.specs.Host.{AllBelow, Host, after_ask, are_same, lacks_frames, lacks_slot, restore_fault, room_fault, saving_of, slot_at, with_added, with_slot_restored}
use Rattle.cpm_slots.specs.Serving.{Ask, Closes, serve_slot}
use Rattle.cpm_slots.specs.declared.event.HostRestoreError.{HostRestoreError}
use Rattle.cpm_slots.specs.declared.event.HostRestoreError.TheVariants as restore
use Rattle.cpm_slots.proofs.SlotLaws.{AllBelow-added, AllBelow-with, slot_at-new}
use Rattle.cpm_store.specs.Writes.{NamedBytes}
use Rattle.cpm_journal.specs.Entries.{KeptEntry, KeptRequest, KeptSaving, close_json}
use Rattle.cpm_protocol.specs.Replies.{Opened}
use Rattle.cpm_protocol.specs.Requests.{AskedFault, FourNames, WireAsked, Open, Resume, Key, Grant, Take, ListTake, Look, Peek, Fork, Save, Close, Turn, Put, Get, Files}
use Rattle.cpm_protocol.specs.Requests.{close_asked, is_number_within, kind_at, most_number, no_drive_names, request_asked}
use Rattle.cpm_protocol.specs.declared.word.WireRefusal.{WireRefusal}
use Rattle.cpm_protocol.specs.declared.word.WireRefusal.TheVariants as refusal
use Rattle.cpm_serve.specs.Changes.{change_done, kept_change, has_file_name, is_refusal, opened_change}
use Rattle.cpm_serve.specs.DriveFiles.{DiskWork}
use Rattle.cpm_serve.specs.Drives.{DrivesRead, drives_read, name_count, named_drive_outputs}
use Rattle.cpm_serve.specs.Folder.{AsAsked, AsSaved, Failed, FolderAnswer, Given, HostChange, Stored, first_answer}
use Rattle.cpm_serve.specs.KeptFolder.{AreChangesTrue, change_list, changes_of, change_entry}
use Rattle.cpm_serve.specs.Lines.{WireEvent, event_change, event_served, host_served, request_change, request_served}
use Rattle.cpm_serve.specs.Redone.{BegunJournalsRemake, JournalsRemake, host_if_done, is_again, redone, redone_all, redone_asked, restored_unless}
use Rattle.cpm_serve.specs.Served.{Served, added_if, after_asks, is_no_name, refused, slot_served, takes_memory}
use Rattle.cpm_serve.specs.ServedWith.{answer_with_outputs, asks_when_stored, asks_with_outputs, closed_answer, opened_if_fit, opened_read, resumed_if, resumed_with, served_with, slot_served_with}
use Rattle.cpm_serve.specs.Slot.{look_answer}
use Rattle.cpm_serve.proofs.AgainLemmas.{redone-done}
use Rattle.cpm_serve.proofs.ByteKeys.{slot-within}
use Rattle.cpm_serve.proofs.OwnLemmas.{served_if-is}
use Rattle.cpm_serve.proofs.RefusedLemmas.{request-leaves}

-- a change, where there is one, is done again as this host
abbrev Remakes : Host → Option HostChange → Host → Type 0
Remakes h change new = AreChangesTrue (change_list change) → redone_all h (map change_entry (change_list change)) ≡ Some new

one-remade : (h new : Host) (e : KeptEntry) → redone h e ≡ Some new → redone_all h (e ∷ []) ≡ Some new
one-remade h new e is = ap (option_and_then (λ g. redone_all g [])) is

-- ---- a session that was opened

-- where there is room, a saving of this host is not refused
none-refused : (same slot frames : Bool) → same ≡ true → slot ≡ false → frames ≡ false →
    (if not same then Some restore.OtherSystem else if slot then Some restore.NoSlot else if frames then Some restore.NoFrames else None) ≡ None
none-refused false slot frames a b c = cc
none-refused true true frames a b c = cc
none-refused true false true a b c = cc
none-refused true false false a b c = refl

-- there is room for one slot more
pub record HasRoom (h : Host) (quota : ℕ) : Type 0 where
  pub slot : lacks_slot h ≡ false
  pub frames : lacks_frames h quota ≡ false

no-fault : (h : Host) (s : MachineState) → HasRoom h s.quota → restore_fault h (Ok (saving_of h s)) ≡ None
no-fault h s room =
    let digest = system_digest h.system in
    let same : are_same digest digest ≡ true = nat_list_eq_equiv.refl digest in
    none-refused (are_same digest digest) (lacks_slot h) (lacks_frames h s.quota) same room.slot room.frames

saved-again : (h : Host) (s : MachineState) → HasRoom h s.quota → restored (bytes_of_saving (saving_of h s)) ≡ Ok (saving_of h s) →
    redone h (KeptSaving (bytes_of_saving (saving_of h s))) ≡ Some (with_added h s)
saved-again h s room back =
    ap (λ r. restored_unless (restore_fault h r) (with_slot_restored h r)) back ∙ ap (λ o. restored_unless o (with_added h s)) (no-fault h s room)

added-remade : (h : Host) (s : MachineState) → AllBelow h.openings h.slots → HasRoom h s.quota → Remakes h (opened_change (with_added h s) (Opened h.openings)) (with_added h s)
added-remade h s below room =
    let change : Option MachineState → Option HostChange = λ o. option_map (λ t. AsSaved (saving_of (with_added h s) t)) o in
    subst (λ o. Remakes h (change o) (with_added h s)) (sym (slot_at-new h.openings s h.slots below))
    (λ kept. one-remade h (with_added h s) (KeptSaving (bytes_of_saving (saving_of h s))) (saved-again h s room kept.0.1))

-- what was opened is done again, unless it was refused
abbrev OpensAgain : Host → Served → Type 0
OpensAgain h x = is_refusal x.reply ≡ false → Remakes h (opened_change x.host x.reply) x.host

room-none : (slot frames : Bool) → (if slot then Some opening.NoSlot else if frames then Some opening.NoFrames else None) ≡ None → (slot ≡ false) × (frames ≡ false)
room-none true frames e = cc
room-none false true e = cc
room-none false false e = (refl, refl)

has-room : (h : Host) (quota : ℕ) → room_fault h quota ≡ None → HasRoom h quota
has-room h quota e =
    let both = room-none (lacks_slot h) (lacks_frames h quota) e in
    record { slot = both.0; frames = both.1 }

behind-first : (first second : Option OpenError) → fault_else first second ≡ None → second ≡ None
behind-first None second e = e
behind-first (Some why) second e = cc

open-room : (h : Host) (quota drives : ℕ) → open_fault h quota drives ≡ None → HasRoom h quota
open-room h quota drives e =
    has-room h quota (behind-first (if nat_lt quota 16 || nat_lt 256 quota then Some opening.BadQuota else drives_fault drives) (room_fault h quota) e)

added-again : (f : Option OpenError) (h : Host) (s : MachineState) → AllBelow h.openings h.slots → (f ≡ None → HasRoom h s.quota) → OpensAgain h (added_if f h s)
added-again None h s below room told = added-remade h s below (room refl)
added-again (Some why) h s below room told = absurd cc

read-again : (h : Host) (cpu : Cpu) (quota : ℕ) (r : Result (List Disk) WireRefusal) → AllBelow h.openings h.slots → OpensAgain h (opened_read h cpu quota r)
read-again h cpu quota (Ok disks) below =
    added-again (open_fault h quota (length disks)) h (opened_machine cpu quota disks) below (open-room h quota (length disks))
read-again h cpu quota (Err why) below = λ told. absurd cc

open-again : (f : Option OpenError) (h : Host) (cpu : Cpu) (quota : ℕ) (x : DrivesRead) → AllBelow h.openings h.slots → OpensAgain h (opened_if_fit f h cpu quota x)
open-again None h cpu quota x below = read-again h cpu quota x.drives below
open-again (Some why) h cpu quota x below = λ told. absurd cc

-- one that went on from a saving
system-none : (same slot frames : Bool) → (if not same then Some restore.OtherSystem else if slot then Some restore.NoSlot else if frames then Some restore.NoFrames else None) ≡ None →
    (slot ≡ false) × (frames ≡ false)
system-none false slot frames e = cc
system-none true true frames e = cc
system-none true false true e = cc
system-none true false false e = (refl, refl)

restored-room : (h : Host) (x : Saving) → restore_fault h (Ok x) ≡ None → HasRoom h x.state.quota
restored-room h x e =
    let both = system-none (are_same x.system_digest (system_digest h.system)) (lacks_slot h) (lacks_frames h x.state.quota) e in
    record { slot = both.0; frames = both.1 }

resumed-again : (h : Host) (r : Result Saving SavingDamage) (f : Option HostRestoreError) → restore_fault h r ≡ f → AllBelow h.openings h.slots → OpensAgain h (resumed_if f h r)
resumed-again h (Ok x) None e below = λ told. added-remade h x.state below (restored-room h x e)
resumed-again h (Err damage) None e below = absurd cc
resumed-again h r (Some why) e below = λ told. absurd cc

resume-again : (h : Host) (a : FolderAnswer) → AllBelow h.openings h.slots → OpensAgain h (resumed_with h a)
resume-again h (Given bytes) below = resumed-again h (restored bytes) (restore_fault h (restored bytes)) refl below
resume-again h Stored below = λ told. absurd cc
resume-again h (Failed why) below = λ told. absurd cc

-- ---- a slot that was closed

close-back : (slot : ℕ) → is_number_within 0 most_number slot ≡ true → request_asked (close_json slot) ≡ Ok (Close slot no_drive_names)
unfolding request_asked kind_at close_asked
close-back slot within = rw within refl

close-redone : (h : Host) (id : ℕ) → is_number_within 0 most_number id ≡ true →
    redone h (KeptRequest (close_json id)) ≡ host_if_done (slot_served_with h [] id (Close id no_drive_names) (slot_at id h.slots))
close-redone h id within = ap (redone_asked h) (close-back id within)

stored-closes : (s : MachineState) (a : FolderAnswer) → is_refusal (closed_answer s a) ≡ false → asks_when_stored a ≡ Closes ∷ []
stored-closes s (Given bytes) e = absurd cc
stored-closes s Stored e = refl
stored-closes s (Failed why) e = absurd cc

outputs-close : (s : MachineState) (files : Option (List NamedBytes)) (answers : List FolderAnswer) → is_refusal (answer_with_outputs s files answers) ≡ false →
    asks_with_outputs files answers ≡ Closes ∷ []
outputs-close s None answers e = absurd cc
outputs-close s (Some files) answers e = stored-closes s (first_answer answers) e

if-closes : (s : MachineState) (no_name : Bool) (files : Option (List NamedBytes)) (answers : List FolderAnswer) → is_refusal (if no_name then look_answer s else answer_with_outputs s files answers) ≡ false →
    (if no_name then Closes ∷ [] else asks_with_outputs files answers) ≡ Closes ∷ []
if-closes s true files answers e = refl
if-closes s false files answers e = outputs-close s files answers e

closed-again : (h : Host) (answers : List FolderAnswer) (id : ℕ) (out : FourNames) (o : Option MachineState) → is_refusal (slot_served_with h answers id (Close id out) o).reply ≡ false →
    host_if_done (slot_served_with h [] id (Close id no_drive_names) o) ≡ Some (slot_served_with h answers id (Close id out) o).host
closed-again h answers id out None e = absurd cc
closed-again h answers id out (Some s) e =
    ap (λ asks. Some (after_asks id asks h)) (sym (if-closes s (is_no_name out.a) (named_drive_outputs out s) answers e))

closed-remade : (h : Host) (answers : List FolderAnswer) (made : DiskWork) (d : Data) (id : ℕ) (out : FourNames) → request_asked d ≡ Ok (Close id out) →
    is_refusal (served_with h answers made (Close id out)).reply ≡ false → redone h (KeptRequest (close_json id)) ≡ Some (served_with h answers made (Close id out)).host
closed-remade h answers made d id out asked e =
    close-redone h id (slot-within d id out asked) ∙ closed-again h answers id out (slot_at id h.slots) e

-- ---- a request that was done

-- what changes nothing
plain-host : (h : Host) (id : ℕ) (r : WireAsked) (o : Option MachineState) → ((s : MachineState) → (slot_served h id r (Some s)).host ≡ h) → h ≡ (slot_served h id r o).host
plain-host h id r None same = refl
plain-host h id r (Some s) same = sym (same s)

saved-host : (h : Host) (answers : List FolderAnswer) (id : ℕ) (file : List ℕ) (o : Option MachineState) → h ≡ (slot_served_with h answers id (Save id file) o).host
saved-host h answers id file None = refl
saved-host h answers id file (Some s) = refl

opened-done : (h : Host) (d : Data) (x : Served) (file : Bool) (again : file ≡ false → redone h (KeptRequest d) ≡ Some x.host) → Remakes h (opened_change x.host x.reply) x.host →
    Remakes h (if file then opened_change x.host x.reply else Some (AsAsked d)) x.host
opened-done h d x true again opened = opened
opened-done h d x false again opened = λ kept. one-remade h x.host (KeptRequest d) (again refl)

asked-done : (h : Host) (answers : List FolderAnswer) (made : DiskWork) (d : Data) (r : WireAsked) → request_asked d ≡ Ok r → AllBelow h.openings h.slots →
    is_refusal (served_with h answers made r).reply ≡ false → is_again r ≡ true → Remakes h (Some (AsAsked d)) (served_with h answers made r).host
asked-done h answers made d r asked below told again = λ kept. one-remade h (served_with h answers made r).host (KeptRequest d) (redone-done h answers made d r false asked again told)

request-done : (h : Host) (answers : List FolderAnswer) (made : DiskWork) (d : Data) (r : WireAsked) → request_asked d ≡ Ok r → AllBelow h.openings h.slots →
    is_refusal (served_with h answers made r).reply ≡ false →
    Remakes h (change_done d r (served_with h answers made r).host (served_with h answers made r).reply) (served_with h answers made r).host
request-done h answers made d (Open cpu quota drives) asked below told =
    opened-done h d (served_with h answers made (Open cpu quota drives)) (has_file_name drives)
    (λ none. redone-done h answers made d (Open cpu quota drives) false asked (ap not none) told)
    (open-again (open_fault h quota (name_count drives)) h cpu quota (drives_read drives answers) below told)
request-done h answers made d (Resume from) asked below told = resume-again h (first_answer answers) below told
request-done h answers made d (Key slot keys) asked below told = asked-done h answers made d (Key slot keys) asked below told refl
request-done h answers made d (Grant slot steps goal) asked below told = asked-done h answers made d (Grant slot steps goal) asked below told refl
request-done h answers made d (Take slot most) asked below told = asked-done h answers made d (Take slot most) asked below told refl
request-done h answers made d (ListTake slot most) asked below told = asked-done h answers made d (ListTake slot most) asked below told refl
request-done h answers made d (Turn slot keys steps) asked below told = asked-done h answers made d (Turn slot keys steps) asked below told refl
request-done h answers made d (Fork slot) asked below told = asked-done h answers made d (Fork slot) asked below told refl
request-done h answers made d (Close slot out) asked below told =
    λ kept. one-remade h (served_with h answers made (Close slot out)).host (KeptRequest (close_json slot)) (closed-remade h answers made d slot out asked told)
request-done h answers made d (Look slot) asked below told = λ kept. ap Some (plain-host h slot (Look slot) (slot_at slot h.slots) (λ s. refl))
request-done h answers made d (Peek slot address length) asked below told = λ kept. ap Some (plain-host h slot (Peek slot address length) (slot_at slot h.slots) (λ s. refl))
request-done h answers made d (Save slot file) asked below told = λ kept. ap Some (saved-host h answers slot file (slot_at slot h.slots))
request-done h answers made d (Put drive name text) asked below told = λ kept. refl
request-done h answers made d (Get drive name) asked below told = λ kept. refl
request-done h answers made d (Files drive) asked below told = λ kept. refl

-- also one that was refused, which changes nothing
told-done : (h : Host) (d : Data) (r : WireAsked) (x : Served) (b : Bool) → is_refusal x.reply ≡ b → (is_refusal x.reply ≡ true → x.host ≡ h) →
    (is_refusal x.reply ≡ false → Remakes h (change_done d r x.host x.reply) x.host) → Remakes h (if b then None else change_done d r x.host x.reply) x.host
told-done h d r x true told leaves done = λ kept. ap Some (sym (leaves told))
told-done h d r x false told leaves done = done told

served-done : (h : Host) (answers : List FolderAnswer) (made : DiskWork) (d : Data) (r : WireAsked) → request_asked d ≡ Ok r → AllBelow h.openings h.slots →
    Remakes h (kept_change d r (served_with h answers made r)) (served_with h answers made r).host
served-done h answers made d r asked below =
    let x = served_with h answers made r in
    told-done h d r x (is_refusal x.reply) refl (request-leaves h answers made r) (request-done h answers made d r asked below)

if-done : (h : Host) (d : Data) (r : WireAsked) (x : Served) (b : Bool) → Remakes h (kept_change d r x) x.host →
    Remakes h (kept_change d r (if b then refused h refusal.OutOfMemory else x)) (let y : Served = if b then refused h refusal.OutOfMemory else x in y).host
if-done h d r x true done = λ kept. refl
if-done h d r x false done = done

-- ---- an event

asked-event : (h : Host) (e : WireEvent) (r : Result WireAsked AskedFault) → request_asked e.value ≡ r → AllBelow h.openings h.slots →
    Remakes h (request_change e h r) (request_served e h r).host
asked-event h e (Ok r) asked below =
    if-done h e.value r (served_with h e.answers e.made r) (e.lacked && takes_memory r) (served-done h e.answers e.made e.value r asked below)
asked-event h e (Err why) asked below = λ kept. refl

event-remade : (h : Host) (e : WireEvent) → AllBelow h.openings h.slots → Remakes h (event_change h e) (event_served h e).host
event-remade h e below = asked-event h e (request_asked e.value) refl below

-- each number is that of an opening, still
abbrev IsBelow : Host → Type 0
IsBelow h = AllBelow h.openings h.slots

asks-below : (id : ℕ) (asks : List Ask) (h : Host) → IsBelow h → IsBelow (after_asks id asks h)
asks-below id [] h below = below
asks-below id (x ∷ xs) h below = asks-below id xs (after_ask h id x) (AllBelow-with h.openings id (serve_slot h.system x (slot_at id h.slots)).slot h.slots below)

asked-below : (h : Host) (e : WireEvent) (r : Result WireAsked AskedFault) → IsBelow h → IsBelow (request_served e h r).host
asked-below h e (Ok r) below =
    served_if-is h e.lacked e.answers e.made r IsBelow below (λ s. AllBelow-added h.openings s h.slots below) (λ id asks is. asks-below id asks h below)
asked-below h e (Err why) below = below

event-below : (h : Host) (e : WireEvent) → IsBelow h → IsBelow (event_served h e).host
event-below h e below = asked-below h e (request_asked e.value) below

-- ---- many events

true-rest : (o : Option HostChange) (rest : List HostChange) → AreChangesTrue (change_list o ++ rest) → AreChangesTrue (change_list o) × AreChangesTrue rest
true-rest None rest kept = (tt, kept)
true-rest (Some change) rest kept = ((kept.0, tt), kept.1)

some-same : (g : Host) (o : Option Host) → option_and_then (λ x. redone_all x []) o ≡ Some g → o ≡ Some g
some-same g None e = cc
some-same g (Some x) e = e

none-host : (h g : Host) → redone_all h [] ≡ Some g → h ≡ g
none-host h g e = cc

joined : (h g new : Host) (o : Option HostChange) (rest : List HostChange) → redone_all h (map change_entry (change_list o)) ≡ Some g → redone_all g (map change_entry rest) ≡ Some new →
    redone_all h (map change_entry (change_list o ++ rest)) ≡ Some new
joined h g new None rest first behind = ap (λ x. redone_all x (map change_entry rest)) (none-host h g first) ∙ behind
joined h g new (Some change) rest first behind =
    ap (option_and_then (λ x. redone_all x (map change_entry rest))) (some-same g (redone h (change_entry change)) first) ∙ behind

pub journals-remake : JournalsRemake
journals-remake h [] below kept = refl
journals-remake h (e ∷ es) below kept =
    let g = (event_served h e).host in
    let rest = changes_of g es in
    let both = true-rest (event_change h e) rest kept in
    joined h g (host_served g es) (event_change h e) rest (event-remade h e below both.0) (journals-remake g es (event-below h e below) both.1)

-- the first of their entries are those of the first events
abbrev Begins : Host → List KeptEntry → List WireEvent → Type 0
Begins h entries es = (n : ℕ) × (redone_all h entries ≡ Some (host_served h (take n es)))

begun-behind : (h : Host) (e : WireEvent) (es : List WireEvent) (entries more : List KeptEntry) → redone_all h entries ≡ redone_all (event_served h e).host more →
    Begins (event_served h e).host more es → Begins h entries (e ∷ es)
begun-behind h e es entries more is (n, begun) = (suc n, is ∙ begun)

begun-joined : (h : Host) (e : WireEvent) (es : List WireEvent) (o : Option HostChange) (rest : List HostChange) (count : ℕ) →
    redone_all h (map change_entry (change_list o)) ≡ Some (event_served h e).host → ((n : ℕ) → Begins (event_served h e).host (take n (map change_entry rest)) es) →
    Begins h (take count (map change_entry (change_list o ++ rest))) (e ∷ es)
begun-joined h e es None rest count first behind =
    begun-behind h e es (take count (map change_entry rest)) (take count (map change_entry rest))
    (ap (λ x. redone_all x (take count (map change_entry rest))) (none-host h (event_served h e).host first)) (behind count)
begun-joined h e es (Some change) rest zero first behind = (zero, refl)
begun-joined h e es (Some change) rest (suc count) first behind =
    begun-behind h e es (change_entry change ∷ take count (map change_entry rest)) (take count (map change_entry rest))
    (ap (option_and_then (λ x. redone_all x (take count (map change_entry rest)))) (some-same (event_served h e).host (redone h (change_entry change)) first)) (behind count)

none-taken : (h : Host) (count : ℕ) → redone_all h (take count []) ≡ Some h
none-taken h zero = refl
none-taken h (suc count) = refl

pub begun-journals-remake : BegunJournalsRemake
begun-journals-remake h [] count below kept = (zero, none-taken h count)
begun-journals-remake h (e ∷ es) count below kept =
    let g = (event_served h e).host in
    let rest = changes_of g es in
    let both = true-rest (event_change h e) rest kept in
    begun-joined h e es (event_change h e) rest count (event-remade h e below both.0) (λ n. begun-journals-remake g es n (event-below h e below) both.1)
