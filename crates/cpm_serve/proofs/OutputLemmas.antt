-- Drives that are written.
use Rattle.std.proofs.Common.{◌≡◌, ◌∙◌, ℕ, List, [], ◌∷◌, ◌++◌, map, Bool, true, false, not, ◌&&◌, Option, Some, None, refl, sym, subst, ap, inl, inr, ⊎_elim, if◌then◌else◌}
use Rattle.std.specs.Prelude.{⊤, IfSome, Result, Ok, Err, Vec, length}
use Rattle.std.specs.declared.alloc.Global.{Global}
use Rattle.std.specs.Borrow.{Bor}
use Rattle.cpm_flags.specs.declared.regs.Cpu.{Cpu}
use Rattle.std.specs.List.{concat}
use Rattle.cpm_geom.specs.Disk.{Disk}
use Rattle.cpm_machine.specs.MachineState.{MachineState}
use Rattle.cpm_slots.specs.Drives.{drive_image}
use Rattle.cpm_slots.specs.Host.{Host, IsSaveRefusal, after_ask, cpu_reply, slot_at}
use Rattle.cpm_slots.specs.Serving.{Closes}
use Rattle.cpm_slots.specs.declared.event.Refusal.{Refusal}
use Rattle.cpm_slots.specs.declared.event.SaveError.{SaveError}
use Rattle.cpm_store.specs.Laws.{has_name_among}
use Rattle.cpm_store.specs.Writes.{NamedBytes, named_output}
use Rattle.cpm_store.specs.declared.writes.Output.{Output}
use Rattle.cpm_protocol.specs.Replies.{Answered, Refused}
use Rattle.cpm_protocol.specs.Requests.{Close, FourNames, Save, drive_names_of, text_if}
use Rattle.cpm_protocol.specs.declared.request.DriveNames.{DriveNames}
use Rattle.cpm_protocol.specs.declared.word.WireRefusal.{WireRefusal}
use Rattle.cpm_protocol.specs.declared.word.WireRefusal.TheVariants as refusal
use Rattle.cpm_serve.specs.DriveFiles.{no_work, stored_answer}
use Rattle.cpm_serve.specs.Drives.{named_drive_outputs, with_output, with_output_of}
use Rattle.cpm_serve.specs.Folder.{AccessesLead, AreNoFolderWrites, Failed, FolderAccess, FolderAnswer, Given, Stored, first_answer, write_access}
use Rattle.cpm_serve.specs.Reading.{AreMade, AreOutputsWritten, IsLacked, or_bad_drives, outputs_had, outputs_written, written_result}
use Rattle.cpm_serve.specs.Seen.{save_refusal}
use Rattle.cpm_serve.specs.Served.{Served, after_asks, is_no_name, outcome, refused}
use Rattle.cpm_serve.specs.ServedWith.{IsRequestServedWith, answer_with_outputs, asks_when_stored, asks_with_outputs, closed_answer, session_saving}
use Rattle.cpm_serve.specs.ServedWith.{slot_accesses, slot_served_with}
use Rattle.cpm_serve.specs.Slot.{look_answer}
use Rattle.cpm_serve.proofs.ServedLemmas.{if-open, same-outcome}

abbrev files_made : List NamedBytes → Result (List NamedBytes) WireRefusal
files_made files = Ok files

abbrev files_refused : WireRefusal → Result (List NamedBytes) WireRefusal
files_refused why = Err why

-- ---- one name more

none-wanted : (n : List ℕ) (disk : Option Disk) → with_output_of n disk None ≡ None
none-wanted n None = refl
none-wanted n (Some disk) = refl

none-had : (n : List ℕ) (wanted : Option (List NamedBytes)) → with_output_of n None wanted ≡ None
none-had n None = refl
none-had n (Some files) = refl

pub output-fault : (n : List ℕ) (disk : Option Disk) (wanted : Option (List NamedBytes)) (why : WireRefusal) → AreMade wanted (Err why) → AreMade (with_output (Some n) disk wanted) (Err why)
output-fault n disk None why k = ⊎_elim (λ (e : files_refused why ≡ or_bad_drives None). inl (e ∙ ap or_bad_drives (sym (none-wanted n disk)))) (λ (e : IsLacked (files_refused why)). inr e) k
output-fault n disk (Some files) why k = ⊎_elim (λ (e : files_refused why ≡ or_bad_drives (Some files)). absurd cc) (λ (e : IsLacked (files_refused why)). inr e) k

pub output-absent : (n : List ℕ) (disk : Option Disk) (wanted : Option (List NamedBytes)) → disk ≡ None → AreMade (with_output (Some n) disk wanted) (Err refusal.BadDrives)
output-absent n disk wanted e = inl (ap or_bad_drives (sym (ap (λ d. with_output_of n d wanted) e ∙ none-had n wanted)))

-- what is wanted, where files were made
made-wanted : (wanted : Option (List NamedBytes)) (files : List NamedBytes) → AreMade wanted (Ok files) → wanted ≡ Some files
made-wanted None files k = ⊎_elim (λ (e : files_made files ≡ or_bad_drives None). absurd cc) (λ (e : IsLacked (files_made files)). absurd cc) k
made-wanted (Some other) files k = ⊎_elim (λ (e : files_made files ≡ or_bad_drives (Some other)). let same : files ≡ other = cc in ap Some (sym same)) (λ (e : IsLacked (files_made files)). absurd cc) k

with-more : (n : List ℕ) (disk : Disk) (files : List NamedBytes) (b : Bool) → has_name_among n files ≡ b →
    with_output_of n (Some disk) (Some files) ≡ (if b then None else Some (files ++ (n, concat disk.sectors) ∷ []))
with-more n disk files b e = ap (λ t. let o : Option (List NamedBytes) = if t then None else Some (files ++ (n, concat disk.sectors) ∷ []) in o) e

pub output-twice : (n : List ℕ) (disk : Disk) (image : Option Disk) (wanted : Option (List NamedBytes)) (files : List NamedBytes) → image ≡ Some disk → AreMade wanted (Ok files) →
    has_name_among n files ≡ true → AreMade (with_output (Some n) image wanted) (Err refusal.BadDrives)
output-twice n disk image wanted files at k e =
    inl (ap or_bad_drives (sym (ap (λ d. with_output_of n d wanted) at ∙ ap (with_output_of n (Some disk)) (made-wanted wanted files k) ∙ with-more n disk files true e)))

pub output-more : (n : List ℕ) (disk : Disk) (image : Option Disk) (wanted : Option (List NamedBytes)) (files all : List NamedBytes) → image ≡ Some disk → AreMade wanted (Ok files) →
    has_name_among n files ≡ false → all ≡ files ++ (n, concat disk.sectors) ∷ [] → AreMade (with_output (Some n) image wanted) (Ok all)
output-more n disk image wanted files all at k e is =
    inl (ap files_made is ∙ ap or_bad_drives (sym (ap (λ d. with_output_of n d wanted) at ∙ ap (with_output_of n (Some disk)) (made-wanted wanted files k) ∙ with-more n disk files false e)))

pub output-lacked : (name : Option (List ℕ)) (disk : Option Disk) (wanted : Option (List NamedBytes)) → AreMade (with_output name disk wanted) (Err refusal.OutOfMemory)
output-lacked name disk wanted = inr refl

-- of a slot that is open
pub outputs-at : (n : FourNames) (o : Option MachineState) (s : MachineState) (r : Result (List NamedBytes) WireRefusal) → o ≡ Some s →
    AreMade (with_output n.d (drive_image 3 o) (with_output n.c (drive_image 2 o) (with_output n.b (drive_image 1 o) (with_output n.a (drive_image 0 o) (Some []))))) r →
    AreMade (named_drive_outputs n s) r
outputs-at n o s r at k =
    subst (λ (p : Option MachineState). AreMade (with_output n.d (drive_image 3 p) (with_output n.c (drive_image 2 p) (with_output n.b (drive_image 1 p) (with_output n.a (drive_image 0 p) (Some []))))) r) at k

-- ---- all written

abbrev done_well : Result ⊤ WireRefusal
done_well = Ok tt

abbrev not_done : WireRefusal → Result ⊤ WireRefusal
not_done why = Err why

pub outputs-plain : {F : Type 0} (does : F → FolderAccess → F → Type 0) (no_name : Bool) (wanted : Option (List NamedBytes)) (from : F) → no_name ≡ true →
    AreOutputsWritten does no_name wanted from from (Ok tt)
outputs-plain does true wanted from e = record { lacked = false; answers = []; is = refl; named = λ x. absurd cc; leads = refl; unwritten = λ x. tt }
outputs-plain does false wanted from e = absurd cc

outputs-lacked : {F : Type 0} (does : F → FolderAccess → F → Type 0) (wanted : Option (List NamedBytes)) (from : F) (why : WireRefusal) → not_done why ≡ Err refusal.OutOfMemory →
    AreOutputsWritten does false wanted from from (Err why)
outputs-lacked does None from why e = record { lacked = true; answers = []; is = e; named = λ x. refl; leads = refl; unwritten = λ x. tt }
outputs-lacked does (Some files) from why e = record { lacked = true; answers = []; is = e; named = λ x. refl; leads = refl; unwritten = λ x. tt }

outputs-bad : {F : Type 0} (does : F → FolderAccess → F → Type 0) (wanted : Option (List NamedBytes)) (from : F) (why : WireRefusal) → files_refused why ≡ or_bad_drives wanted →
    AreOutputsWritten does false wanted from from (Err why)
outputs-bad does None from why e =
    let same : why ≡ refusal.BadDrives = cc in
    record { lacked = false; answers = []; is = ap not_done same; named = λ x. absurd cc; leads = refl; unwritten = λ x. absurd cc }
outputs-bad does (Some files) from why e = absurd cc

pub outputs-refused : {F : Type 0} (does : F → FolderAccess → F → Type 0) (no_name : Bool) (wanted : Option (List NamedBytes)) (from : F) (why : WireRefusal) → no_name ≡ false →
    AreMade wanted (Err why) → AreOutputsWritten does no_name wanted from from (Err why)
outputs-refused does true wanted from why e k = absurd cc
outputs-refused does false wanted from why e k = ⊎_elim
    (λ (is : files_refused why ≡ or_bad_drives wanted). outputs-bad does wanted from why is)
    (λ (is : IsLacked (files_refused why)). let same : why ≡ refusal.OutOfMemory = cc in outputs-lacked does wanted from why (ap not_done same))
    k

pub outputs-done : {F : Type 0} (does : F → FolderAccess → F → Type 0) (no_name : Bool) (wanted : Option (List NamedBytes)) (files : List NamedBytes) (a : FolderAnswer) (from to : F)
    (r : Result ⊤ WireRefusal) → no_name ≡ false → AreMade wanted (Ok files) → does from (write_access files a) to → r ≡ written_result a → AreOutputsWritten does no_name wanted from to r
outputs-done does true wanted files a from to r e k did is = absurd cc
outputs-done does false wanted files a from to r e k did is =
    subst (λ (w : Option (List NamedBytes)). AreOutputsWritten does false w from to r) (sym (made-wanted wanted files k))
    (record { lacked = false; answers = a ∷ []; is = is; named = λ x. absurd cc; leads = (to, did, refl); unwritten = λ x. absurd cc })

-- ---- a session that is closed

closed-outcome : (h new : Host) (slot : ℕ) (s : MachineState) (a : Answered) (by : FolderAnswer) (r : Result ⊤ WireRefusal) → r ≡ written_result by →
    (r ≡ Ok tt → (new ≡ after_ask h slot Closes) × (a ≡ look_answer s)) → ((why : WireRefusal) → r ≡ Err why → (new ≡ h) × (a ≡ Refused why)) →
    outcome new a ≡ outcome (after_asks slot (asks_when_stored by) h) (closed_answer s by)
closed-outcome h new slot s a (Given bytes) r is well refused_by = let k = refused_by refusal.FileFault is in same-outcome k.0 k.1
closed-outcome h new slot s a Stored r is well refused_by = let k = well is in same-outcome k.0 k.1
closed-outcome h new slot s a (Failed e) r is well refused_by = let k = refused_by _ is in same-outcome k.0 k.1

outputs-outcome : (h new : Host) (slot : ℕ) (s : MachineState) (a : Answered) (wanted : Option (List NamedBytes)) (answers : List FolderAnswer) (r : Result ⊤ WireRefusal) →
    r ≡ outputs_written wanted answers →
    (r ≡ Ok tt → (new ≡ after_ask h slot Closes) × (a ≡ look_answer s)) → ((why : WireRefusal) → r ≡ Err why → (new ≡ h) × (a ≡ Refused why)) →
    outcome new a ≡ outcome (after_asks slot (asks_with_outputs wanted answers) h) (answer_with_outputs s wanted answers)
outputs-outcome h new slot s a None answers r is well refused_by = let k = refused_by refusal.BadDrives is in same-outcome k.0 k.1
outputs-outcome h new slot s a (Some files) answers r is well refused_by = closed-outcome h new slot s a (first_answer answers) r is well refused_by

close-outcome : (h new : Host) (slot : ℕ) (s : MachineState) (a : Answered) (lacked no_name : Bool) (wanted : Option (List NamedBytes)) (answers : List FolderAnswer) (r : Result ⊤ WireRefusal) →
    r ≡ (if lacked then Err refusal.OutOfMemory else if no_name then Ok tt else outputs_written wanted answers) → (lacked ≡ true → no_name ≡ false) →
    (r ≡ Ok tt → (new ≡ after_ask h slot Closes) × (a ≡ look_answer s)) → ((why : WireRefusal) → r ≡ Err why → (new ≡ h) × (a ≡ Refused why)) →
    outcome new a ≡ (if lacked && not no_name then refused h refusal.OutOfMemory
    else outcome (after_asks slot (if no_name then Closes ∷ [] else asks_with_outputs wanted answers) h) (if no_name then look_answer s else answer_with_outputs s wanted answers))
close-outcome h new slot s a true true wanted answers r is named well refused_by = let no : true ≡ false = named refl in absurd cc
close-outcome h new slot s a true false wanted answers r is named well refused_by = let k = refused_by refusal.OutOfMemory is in same-outcome k.0 k.1
close-outcome h new slot s a false true wanted answers r is named well refused_by = let k = well is in same-outcome k.0 k.1
close-outcome h new slot s a false false wanted answers r is named well refused_by = outputs-outcome h new slot s a wanted answers r is well refused_by

pub close-served : {F : Type 0} (does : F → FolderAccess → F → Type 0) (h new : Host) (slot : ℕ) (out : FourNames) (s : MachineState) (a : Answered) (from to : F) (r : Result ⊤ WireRefusal) →
    slot_at slot h.slots ≡ Some s → AreOutputsWritten does (is_no_name out.a) (named_drive_outputs out s) from to r →
    (r ≡ Ok tt → (new ≡ after_ask h slot Closes) × (a ≡ look_answer s)) → ((why : WireRefusal) → r ≡ Err why → (new ≡ h) × (a ≡ Refused why)) →
    IsRequestServedWith (AccessesLead does from to) (Close slot out) h new a
close-served does h new slot out s a from to r at w well refused_by = record {
  lacked = w.lacked;
  answers = w.answers;
  made = no_work;
  work = tt;
  served = close-outcome h new slot s a w.lacked (is_no_name out.a) (named_drive_outputs out s) w.answers r w.is w.named well refused_by
      ∙ ap (λ (o : Option MachineState). let x : Served = if w.lacked && not (is_no_name out.a) then refused h refusal.OutOfMemory else slot_served_with h w.answers slot (Close slot out) o in x) (sym at);
  leads = subst (λ (o : Option MachineState). AccessesLead does from to (slot_accesses w.answers h.system (Close slot out) o)) (sym at) w.leads;
  unwritten = λ e. subst (λ (o : Option MachineState). AreNoFolderWrites (slot_accesses w.answers h.system (Close slot out) o)) (sym at) (w.unwritten e);
}

pub close-absent : {F : Type 0} (does : F → FolderAccess → F → Type 0) (h : Host) (slot : ℕ) (out : FourNames) (a : Answered) (from : F) → slot_at slot h.slots ≡ None → a ≡ Refused refusal.NoSuchSlot →
    IsRequestServedWith (AccessesLead does from from) (Close slot out) h h a
close-absent does h slot out a from none is = record {
  lacked = false;
  answers = [];
  made = no_work;
  work = tt;
  served = same-outcome refl is ∙ ap (slot_served_with h [] slot (Close slot out)) (sym none);
  leads = subst (λ (o : Option MachineState). AccessesLead does from from (slot_accesses [] h.system (Close slot out) o)) (sym none) refl;
  unwritten = λ e. absurd cc;
}

-- ---- a session that is saved

pub save-served : {F : Type 0} (does : F → FolderAccess → F → Type 0) (h new : Host) (slot : ℕ) (file bytes : List ℕ) (s : MachineState) (by : FolderAnswer) (a : Answered) (from to : F) →
    slot_at slot h.slots ≡ Some s → bytes ≡ session_saving h.system s → new ≡ h → does from (write_access ((file, bytes) ∷ []) by) to → a ≡ stored_answer (length bytes) by →
    IsRequestServedWith (AccessesLead does from to) (Save slot file) h new a
save-served does h new slot file bytes s by a from to at saved same did is = record {
  lacked = false;
  answers = by ∷ [];
  made = no_work;
  work = tt;
  served = same-outcome same (is ∙ ap (λ (bs : List ℕ). stored_answer (length bs) by) saved) ∙ ap (slot_served_with h (by ∷ []) slot (Save slot file)) (sym at);
  leads = subst (λ (o : Option MachineState). AccessesLead does from to (slot_accesses (by ∷ []) h.system (Save slot file) o)) (sym at)
      (to, subst (λ (bs : List ℕ). does from (write_access ((file, bs) ∷ []) by) to) saved did, refl);
  unwritten = λ e. absurd cc;
}

save-absent : {F : Type 0} (does : F → FolderAccess → F → Type 0) (h new : Host) (slot : ℕ) (file : List ℕ) (lacked : Bool) (o : Option MachineState) (a : Answered) (from : F) →
    slot_at slot h.slots ≡ o → outcome new a ≡ (let x : Served = if lacked && true then refused h refusal.OutOfMemory else slot_served_with h [] slot (Save slot file) o in x) →
    slot_accesses [] h.system (Save slot file) o ≡ [] → IsRequestServedWith (AccessesLead does from from) (Save slot file) h new a
save-absent does h new slot file lacked o a from at is none = record {
  lacked = lacked;
  answers = [];
  made = no_work;
  work = tt;
  served = is ∙ ap (λ (p : Option MachineState). let x : Served = if lacked && true then refused h refusal.OutOfMemory else slot_served_with h [] slot (Save slot file) p in x) (sym at);
  leads = subst (AccessesLead does from from) (sym (ap (slot_accesses [] h.system (Save slot file)) at ∙ none)) refl;
  unwritten = λ e. subst AreNoFolderWrites (sym (ap (slot_accesses [] h.system (Save slot file)) at ∙ none)) tt;
}

pub save-refused : {F : Type 0} (does : F → FolderAccess → F → Type 0) (h new : Host) (slot : ℕ) (file : List ℕ) (o : Option MachineState) (error : SaveError) (a : Answered) (from : F) →
    slot_at slot h.slots ≡ o → IsSaveRefusal o error → new ≡ h → a ≡ Refused (save_refusal error) → IsRequestServedWith (AccessesLead does from from) (Save slot file) h new a
save-refused does h new slot file None error a from at why same is =
    save-absent does h new slot file false None a from at (same-outcome same (is ∙ ap (λ e. Refused (save_refusal e)) why)) refl
save-refused does h new slot file (Some s) error a from at why same is =
    save-absent does h new slot file true (Some s) a from at (same-outcome same (is ∙ ap (λ e. Refused (save_refusal e)) why)) refl

-- ---- by what the host said of the slot

abbrev cpu_had : Cpu → Result Cpu Refusal
cpu_had cpu = Ok cpu

abbrev cpu_missing : Refusal → Result Cpu Refusal
cpu_missing fault = Err fault

-- a slot that has a processor is open
open-slot_of : (o : Option MachineState) (cpu : Cpu) → cpu_had cpu ≡ cpu_reply o → (s : MachineState) × (o ≡ Some s) × (cpu ≡ s.cpu)
open-slot_of None cpu e = absurd cc
open-slot_of (Some s) cpu e = (s, refl, cc)

pub cpu-absent : (o : Option MachineState) (fault : Refusal) → cpu_missing fault ≡ cpu_reply o → o ≡ None
cpu-absent None fault e = refl
cpu-absent (Some s) fault e = absurd cc

at-open : (o : Option MachineState) (s : MachineState) (P : MachineState → Type 0) → o ≡ Some s → IfSome o P → P s
at-open o s P at k = subst (λ (x : Option MachineState). IfSome x P) at k

-- its drives were written, and it was closed
pub close-by : {F : Type 0} (does : F → FolderAccess → F → Type 0) (h new : Host) (slot : ℕ) (out : FourNames) (cpu : Cpu) (a : Answered) (from to : F) → cpu_had cpu ≡ cpu_reply (slot_at slot h.slots) →
    IfSome (slot_at slot h.slots) (λ s. AreOutputsWritten does (is_no_name out.a) (named_drive_outputs out s) from to (Ok tt)) → new ≡ after_ask h slot Closes →
    IfSome (slot_at slot h.slots) (λ s. cpu ≡ s.cpu → a ≡ look_answer s) → IsRequestServedWith (AccessesLead does from to) (Close slot out) h new a
close-by does h new slot out cpu a from to had written host reply =
    let k = open-slot_of (slot_at slot h.slots) cpu had in
    let s = k.0 in
    let w = at-open (slot_at slot h.slots) s (λ x. AreOutputsWritten does (is_no_name out.a) (named_drive_outputs out x) from to (Ok tt)) k.1 written in
    let said = at-open (slot_at slot h.slots) s (λ x. cpu ≡ x.cpu → a ≡ look_answer x) k.1 reply in
    close-served does h new slot out s a from to (Ok tt) k.1 w (λ e. (host, said k.2)) (λ why e. absurd (not-done why e))
  where
    not-done : (why : WireRefusal) → done_well ≡ not_done why → ⊥
    not-done why e = cc

-- its drives were not written
pub close-refused : {F : Type 0} (does : F → FolderAccess → F → Type 0) (h : Host) (slot : ℕ) (out : FourNames) (cpu : Cpu) (why : WireRefusal) (a : Answered) (from to : F) → cpu_had cpu ≡ cpu_reply (slot_at slot h.slots) →
    IfSome (slot_at slot h.slots) (λ s. AreOutputsWritten does (is_no_name out.a) (named_drive_outputs out s) from to (Err why)) → a ≡ Refused why →
    IsRequestServedWith (AccessesLead does from to) (Close slot out) h h a
close-refused does h slot out cpu why a from to had written is =
    let k = open-slot_of (slot_at slot h.slots) cpu had in
    let s = k.0 in
    let w = at-open (slot_at slot h.slots) s (λ x. AreOutputsWritten does (is_no_name out.a) (named_drive_outputs out x) from to (Err why)) k.1 written in
    close-served does h h slot out s a from to (Err why) k.1 w (λ e. absurd (not-well e)) (λ other e. (refl, is ∙ ap (λ v. Refused v) (same other e)))
  where
    not-well : not_done why ≡ done_well → ⊥
    not-well e = cc

    same : (other : WireRefusal) → not_done why ≡ not_done other → why ≡ other
    same other e = cc

-- ---- written, of a slot that may be open

pub written-plain : {F : Type 0} (does : F → FolderAccess → F → Type 0) (o : Option MachineState) (out : DriveNames) (from : F) → out.a ≡ None →
    IfSome o (λ s. AreOutputsWritten does (is_no_name (text_if out.a)) (named_drive_outputs (drive_names_of out) s) from from (Ok tt))
written-plain does o out from e = if-open o _
    (λ s at. outputs-plain does (is_no_name (text_if out.a)) (named_drive_outputs (drive_names_of out) s) from (ap (λ (x : Option (Bor (List ℕ))). is_no_name (text_if x)) e))

pub written-named : {F : Type 0} (does : F → FolderAccess → F → Type 0) (o : Option MachineState) (out : DriveNames) (n : Bor (List ℕ)) (from to : F) (r : Result ⊤ WireRefusal) → out.a ≡ Some n →
    IfSome o (λ s. AreOutputsWritten does false (named_drive_outputs (drive_names_of out) s) from to r) →
    IfSome o (λ s. AreOutputsWritten does (is_no_name (text_if out.a)) (named_drive_outputs (drive_names_of out) s) from to r)
written-named does o out n from to r e k =
    subst (λ (b : Bool). IfSome o (λ s. AreOutputsWritten does b (named_drive_outputs (drive_names_of out) s) from to r)) (sym (ap (λ (x : Option (Bor (List ℕ))). is_no_name (text_if x)) e)) k

pub written-not : {F : Type 0} (does : F → FolderAccess → F → Type 0) (o : Option MachineState) (out : FourNames) (why : WireRefusal) (from : F) →
    IfSome o (λ s. AreMade (named_drive_outputs out s) (Err why)) → IfSome o (λ s. AreOutputsWritten does false (named_drive_outputs out s) from from (Err why))
written-not does o out why from k = if-open o _
    (λ s at. outputs-refused does false (named_drive_outputs out s) from why refl (at-open o s (λ x. AreMade (named_drive_outputs out x) (Err why)) at k))

pub written-by : {F : Type 0} (does : F → FolderAccess → F → Type 0) (o : Option MachineState) (out : FourNames) (files : List NamedBytes) (a : FolderAnswer) (from to : F) (r : Result ⊤ WireRefusal) →
    IfSome o (λ s. AreMade (named_drive_outputs out s) (Ok files)) → does from (write_access files a) to → r ≡ written_result a →
    IfSome o (λ s. AreOutputsWritten does false (named_drive_outputs out s) from to r)
written-by does o out files a from to r k did is = if-open o _
    (λ s at. outputs-done does false (named_drive_outputs out s) files a from to r refl (at-open o s (λ x. AreMade (named_drive_outputs out x) (Ok files)) at k) did is)

-- ---- by what is matched

pub output-had_at : (r : Result (Vec Output Global) WireRefusal) (v : Vec Output Global) (wanted : Option (List NamedBytes)) → r ≡ Ok v → AreMade wanted (outputs_had r) → AreMade wanted (Ok (map named_output v.items))
output-had_at r v wanted e k = subst (λ (x : Result (Vec Output Global) WireRefusal). AreMade wanted (outputs_had x)) e k

pub output-fault_at : (r : Result (Vec Output Global) WireRefusal) (n : List ℕ) (disk : Option Disk) (wanted : Option (List NamedBytes)) (why : WireRefusal) → r ≡ Err why → AreMade wanted (outputs_had r) →
    AreMade (with_output (Some n) disk wanted) (Err why)
output-fault_at r n disk wanted why e k = output-fault n disk wanted why (subst (λ (x : Result (Vec Output Global) WireRefusal). AreMade wanted (outputs_had x)) e k)

pub output-none_at : (name : Option (Bor (List ℕ))) (disk : Option Disk) (wanted : Option (List NamedBytes)) (r : Result (List NamedBytes) WireRefusal) → name ≡ None → AreMade wanted r →
    AreMade (with_output (text_if name) disk wanted) r
output-none_at name disk wanted r e k = subst (λ (o : Option (Bor (List ℕ))). AreMade (with_output (text_if o) disk wanted) r) (sym e) k

pub output-some_at : (name : Option (Bor (List ℕ))) (n : Bor (List ℕ)) (disk : Option Disk) (wanted : Option (List NamedBytes)) (r : Result (List NamedBytes) WireRefusal) → name ≡ Some n →
    AreMade (with_output (Some n.now) disk wanted) r → AreMade (with_output (text_if name) disk wanted) r
output-some_at name n disk wanted r e k = subst (λ (o : Option (Bor (List ℕ))). AreMade (with_output (text_if o) disk wanted) r) (sym e) k

pub outputs-none : (v : Vec Output Global) → v.items ≡ [] → (let r : Result (Vec Output Global) WireRefusal = Ok v in AreMade (Some []) (outputs_had r))
outputs-none v e = inl (ap (λ (xs : List Output). files_made (map named_output xs)) e)
