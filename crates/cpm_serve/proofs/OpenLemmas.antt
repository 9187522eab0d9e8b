-- Openings, by what the host replied.
use Rattle.std.proofs.Common.{◌≡◌, ◌∙◌, ℕ, List, [], ◌∷◌, ◌++◌, Bool, Option, Some, None, true, false, ◌&&◌, refl, sym, subst, ap, ⊎_elim, if◌then◌else◌}
use Rattle.std.specs.Prelude.{IfErr, IfOk, OnErr, Result, Ok, Err}
use Rattle.cpm_machine.specs.Opening.{IsRefusal}
use Rattle.cpm_machine.specs.declared.opening.OpenError.{OpenError}
use Rattle.cpm_machine.specs.declared.opening.Opening.{Opening}
use Rattle.cpm_flags.specs.declared.regs.Cpu.{Cpu}
use Rattle.cpm_geom.specs.Disk.{Disk}
use Rattle.cpm_machine.specs.Saving.{restored}
use Rattle.cpm_slots.specs.Drives.{open_fault}
use Rattle.cpm_slots.specs.Host.{Host, IsRestoreRefusal, opened_slot, refusal_of, restore_fault, with_opened, with_slot_restored}
use Rattle.cpm_slots.specs.declared.event.HostRestoreError.{HostRestoreError}
use Rattle.cpm_slots.specs.declared.event.HostRestoreError.TheVariants as restore
use Rattle.cpm_slots.specs.declared.event.SlotId.{SlotId}
use Rattle.cpm_protocol.specs.Replies.{Answered, Opened, Refused}
use Rattle.cpm_protocol.specs.Requests.{FourNames, Open, Resume}
use Rattle.cpm_protocol.specs.declared.word.WireRefusal.{WireRefusal}
use Rattle.cpm_protocol.specs.declared.word.WireRefusal.TheVariants as refusal
use Rattle.cpm_serve.specs.Seen.{open_refusal, open_result}
use Rattle.cpm_serve.specs.Served.{IsSessionOpened, Served, added_if, outcome, refused}
use Rattle.cpm_serve.specs.declared.folder.FolderError.{FolderError}
use Rattle.cpm_serve.specs.DriveFiles.{no_work}
use Rattle.cpm_serve.specs.Drives.{drives_read, drives_state, name_count}
use Rattle.cpm_serve.specs.Folder.{AccessesLead, AreNoFolderWrites, Failed, FolderAccess, FolderAnswer, Given, read_access, read_refusal}
use Rattle.cpm_serve.specs.Reading.{AreNamedDrivesRead, IsLacked, restore_result}
use Rattle.cpm_serve.specs.ServedWith.{IsRequestServedWith, accesses_if_fit, opened_if_fit, opened_read, restore_refusal, resumed_if}
use Rattle.cpm_serve.proofs.ServedLemmas.{same-outcome}

-- one that is refused
not_opened : (h new : Host) (o : Opening) (e : OpenError) (f : Option OpenError) → refusal_of h o ≡ f → IsRefusal f e → new ≡ h → IsSessionOpened o.cpu o.quota o.drives.items h new (Refused (open_refusal e))
not_opened h new o e None is refused same = record { lacked = true; served = same-outcome same (ap (λ (x : OpenError). Refused (open_refusal x)) refused) }
not_opened h new o e (Some fault) is refused same = record {
  lacked = false;
  served = same-outcome same (ap (λ (x : OpenError). Refused (open_refusal x)) refused) ∙ ap (λ (f : Option OpenError). added_if f h (opened_slot o)) (sym is);
}

pub opened-by : (h new : Host) (o : Opening) (r : Result SlotId (Opening × OpenError)) → IfOk r (λ id. new ≡ with_opened h o) → IfOk r (λ id. id.0 ≡ h.openings) →
    IfOk r (λ id. refusal_of h o ≡ None) → IfErr r (λ e. IsRefusal (refusal_of h o) e.1) → OnErr r (new ≡ h) →
    IsSessionOpened o.cpu o.quota o.drives.items h new (open_result r)
opened-by h new o (Ok id) opened number fits refused kept = record {
  lacked = false;
  served = same-outcome opened (ap Opened number) ∙ ap (λ (f : Option OpenError). added_if f h (opened_slot o)) (sym fits);
}
opened-by h new o (Err e) opened number fits refused kept = not_opened h new o e.1 (refusal_of h o) refl refused kept

-- ---- an opening of drives that are named

-- one that is refused before any file is read
pub open-unfit : {F : Type 0} (does : F → FolderAccess → F → Type 0) (h : Host) (cpu : Cpu) (quota : ℕ) (names : FourNames) (fault : OpenError) (a : Answered) (from : F) →
    Some fault ≡ open_fault h quota (name_count names) → a ≡ Refused (open_refusal fault) → IsRequestServedWith (AccessesLead does from from) (Open cpu quota names) h h a
open-unfit does h cpu quota names fault a from e is = record {
  lacked = false;
  answers = [];
  made = no_work;
  work = tt;
  served = same-outcome refl is ∙ ap (λ (f : Option OpenError). opened_if_fit f h cpu quota (drives_read names [])) e;
  leads = subst (λ (f : Option OpenError). AccessesLead does from from (accesses_if_fit f (drives_read names []))) e refl;
  unwritten = λ x. absurd cc;
}

-- what was asked for drives
fit-accesses : (h : Host) (quota : ℕ) (names : FourNames) (answers : List FolderAnswer) (log : List FolderAccess) → None ≡ open_fault h quota (name_count names) →
    (drives_read names answers).accesses ≡ log → accesses_if_fit (open_fault h quota (name_count names)) (drives_read names answers) ≡ log
fit-accesses h quota names answers log e is = ap (λ (f : Option OpenError). accesses_if_fit f (drives_read names answers)) (sym e) ∙ is

fit-served : (h : Host) (cpu : Cpu) (quota : ℕ) (names : FourNames) (answers : List FolderAnswer) (r : Result (List Disk) WireRefusal) → None ≡ open_fault h quota (name_count names) →
    (drives_read names answers).drives ≡ r → opened_read h cpu quota r ≡ opened_if_fit (open_fault h quota (name_count names)) h cpu quota (drives_read names answers)
fit-served h cpu quota names answers r e is = ap (opened_read h cpu quota) (sym is) ∙ ap (λ (f : Option OpenError). opened_if_fit f h cpu quota (drives_read names answers)) e

lacked-or : (h : Host) (b : Bool) (x y : Served) → x ≡ y → (let s : Served = if b then refused h refusal.OutOfMemory else x in s) ≡ (let s : Served = if b && true then refused h refusal.OutOfMemory else y in s)
lacked-or h true x y e = refl
lacked-or h false x y e = e

open-exact : {F : Type 0} (does : F → FolderAccess → F → Type 0) (h new : Host) (cpu : Cpu) (quota : ℕ) (names : FourNames) (r : Result (List Disk) WireRefusal) (lacked : Bool) (a : Answered) (from to : F)
    (answers : List FolderAnswer) (log : List FolderAccess) → None ≡ open_fault h quota (name_count names) → AccessesLead does from to log → AreNoFolderWrites log →
    drives_read names (answers ++ []) ≡ drives_state r log [] → outcome new a ≡ (let s : Served = if lacked then refused h refusal.OutOfMemory else opened_read h cpu quota r in s) →
    IsRequestServedWith (AccessesLead does from to) (Open cpu quota names) h new a
open-exact does h new cpu quota names r lacked a from to answers log e leads unwritten exact is =
    let all = answers ++ [] in
    let asked = fit-accesses h quota names all log e (ap (λ x. x.accesses) exact) in
    record {
      lacked = lacked;
      answers = all;
      made = no_work;
      work = tt;
      served = is ∙ lacked-or h lacked _ _ (fit-served h cpu quota names all r e (ap (λ x. x.drives) exact));
      leads = subst (AccessesLead does from to) (sym asked) leads;
      unwritten = λ x. subst AreNoFolderWrites (sym asked) unwritten;
    }

-- one whose drives were read
pub open-read : {F : Type 0} (does : F → FolderAccess → F → Type 0) (h new : Host) (cpu : Cpu) (quota : ℕ) (names : FourNames) (disks : List Disk) (a : Answered) (from to : F) →
    None ≡ open_fault h quota (name_count names) → AreNamedDrivesRead does (drives_read names) (Ok disks) from to → IsSessionOpened cpu quota disks h new a →
    IsRequestServedWith (AccessesLead does from to) (Open cpu quota names) h new a
open-read does h new cpu quota names disks a from to e k opened = ⊎_elim
    (λ (exact : (more : List FolderAnswer) → drives_read names (k.0 ++ more) ≡ drives_state (Ok disks) k.1 more).
    open-exact does h new cpu quota names (Ok disks) opened.lacked a from to k.0 k.1 e k.2.leads k.2.unwritten (exact []) opened.served)
    (λ lack. absurd (not-lacked disks lack.0))
    k.2.is
  where
    not-lacked : (ds : List Disk) → (let x : Result (List Disk) WireRefusal = Ok ds in IsLacked x) → ⊥
    not-lacked ds e = cc

-- or were not
pub open-unread : {F : Type 0} (does : F → FolderAccess → F → Type 0) (h : Host) (cpu : Cpu) (quota : ℕ) (names : FourNames) (why : WireRefusal) (a : Answered) (from to : F) →
    None ≡ open_fault h quota (name_count names) → AreNamedDrivesRead does (drives_read names) (Err why) from to → a ≡ Refused why →
    IsRequestServedWith (AccessesLead does from to) (Open cpu quota names) h h a
open-unread does h cpu quota names why a from to e k is = ⊎_elim
    (λ (exact : (more : List FolderAnswer) → drives_read names (k.0 ++ more) ≡ drives_state (Err why) k.1 more).
    open-exact does h h cpu quota names (Err why) false a from to k.0 k.1 e k.2.leads k.2.unwritten (exact []) (same-outcome refl is))
    (λ lack.
    let same : why ≡ refusal.OutOfMemory = is-lacked why lack.0 in
    let asked = fit-accesses h quota names k.0 k.1 e lack.1 in
    record {
      lacked = true;
      answers = k.0;
      made = no_work;
      work = tt;
      served = same-outcome refl (is ∙ ap (λ w. Refused w) same);
      leads = subst (AccessesLead does from to) (sym asked) k.2.leads;
      unwritten = λ x. subst AreNoFolderWrites (sym asked) k.2.unwritten;
    })
    k.2.is
  where
    is-lacked : (w : WireRefusal) → (let x : Result (List Disk) WireRefusal = Err w in IsLacked x) → w ≡ refusal.OutOfMemory
    is-lacked w e = cc

-- ---- a session that goes on from a saving

pub resume-unread : {F : Type 0} (does : F → FolderAccess → F → Type 0) (h : Host) (name : List ℕ) (error : FolderError) (a : Answered) (from to : F) → does from (read_access name (Failed error)) to →
    a ≡ Refused (read_refusal error) → IsRequestServedWith (AccessesLead does from to) (Resume name) h h a
resume-unread does h name error a from to did is = record {
  lacked = false;
  answers = Failed error ∷ [];
  made = no_work;
  work = tt;
  served = same-outcome refl is;
  leads = (to, did, refl);
  unwritten = λ x. absurd cc;
}

resume-refused : {F : Type 0} (does : F → FolderAccess → F → Type 0) (h new : Host) (name bytes : List ℕ) (error : HostRestoreError) (a : Answered) (from to : F) → does from (read_access name (Given bytes)) to →
    new ≡ h → a ≡ Refused (restore_refusal error) → restore_fault h (restored bytes) ≡ Some error → IsRequestServedWith (AccessesLead does from to) (Resume name) h new a
resume-refused does h new name bytes error a from to did same is why = record {
  lacked = false;
  answers = Given bytes ∷ [];
  made = no_work;
  work = tt;
  served = same-outcome same is ∙ ap (λ (f : Option HostRestoreError). resumed_if f h (restored bytes)) (sym why);
  leads = (to, did, refl);
  unwritten = λ x. absurd cc;
}

resume-failed : {F : Type 0} (does : F → FolderAccess → F → Type 0) (h new : Host) (name bytes : List ℕ) (error : HostRestoreError) (a : Answered) (from to : F) → does from (read_access name (Given bytes)) to →
    new ≡ h → a ≡ Refused (restore_refusal error) → IsRestoreRefusal (restore_fault h (restored bytes)) error → IsRequestServedWith (AccessesLead does from to) (Resume name) h new a
resume-failed does h new name bytes restore.OutOfMemory a from to did same is why = record {
  lacked = true;
  answers = Given bytes ∷ [];
  made = no_work;
  work = tt;
  served = same-outcome same is;
  leads = (to, did, refl);
  unwritten = λ x. (tt, tt);
}
resume-failed does h new name bytes (restore.Damaged damage) a from to did same is why = resume-refused does h new name bytes (restore.Damaged damage) a from to did same is why
resume-failed does h new name bytes restore.OtherSystem a from to did same is why = resume-refused does h new name bytes restore.OtherSystem a from to did same is why
resume-failed does h new name bytes restore.NoSlot a from to did same is why = resume-refused does h new name bytes restore.NoSlot a from to did same is why
resume-failed does h new name bytes restore.NoFrames a from to did same is why = resume-refused does h new name bytes restore.NoFrames a from to did same is why

pub resume-served : {F : Type 0} (does : F → FolderAccess → F → Type 0) (h new : Host) (name bytes : List ℕ) (r : Result SlotId HostRestoreError) (a : Answered) (from to : F) →
    does from (read_access name (Given bytes)) to → a ≡ restore_result r →
    IfOk r (λ id. new ≡ with_slot_restored h (restored bytes)) → IfOk r (λ id. id.0 ≡ h.openings) → IfOk r (λ id. restore_fault h (restored bytes) ≡ None) →
    IfErr r (IsRestoreRefusal (restore_fault h (restored bytes))) → OnErr r (new ≡ h) → IsRequestServedWith (AccessesLead does from to) (Resume name) h new a
resume-served does h new name bytes (Ok id) a from to did is opened number fits why kept = record {
  lacked = false;
  answers = Given bytes ∷ [];
  made = no_work;
  work = tt;
  served = same-outcome opened (is ∙ ap Opened number) ∙ ap (λ (f : Option HostRestoreError). resumed_if f h (restored bytes)) (sym fits);
  leads = (to, did, refl);
  unwritten = λ x. absurd cc;
}
resume-served does h new name bytes (Err error) a from to did is opened number fits why kept = resume-failed does h new name bytes error a from to did kept is why
