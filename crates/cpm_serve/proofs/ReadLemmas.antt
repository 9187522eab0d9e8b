-- Drives that are read, one after another.
use Rattle.std.proofs.Common.{◌≡◌, ◌∙◌, ℕ, List, [], ◌∷◌, ◌++◌, append_assoc, Option, Some, None, refl, sym, subst, ap, inl, inr, ⊎_elim}
use Rattle.std.specs.Prelude.{◌⊎◌, Result, Ok, Err, IfErr, IfOk, Vec, length}
use Rattle.std.specs.List.{concat}
use Rattle.std.specs.declared.alloc.Global.{Global}
use Rattle.std.specs.Borrow.{Bor}
use Rattle.cpm_geom.specs.Disk.{Disk, IsDisk, disk_of}
use Rattle.cpm_geom.specs.Geometry.{format_of_length}
use Rattle.cpm_geom.proofs.JoinedLemmas.{disk_joined}
use Rattle.cpm_protocol.specs.Requests.{text_if}
use Rattle.cpm_protocol.specs.declared.word.WireRefusal.{WireRefusal}
use Rattle.cpm_protocol.specs.declared.word.WireRefusal.TheVariants as refusal
use Rattle.cpm_serve.specs.Drives.{DrivesRead, disk_answered, disk_in_format, disk_named, disk_of_file, drives_state, none_read, one_more_disk, with_disk, with_drive_named, with_image_named}
use Rattle.cpm_serve.specs.Folder.{AccessesLead, AreNoFolderWrites, Failed, FolderAccess, FolderAnswer, Given, IsNoFolderWrite, Stored, read_access}
use Rattle.cpm_serve.specs.Reading.{AreNamedDrivesRead, IsDriveRead, IsDriveReadOf, IsFileDisk, IsLacked, IsOneDriveMore, images_had}

-- ---- accesses

pub accesses-more : {F : Type 0} (does : F → FolderAccess → F → Type 0) (from mid to : F) (log : List FolderAccess) (a : FolderAccess) → AccessesLead does from mid log → does mid a to →
    AccessesLead does from to (log ++ a ∷ [])
accesses-more {F} does from mid to [] a leads did = (to, subst (λ (f : F). does f a to) (sym leads) did, refl)
accesses-more {F} does from mid to (x ∷ log) a leads did = (leads.0, leads.1, accesses-more does leads.0 mid to log a leads.2 did)

pub no-write : (name : List ℕ) (a : FolderAnswer) → IsNoFolderWrite (read_access name a)
no-write name (Given bytes) = tt
no-write name Stored = tt
no-write name (Failed e) = tt

reads-more : (log : List FolderAccess) (name : List ℕ) (a : FolderAnswer) → AreNoFolderWrites log → AreNoFolderWrites (log ++ read_access name a ∷ [])
reads-more [] name a k = (no-write name a, tt)
reads-more (x ∷ log) name a k = (k.0, reads-more log name a k.1)

-- ---- a reading

disk-none-left : (n : List ℕ) (blank : Option Disk) (disks : List Disk) (log : List FolderAccess) → ((with_disk n blank disks log []).accesses ≡ log) × ((with_disk n blank disks log []).rest ≡ [])
disk-none-left n (Some blank) disks log = (refl, refl)
disk-none-left n None disks log = (refl, refl)

name-none-left : (n : List ℕ) (drives : Result (List Disk) WireRefusal) (log : List FolderAccess) → ((with_image_named n drives log []).accesses ≡ log) × ((with_image_named n drives log []).rest ≡ [])
name-none-left n (Ok disks) log = disk-none-left n (disk_named n) disks log
name-none-left n (Err why) log = (refl, refl)

-- where no answer is left, no more is asked
none-left : (name : Option (List ℕ)) (x : DrivesRead) → x.rest ≡ [] → ((with_drive_named name x).accesses ≡ x.accesses) × ((with_drive_named name x).rest ≡ [])
none-left None x e = (refl, e)
none-left (Some n) x e =
    subst (λ (rest : List FolderAnswer). ((with_image_named n x.drives x.accesses rest).accesses ≡ x.accesses) × ((with_image_named n x.drives x.accesses rest).rest ≡ [])) (sym e)
    (name-none-left n x.drives x.accesses)

fault-stays : (name : Option (List ℕ)) (why : WireRefusal) (log : List FolderAccess) (more : List FolderAnswer) → with_drive_named name (drives_state (Err why) log more) ≡ drives_state (Err why) log more
fault-stays None why log more = refl
fault-stays (Some n) why log more = refl

-- ---- one name more

pub more-none : {F : Type 0} (does : F → FolderAccess → F → Type 0) (r : Result (List Disk) WireRefusal) (from : F) → IsOneDriveMore does None r r from from
more-none does r from = λ read start k. k

pub more-fault : {F : Type 0} (does : F → FolderAccess → F → Type 0) (name : Option (List ℕ)) (why : WireRefusal) (from : F) → IsOneDriveMore does name (Err why) (Err why) from from
more-fault does name why from = λ read start k. (
  k.0,
  k.1,
  record {
    leads = k.2.leads;
    unwritten = k.2.unwritten;
    is = ⊎_elim
        (λ exact. inl (λ more. ap (with_drive_named name) (exact more) ∙ fault-stays name why k.1 more))
        (λ lack. let n = none-left name (read k.0) lack.2 in inr (lack.0, n.0 ∙ lack.1, n.1))
        k.2.is;
  },
)

-- the drives so far with one more, if it was read; or memory was refused
abbrev pub IsPushed : List Disk → Result Disk WireRefusal → Result (List Disk) WireRefusal → Type 0
IsPushed disks r after = (after ≡ one_more_disk disks r) ⊎ IsLacked after

-- what was read before, exactly
abbrev IsExact : (List FolderAnswer → DrivesRead) → List Disk → List FolderAnswer → List FolderAccess → Type 0
IsExact read disks answers log = (more : List FolderAnswer) → read (answers ++ more) ≡ drives_state (Ok disks) log more

step-named : (n : List ℕ) (blank : Option Disk) (disks : List Disk) (log : List FolderAccess) (more : List FolderAnswer) → disk_named n ≡ blank →
    with_drive_named (Some n) (drives_state (Ok disks) log more) ≡ with_disk n blank disks log more
step-named n blank disks log more e = ap (λ b. with_disk n b disks log more) e

-- a blank disk
more-blank : {F : Type 0} (does : F → FolderAccess → F → Type 0) (n : List ℕ) (blank : Disk) (disks : List Disk) (after : Result (List Disk) WireRefusal) (read : List FolderAnswer → DrivesRead)
    (start to : F) (answers : List FolderAnswer) (log : List FolderAccess) → disk_named n ≡ Some blank → IsExact read disks answers log → AccessesLead does start to log → AreNoFolderWrites log →
    (after ≡ Ok (disks ++ blank ∷ [])) ⊎ IsLacked after → AreNamedDrivesRead does (λ answers. with_drive_named (Some n) (read answers)) after start to
more-blank does n blank disks after read start to answers log e exact leads unwritten is = ⊎_elim
    (λ (had : after ≡ Ok (disks ++ blank ∷ [])). (
      answers,
      log,
      record {
        leads = leads;
        unwritten = unwritten;
        is = inl (λ more. ap (with_drive_named (Some n)) (exact more) ∙ step-named n (Some blank) disks log more e ∙ ap (λ (x : Result (List Disk) WireRefusal). drives_state x log more) (sym had));
      },
    ))
    (λ (lacked : IsLacked after). let k = none-left (Some n) (read (answers ++ [])) (ap (λ (x : DrivesRead). x.rest) (exact [])) in (
      answers ++ [],
      log,
      record {
        leads = leads;
        unwritten = unwritten;
        is = inr (lacked, k.0 ∙ ap (λ (x : DrivesRead). x.accesses) (exact []), k.1);
      },
    ))
    is

-- the disk in a file
more-file : {F : Type 0} (does : F → FolderAccess → F → Type 0) (n : List ℕ) (disks : List Disk) (r : Result Disk WireRefusal) (after : Result (List Disk) WireRefusal)
    (read : List FolderAnswer → DrivesRead) (start from to : F) (answers : List FolderAnswer) (log : List FolderAccess) → disk_named n ≡ None → IsExact read disks answers log →
    AccessesLead does start from log → AreNoFolderWrites log → IsFileDisk does n from to r → IsPushed disks r after →
    AreNamedDrivesRead does (λ answers. with_drive_named (Some n) (read answers)) after start to
more-file does n disks r after read start from to answers log e exact leads unwritten file is =
    let a = file.answer in
    let all = log ++ read_access n a ∷ [] in
    let stepped : (more : List FolderAnswer) → with_drive_named (Some n) (read (answers ++ a ∷ more)) ≡ drives_state (one_more_disk disks (disk_answered a)) all more =
    λ more. ap (with_drive_named (Some n)) (exact (a ∷ more)) ∙ step-named n None disks log (a ∷ more) e in (
      answers ++ a ∷ [],
      all,
      record {
        leads = accesses-more does start from to log (read_access n a) leads file.did;
        unwritten = reads-more log n a unwritten;
        is = ⊎_elim
            (λ (had : after ≡ one_more_disk disks r). inl (λ more.
            ap (λ (xs : List FolderAnswer). with_drive_named (Some n) (read xs)) (append_assoc answers (a ∷ []) more) ∙ stepped more
            ∙ ap (λ (x : Result (List Disk) WireRefusal). drives_state x all more) (ap (one_more_disk disks) (sym file.is) ∙ sym had)))
            (λ (lacked : IsLacked after). inr (lacked, ap (λ (x : DrivesRead). x.accesses) (stepped []), ap (λ (x : DrivesRead). x.rest) (stepped [])))
            is;
      },
    )

pushed-blank : (disks : List Disk) (blank : Disk) (r : Result Disk WireRefusal) (after : Result (List Disk) WireRefusal) → (r ≡ Ok blank) ⊎ IsLacked r → IsPushed disks r after →
    (after ≡ Ok (disks ++ blank ∷ [])) ⊎ IsLacked after
pushed-blank disks blank r after read is = ⊎_elim
    (λ (had : after ≡ one_more_disk disks r). ⊎_elim
    (λ (e : r ≡ Ok blank). inl (had ∙ ap (one_more_disk disks) e))
    (λ (e : IsLacked r). inr (had ∙ ap (one_more_disk disks) e))
    read)
    (λ (lacked : IsLacked after). inr lacked)
    is

more-exact : {F : Type 0} (does : F → FolderAccess → F → Type 0) (n : List ℕ) (blank : Option Disk) (disks : List Disk) (r : Result Disk WireRefusal) (after : Result (List Disk) WireRefusal)
    (read : List FolderAnswer → DrivesRead) (start from to : F) (answers : List FolderAnswer) (log : List FolderAccess) → disk_named n ≡ blank → IsExact read disks answers log →
    AccessesLead does start from log → AreNoFolderWrites log → IsDriveReadOf does n blank from to r → IsPushed disks r after →
    AreNamedDrivesRead does (λ answers. with_drive_named (Some n) (read answers)) after start to
more-exact {F} does n (Some blank) disks r after read start from to answers log e exact leads unwritten drive is =
    more-blank does n blank disks after read start to answers log e exact (subst (λ (f : F). AccessesLead does start f log) drive.0 leads) unwritten (pushed-blank disks blank r after drive.1 is)
more-exact does n None disks r after read start from to answers log e exact leads unwritten drive is =
    more-file does n disks r after read start from to answers log e exact leads unwritten drive is

-- the drive of a name
pub more-drive : {F : Type 0} (does : F → FolderAccess → F → Type 0) (n : List ℕ) (disks : List Disk) (r : Result Disk WireRefusal) (after : Result (List Disk) WireRefusal) (from to : F) →
    IsDriveRead does n from to r → IsPushed disks r after → IsOneDriveMore does (Some n) (Ok disks) after from to
more-drive does n disks r after from to drive is = λ read start k. ⊎_elim
    (λ (exact : IsExact read disks k.0 k.1).
    more-exact does n (disk_named n) disks r after read start from to k.0 k.1 refl exact k.2.leads k.2.unwritten drive is)
    (λ lack. absurd (not-lacked disks lack.0))
    k.2.is
  where
    not-lacked : (ds : List Disk) → (let x : Result (List Disk) WireRefusal = Ok ds in IsLacked x) → ⊥
    not-lacked ds e = cc

-- none so far
pub none-more : {F : Type 0} (does : F → FolderAccess → F → Type 0) (from : F) → AreNamedDrivesRead does none_read (Ok []) from from
none-more does from = ([], [], record { leads = refl; unwritten = tt; is = inl (λ more. refl) })

-- ---- one drive

abbrev disk_had : Disk → Result Disk WireRefusal
disk_had d = Ok d

abbrev disk_lacked : WireRefusal → Result Disk WireRefusal
disk_lacked why = Err why

-- the disk that bytes are
pub disk-file : (bytes : List ℕ) (d : Disk) → format_of_length (length bytes) ≡ Some d.format → concat d.sectors ≡ bytes → IsDisk d → disk_had d ≡ disk_of_file bytes
disk-file bytes d format sectors whole =
    ap disk_had (sym (disk_joined d whole)) ∙ ap (λ bs. disk_had (disk_of d.format bs)) sectors ∙ ap (λ f. disk_in_format f bytes) (sym format)

pub no_disk-file : (bytes : List ℕ) → format_of_length (length bytes) ≡ None → disk_lacked refusal.DamagedDisk ≡ disk_of_file bytes
no_disk-file bytes none = ap (λ f. disk_in_format f bytes) (sym none)

blank-read : {F : Type 0} (does : F → FolderAccess → F → Type 0) (n : List ℕ) (blank : Disk) (from : F) (r : Result Disk WireRefusal) → IfOk r (λ image. image ≡ blank) →
    IfErr r (λ why. why ≡ refusal.OutOfMemory) → IsDriveReadOf does n (Some blank) from from r
blank-read does n blank from (Ok image) made lacked = (refl, inl (ap disk_had made))
blank-read does n blank from (Err why) made lacked = (refl, inr (ap disk_lacked lacked))

pub drive-blank : {F : Type 0} (does : F → FolderAccess → F → Type 0) (n : List ℕ) (blank : Disk) (from : F) (r : Result Disk WireRefusal) → Some blank ≡ disk_named n → IfOk r (λ image. image ≡ blank) →
    IfErr r (λ why. why ≡ refusal.OutOfMemory) → IsDriveRead does n from from r
drive-blank does n blank from r e made lacked = subst (λ (o : Option Disk). IsDriveReadOf does n o from from r) e (blank-read does n blank from r made lacked)

pub drive-file : {F : Type 0} (does : F → FolderAccess → F → Type 0) (n : List ℕ) (from to : F) (r : Result Disk WireRefusal) → None ≡ disk_named n → IsFileDisk does n from to r → IsDriveRead does n from to r
drive-file does n from to r e k = subst (λ (o : Option Disk). IsDriveReadOf does n o from to r) e k

-- drives with one more, as the code has them
pub pushed-drive : (disks : List Disk) (drive : Disk) (r : Result (Vec Disk Global) WireRefusal) → IfOk r (λ all. all.items ≡ disks ++ drive ∷ []) → IfErr r (λ why. why ≡ refusal.OutOfMemory) →
    IsPushed disks (Ok drive) (images_had r)
pushed-drive disks drive (Ok all) made lacked = inl (ap (λ (ds : List Disk). let x : Result (List Disk) WireRefusal = Ok ds in x) made)
pushed-drive disks drive (Err why) made lacked = inr (ap (λ (w : WireRefusal). let x : Result (List Disk) WireRefusal = Err w in x) lacked)

pub unread-drive : (disks : List Disk) (why : WireRefusal) → IsPushed disks (Err why) (Err why)
unread-drive disks why = inl refl

-- ---- by what is matched

pub more-none_at : {F : Type 0} (does : F → FolderAccess → F → Type 0) (name : Option (Bor (List ℕ))) (r : Result (List Disk) WireRefusal) (from : F) → name ≡ None → IsOneDriveMore does (text_if name) r r from from
more-none_at does name r from e = subst (λ (o : Option (Bor (List ℕ))). IsOneDriveMore does (text_if o) r r from from) (sym e) (more-none does r from)

pub more-some_at : {F : Type 0} (does : F → FolderAccess → F → Type 0) (name : Option (Bor (List ℕ))) (n : Bor (List ℕ)) (r after : Result (List Disk) WireRefusal) (from to : F) → name ≡ Some n →
    IsOneDriveMore does (Some n.now) r after from to → IsOneDriveMore does (text_if name) r after from to
more-some_at does name n r after from to e k = subst (λ (o : Option (Bor (List ℕ))). IsOneDriveMore does (text_if o) r after from to) (sym e) k

pub more-had_at : {F : Type 0} (does : F → FolderAccess → F → Type 0) (name : Option (List ℕ)) (r : Result (Vec Disk Global) WireRefusal) (v : Vec Disk Global) (after : Result (List Disk) WireRefusal) (from to : F) →
    r ≡ Ok v → IsOneDriveMore does name (Ok v.items) after from to → IsOneDriveMore does name (images_had r) after from to
more-had_at does name r v after from to e k = subst (λ (x : Result (Vec Disk Global) WireRefusal). IsOneDriveMore does name (images_had x) after from to) (sym e) k

pub more-fault_at : {F : Type 0} (does : F → FolderAccess → F → Type 0) (name : Option (List ℕ)) (r : Result (Vec Disk Global) WireRefusal) (why : WireRefusal) (from : F) →
    r ≡ Err why → IsOneDriveMore does name (images_had r) (Err why) from from
more-fault_at does name r why from e = subst (λ (x : Result (Vec Disk Global) WireRefusal). IsOneDriveMore does name (images_had x) (Err why) from from) (sym e) (more-fault does name why from)

pub none-more_at : {F : Type 0} (does : F → FolderAccess → F → Type 0) (from : F) (disks : List Disk) → disks ≡ [] → AreNamedDrivesRead does none_read (Ok disks) from from
none-more_at does from disks e = subst (λ (ds : List Disk). AreNamedDrivesRead does none_read (Ok ds) from from) (sym e) (none-more does from)
