-- Files that are put on a disk, one after the other.
use Rattle.std.proofs.Common.{◌≡◌, ◌≢◌, ◌∙◌, ⊎_elim, inl, inr, ℕ, ◌+◌, ◌<◌, ◌≤◌, true, false, eqb, List, [], ◌∷◌, ap, arith, drop, get_or, length, map, refl, subst, sym}
use Rattle.std.proofs.lemmas.Bool.{false≢true, and_from, eq-eqb, false_from_ne_true, or_parts}
use Rattle.std.specs.List.{list_any}
use Rattle.std.proofs.lemmas.List.{drop_all, drop_more}
use Rattle.std.proofs.lemmas.Option.{none-some}
use Rattle.cpm_directory.specs.Directory.{entries_of}
use Rattle.cpm_geom.specs.Disk.{Disk, blank_disk}
use Rattle.cpm_geom.specs.declared.format.Format.TheVariants.{Ibm3740, Large}
use Rattle.cpm_image_files.specs.ImageFiles.{entry_on, records_for, DiskHasFile, IsPut, IsPutRefusal, IsSoundDisk}
use Rattle.cpm_image_files.proofs.EndLemmas.{named_parts}
use Rattle.cpm_volume.proofs.NameLemmas.{same_name-trans}
use Rattle.cpm_volume.specs.Files.{deleted, entry_at, same_name, InUse}
use Rattle.cpm_volume.specs.Names.{is_named}
use Rattle.cpm_volume.specs.declared.extent.Entry.{Entry}
use Rattle.cpm_image_files.specs.declared.name.FileName.{FileName}
use Rattle.cpm_image_files.specs.declared.refusal.FileRefusal.{FileRefusal}
use Rattle.cpm_image_files.specs.declared.refusal.ImageFilesError.{ImageFilesError}
use Rattle.cpm_image_files.specs.declared.refusal.ImageFilesError.TheVariants as image_error
use Rattle.cpm_disk_commands.specs.DiskCommands.{IsPutTold}
use Rattle.cpm_disk_commands.specs.Folder.{host_file, AreApart, AreFilesPut, FilesLaw, HasEach, IsFilesRefusal, IsFirstUntaken}
use Rattle.cpm_disk_commands.specs.Refusals.{file_named, is_same_file, IsTold}
use Rattle.cpm_disk_commands.specs.declared.damage.NamedFile.{NamedFile}
use Rattle.cpm_disk_commands.specs.declared.error.DiskCommandError.{DiskCommandError}
use Rattle.cpm_disk_commands.specs.declared.error.DiskCommandError.TheVariants.{NotName, NotPattern, NotPair, PutTwice, NotImage, Damaged, LeftDamaged}
use Rattle.cpm_disk_commands.specs.declared.error.DiskCommandError.TheVariants.{NoFile, NoHostName, Refused, OutputUnwritable, OutOfMemory}
use Rattle.cpm_disk_commands.specs.declared.folder.HostFile.{HostFile}

-- ---- a disk with some of the files

-- The files before the rest are on a sound disk: what the rest leads to, all lead to; and what the disk doesn't take of it, the first disk doesn't take of all.
pub record HasFiles (all rest : List (FileName × List ℕ)) (first disk : Disk) : Type 0 where
  pub leads : (last : Disk) → AreFilesPut rest disk last → AreFilesPut all first last
  pub refuses : (refused : NamedFile) (reason : FileRefusal) → IsFirstUntaken rest disk refused reason → IsFirstUntaken all first refused reason
  pub sound : IsSoundDisk disk

pub no_files : (all : List (FileName × List ℕ)) (disk : Disk) → IsSoundDisk disk → HasFiles all all disk disk
no_files all disk sound = record { leads = λ last h. h; refuses = λ refused reason h. h; sound = sound }

pub file_put : (all rest later : List (FileName × List ℕ)) (file : FileName) (bytes : List ℕ) (first disk next : Disk) → rest ≡ (file, bytes) ∷ later
    → IsPut disk file.user file.name bytes next → HasFiles all rest first disk → HasFiles all later first next
file_put all rest later file bytes first disk next is put h =
    record {
      leads = λ last more. h.leads last (subst (λ fs. AreFilesPut fs disk last) (sym is) (next, put, more));
      refuses = λ refused reason more. h.refuses refused reason (subst (λ fs. IsFirstUntaken fs disk refused reason) (sym is) (inr (next, put, more)));
      sound = put.sound;
    }

pub files_put : (all rest : List (FileName × List ℕ)) (first disk : Disk) → rest ≡ [] → HasFiles all rest first disk → AreFilesPut all first disk
files_put all rest first disk none h = h.leads disk (subst (λ fs. AreFilesPut fs disk disk) (sym none) refl)

-- ---- why a disk takes no more

refused_is : (folder : List ℕ) (all : List (FileName × List ℕ)) (first disk : Disk) (about : NamedFile) (reason : FileRefusal) (e : DiskCommandError)
    → IsFirstUntaken all first about reason → IsTold disk folder about (image_error.Refused reason) e → IsFilesRefusal folder all first e
refused_is folder all first disk about reason (Refused shown told why) h t =
    (t.0, subst (λ n. IsFirstUntaken all first n why) (sym t.1) (subst (λ r. IsFirstUntaken all first about r) (sym t.2) h))
refused_is folder all first disk about reason (NotName text) h t = absurd t
refused_is folder all first disk about reason (NotPattern text) h t = absurd t
refused_is folder all first disk about reason (NotPair text) h t = absurd t
refused_is folder all first disk about reason (PutTwice word other) h t = absurd t
refused_is folder all first disk about reason (NotImage shown count) h t = absurd t
refused_is folder all first disk about reason (Damaged shown damage) h t = absurd t
refused_is folder all first disk about reason (LeftDamaged shown damage) h t = absurd t
refused_is folder all first disk about reason (NoFile shown pattern user) h t = absurd t
refused_is folder all first disk about reason (NoHostName shown other) h t = absurd t
refused_is folder all first disk about reason (OutputUnwritable cause) h t = absurd t
refused_is folder all first disk about reason OutOfMemory h t = absurd t

pub not_put : (folder : List ℕ) (all rest later : List (FileName × List ℕ)) (file : FileName) (bytes : List ℕ) (first disk : Disk) (e : DiskCommandError)
    → rest ≡ (file, bytes) ∷ later → HasFiles all rest first disk → IsPutTold disk folder file false bytes e → IsFilesRefusal folder all first e
not_put folder all rest later file bytes first disk e is has told =
    ⊎_elim (λ h. absurd (false≢true h.0)) (λ h. go h.0 h.1 h.2) told
  where
    go : (why : ImageFilesError) → IsPutRefusal disk file.user file.name (records_for (length bytes)) why → IsTold disk folder (file_named file) why e
        → IsFilesRefusal folder all first e
    go (image_error.Damaged fault) h t = absurd (none-some fault (sym (has.sound h.0) ∙ h.1))
    go (image_error.Refused reason) h t =
        refused_is folder all first disk (file_named file) reason e (has.refuses (file_named file) reason (subst (λ fs. IsFirstUntaken fs disk (file_named file) reason) (sym is) (inl (refl, h.1)))) t
    go image_error.OutOfMemory h t = subst (λ x. IsFilesRefusal folder all first x) (sym t) tt

pub no_memory : (folder : List ℕ) (all : List (FileName × List ℕ)) (first : Disk) (e : DiskCommandError) → e ≡ OutOfMemory → IsFilesRefusal folder all first e
no_memory folder all first e is = subst (λ x. IsFilesRefusal folder all first x) (sym is) tt

-- ---- the rest of a list that is gone through

abbrev pub rest_of : List HostFile → ℕ → List (FileName × List ℕ)
rest_of files i = map host_file (drop i files)

pub next_file : (files : List HostFile) (i : ℕ) (d : HostFile) → i < length files → rest_of files i ≡ host_file (get_or files i d) ∷ rest_of files (i + 1)
next_file files i d l = ap (map host_file) (drop_more files i d l)

pub no_rest : (files : List HostFile) (i : ℕ) → length files ≤ i → rest_of files i ≡ []
no_rest files i l = ap (map host_file) (drop_all i files l)

-- ---- files that are put after others leave those there

apart : (file put : FileName) → is_same_file file put ≡ false → file.user ≡ put.user → same_name file.name put.name ≡ true → ⊥
apart file put h user name = false≢true (sym h ∙ and_from (eqb file.user put.user) (same_name file.name put.name) (eq-eqb file.user put.user user) name)

not_named : (file put : FileName) (e : Entry) → is_same_file file put ≡ false → is_named file.user file.name e ≡ true → is_named put.user put.name e ≡ false
not_named file put e h is = false_from_ne_true _ (λ of_put.
    let own = named_parts file.user file.name e file.plain is in
    let other = named_parts put.user put.name e put.plain of_put in
    apart file put h (sym own.0 ∙ other.0) (same_name-trans file.name put.name e.extent.name own.1 other.1))

live : (file : FileName) → file.user ≢ deleted
live file is = let small = file.within in omega (arith, small, is)

in_use : (file : FileName) (es : List Entry) (i : ℕ) → is_named file.user file.name (entry_at es i) ≡ true → InUse es i
in_use file es i is = record { used = λ gone. live file (sym (named_parts file.user file.name (entry_at es i) file.plain is).0 ∙ gone) }

stays : (file put : FileName) (bytes more : List ℕ) (old new : Disk) → is_same_file file put ≡ false → IsPut old put.user put.name more new
    → DiskHasFile old file.user file.name bytes → DiskHasFile new file.user file.name bytes
stays file put bytes more old new h is has =
    let named = is_named file.user file.name in
    let i = has.there.0 in
    let same = is.others.entries i (in_use file (entries_of old) i has.there.1) (not_named file put (entry_on old i) h has.there.1) in
    record {
      there = (i, ap named same ∙ has.there.1);
      attributes = λ k of_file.
          let was = is.others.no_more k (in_use file (entries_of new) k of_file) (not_named file put (entry_on new k) h of_file) in
          ap (λ (e : Entry). e.extent.name) (sym was) ∙ has.attributes k (ap named was ∙ of_file);
      records = λ m. is.others.records file.user file.name m (live file) (apart file put h) ∙ has.records m;
    }

all_stay : (file : FileName) (bytes : List ℕ) (files : List (FileName × List ℕ)) (old new : Disk) → list_any (λ other. is_same_file file other.0) files ≡ false
    → AreFilesPut files old new → DiskHasFile old file.user file.name bytes → DiskHasFile new file.user file.name bytes
all_stay file bytes [] old new none put has = subst (λ disk. DiskHasFile disk file.user file.name bytes) (sym put) has
all_stay file bytes (other ∷ files) old new none put has =
    let both = or_parts (is_same_file file other.0) (list_any (λ o. is_same_file file o.0) files) none in
    all_stay file bytes files put.0 new both.1 put.2 (stays file other.0 bytes other.1 old put.0 both.0 put.1 has)

each_there : (files : List (FileName × List ℕ)) (old new : Disk) → AreApart files → AreFilesPut files old new → HasEach new files
each_there [] old new all put = tt
each_there (file ∷ files) old new all put =
    (all_stay file.0 file.1 files put.0 new all.0 put.2 put.1.file, each_there files put.0 new all.1 put.2)

pub files_law : FilesLaw
files_law files disk all is =
    ⊎_elim (λ put. each_there files (blank_disk Ibm3740) disk all put) (λ h. each_there files (blank_disk Large) disk all h.1) is
