-- A file is taken off a disk.
use Rattle.std.proofs.Common.{◌≡◌, ◌≢◌, ℕ, ◌<◌, ◌≤◌, Bool, true, false, eqb, List, Option, Result, Ok, length, sym, subst, refl, ap, ◌∙◌, inl, inr, arith}
use Rattle.std.specs.List.{list_any}
use Rattle.std.proofs.lemmas.List.Sums.{passes_at_first, fails_before_first}
use Rattle.std.proofs.lemmas.List.{get_or_past}
use Rattle.std.proofs.lemmas.Bool.{false≢true, and_left, and_parts, eqb-true, ne_eqb, cases_lt, lt-ltb}
use Rattle.cpm_geom.specs.declared.dpb.Dpb.{Dpb}
use Rattle.cpm_geom.specs.declared.format.Format.{Format}
use Rattle.cpm_geom.specs.Geometry.{dpb_of}
use Rattle.cpm_geom.specs.Disk.{Disk, HasBytes, IsDisk}
use Rattle.cpm_volume.specs.declared.extent.Entry.{Entry}
use Rattle.cpm_volume.specs.declared.answer.Fault.{Fault}
use Rattle.cpm_volume.specs.Files.{deleted, has_wildcard, no_entry, entry_at, InUse, IsWellFormed, Volume}
use Rattle.cpm_volume.specs.Names.{is_named, first_named, protects, NameOutcome, none_named, file_read_only, named, erase_files_on_volume}
use Rattle.cpm_volume.proofs.Formats.{each_format}
use Rattle.cpm_directory.specs.Directory.{entries_of}
use Rattle.cpm_directory.specs.Login.{reserved_at_login}
use Rattle.cpm_directory.proofs.CheckedLemmas.{checked}
use Rattle.cpm_directory.proofs.LawLemmas.{reserves}
use Rattle.cpm_drive.specs.declared.drive.Drive.{Drive}
use Rattle.cpm_drive.specs.Drive.{volume_of, new_marks, drive_after}
use Rattle.cpm_drive.specs.Calls.{logged_in}
use Rattle.cpm_drive.specs.Reads.{lent_drive}
use Rattle.cpm_drive.specs.Named.{after_named}
use Rattle.cpm_drive.specs.Laws.{IsWritable}
use Rattle.cpm_image_files.specs.ImageFiles.{IsSoundDisk, KeepsOtherFiles}
use Rattle.cpm_image_files.specs.Writing.{IsCleared}
use Rattle.cpm_image_files.specs.Taken.{fresh_volume, IsLeftBy, IsRemovable, IsRemoved}
use Rattle.cpm_image_files.proofs.ErasedLemmas.{erased}

-- ---- a drive that agrees with itself has a sound disk

pub at_login : (d : Dpb) (es : List Entry) (reserved : List Bool) → (f : Format) → d ≡ dpb_of f → IsWellFormed d es reserved → IsWellFormed d es (reserved_at_login d es)
at_login d es reserved f of_format well =
    let login = reserves d es (rw of_format (each_format f)) in
    record {
      once = well.once;
      stored = λ i s used some. record {
        within = (well.stored i s used some).within;
        outside = (well.stored i s used some).outside;
        kept = login.numbers i s used some;
      };
      directory = login.directory;
      apart = well.apart;
    }

pub sound_again : (disk : Disk) (reserved : List Bool) → IsWellFormed (dpb_of disk.format) (entries_of disk) reserved → IsSoundDisk disk
sound_again disk reserved well = (checked disk).1 (at_login (dpb_of disk.format) (entries_of disk) reserved disk.format refl well)

-- ---- whether a file is there

pub user_of : (user : ℕ) (name : List ℕ) (e : Entry) → is_named user name e ≡ true → e.user ≡ user
unfolding is_named
user_of user name e h = eqb-true _ _ (and_parts (eqb e.user user) _ h).0

pub no_entry_named : (user : ℕ) (name : List ℕ) → user ≢ deleted → is_named user name no_entry ≡ false
unfolding is_named no_entry
no_entry_named user name ok = and_left _ _ (ne_eqb _ _ (λ z. ok (sym z)))

pub first_there : (es : List Entry) (user : ℕ) (name : List ℕ) → user ≢ deleted → first_named es user name < length es → (i : ℕ) × InUse es i × (is_named user name (entry_at es i) ≡ true)
unfolding first_named entry_at
first_there es user name ok there =
    let passes : is_named user name (entry_at es (first_named es user name)) ≡ true = passes_at_first (is_named user name) es no_entry there in
    (first_named es user name, record { used = λ z. ok (sym (user_of user name _ passes) ∙ z) }, passes)

pub none_there : (es : List Entry) (user : ℕ) (name : List ℕ) → user ≢ deleted → length es ≤ first_named es user name → (i : ℕ) → is_named user name (entry_at es i) ≡ false
unfolding first_named entry_at
none_there es user name ok past i =
    elim (cases_lt i (length es)) [
      | inl lt ↦ fails_before_first (is_named user name) es i no_entry (omega arith)
      | inr ge ↦ rw (get_or_past es i no_entry ge) (no_entry_named user name ok)
    ]

-- an entry of the name is there: the first
pub first_below : (es : List Entry) (user : ℕ) (name : List ℕ) (i : ℕ) → user ≢ deleted → is_named user name (entry_at es i) ≡ true → first_named es user name < length es
first_below es user name i live h =
    elim (cases_lt (first_named es user name) (length es)) [
      | inl lt ↦ lt
      | inr ge ↦ absurd (false≢true (sym (none_there es user name live ge i) ∙ h))
    ]

-- ---- the answer of a call on all entries of a name

abbrev pub EraseResult : Type 0
EraseResult = Result (Option ℕ) Fault × Drive

-- ---- the disk then

pub others_kept : (old : Disk) (user : ℕ) (name : List ℕ) (drive : Drive) → IsCleared old user name drive → KeepsOtherFiles user name old drive.image
others_kept old user name drive cleared = record {
  format = cleared.keeps.format;
  entries = cleared.keeps.entries.stay;
  no_more = cleared.keeps.entries.no_more;
  records = cleared.keeps.records;
  system = cleared.keeps.system;
}

pub sound_cleared : (old : Disk) (user : ℕ) (name : List ℕ) (drive : Drive) → IsCleared old user name drive → IsSoundDisk drive.image
unfolding volume_of
sound_cleared old user name drive cleared =
    sound_again drive.image drive.marks.reserved (subst (λ (f : Format). IsWellFormed (dpb_of f) (entries_of drive.image) drive.marks.reserved) (sym cleared.keeps.format) cleared.sound.well_formed)

-- ---- a drive of a disk that is logged in

abbrev pub fresh_drive : Disk → Drive
fresh_drive image =
    record {
      image = image;
      marks = record { reserved = reserved_at_login (dpb_of image.format) (entries_of image); is_logged_in = true; is_protected = false };
    }

pub fresh : (image : Disk) (made drive : Drive) → made ≡ lent_drive image (new_marks image.format false) → drive ≡ logged_in made → drive ≡ fresh_drive image
fresh image made drive a b = b ∙ ap logged_in a

pub writable : (image : Disk) → IsDisk image → HasBytes image → IsWritable (fresh_drive image)
writable image whole bytes = record { disk = whole; bytes = bytes; free = refl }

pub answered : (image : Disk) (drive : Drive) (u user : ℕ) (n name : List ℕ) (answer : EraseResult) → drive ≡ fresh_drive image → u ≡ user → n ≡ name → answer ≡ after_named drive (erase_files_on_volume (dpb_of drive.image.format) (volume_of drive.image drive.marks.reserved) u n) → answer ≡ after_named (fresh_drive image) (erase_files_on_volume (dpb_of image.format) (volume_of image (reserved_at_login (dpb_of image.format) (entries_of image))) user name)
answered image drive u user n name answer a b c e = e ∙ rw (a, b, c) refl

-- ---- the disk that a call leaves
pub left_by : (image : Disk) (called : NameOutcome) (answer : EraseResult) → (called ≡ none_named → ⊥) → (called ≡ file_read_only → ⊥) → answer ≡ after_named (fresh_drive image) called → IsLeftBy called image answer.1.image
unfolding after_named drive_after
left_by image none_named answer some free e = absurd (some refl)
left_by image file_read_only answer some free e = absurd (free refl)
left_by image (named first v) answer some free e = ap (λ (p : EraseResult). p.1.image) e

done_not_none : (first : ℕ) (v : Volume) → named first v ≡ none_named → ⊥
done_not_none first v e = cc

done_not_read_only : (first : ℕ) (v : Volume) → named first v ≡ file_read_only → ⊥
done_not_read_only first v e = cc

module _ (image : Disk) (user : ℕ) (name : List ℕ) (there : first_named (entries_of image) user name < length (entries_of image)) (unprotected : list_any (protects user name) (entries_of image) ≡ false) where
  erase_some : erase_files_on_volume (dpb_of image.format) (fresh_volume image) user name ≡ none_named → ⊥
  unfolding erase_files_on_volume volume_of
  erase_some e = done_not_none _ _ (rw (lt-ltb _ _ there, unprotected) at e)

  erase_free : erase_files_on_volume (dpb_of image.format) (fresh_volume image) user name ≡ file_read_only → ⊥
  unfolding erase_files_on_volume volume_of
  erase_free e = done_not_read_only _ _ (rw (lt-ltb _ _ there, unprotected) at e)

  left_erased : (answer : EraseResult) → answer ≡ after_named (fresh_drive image) (erase_files_on_volume (dpb_of image.format) (fresh_volume image) user name) → IsLeftBy (erase_files_on_volume (dpb_of image.format) (fresh_volume image) user name) image answer.1.image
  left_erased answer e = left_by image (erase_files_on_volume (dpb_of image.format) (fresh_volume image) user name) answer erase_some erase_free e

pub removed : (image : Disk) (user : ℕ) (name : List ℕ) (result : Result (Option ℕ) Fault) (drive' : Drive) → user < 16 → has_wildcard name ≡ false → IsDisk image → HasBytes image → IsSoundDisk image → IsRemovable image user name → (result, drive') ≡ after_named (fresh_drive image) (erase_files_on_volume (dpb_of image.format) (volume_of image (reserved_at_login (dpb_of image.format) (entries_of image))) user name) → ((code : Option ℕ) × (result ≡ Ok code)) × IsRemoved image user name drive'.image
removed image user name result drive' small plain whole bytes sound removable e =
    let live : user ≢ deleted = λ z. absurd (omega arith) in
    let there = first_below (entries_of image) user name removable.0.0 live removable.0.2 in
    let done = erased (fresh_drive image) user name small plain (writable image whole bytes) sound refl removable.1 result drive' e in (
      done.0,
      record {
        sound_before = sound;
        there = removable.0;
        unprotected = removable.1;
        call = left_erased image user name there removable.1 (result, drive') e;
        absent = done.1.gone;
        others = others_kept image user name drive' done.1;
        sound = sound_cleared image user name drive' done.1;
      },
    )
