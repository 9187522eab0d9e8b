-- A disk whose file got another name.
use Rattle.std.proofs.Common.{◌≡◌, ◌≢◌, ◌⊎◌, ℕ, ◌<◌, ◌≤◌, Bool, true, false, ◌&&◌, ◌++◌, eqb, List, Some, Ok, length, sym, subst, refl, ap, ◌∙◌, inl, inr, arith, Option, Result}
use Rattle.std.specs.List.{list_any}
use Rattle.std.proofs.lemmas.List.Sums.{position_or_len_is}
use Rattle.std.proofs.lemmas.Bool.{false≢true, lt-ltb, false_from_ne_true}
use Rattle.cpm_geom.specs.declared.dpb.Dpb.{Dpb}
use Rattle.cpm_geom.specs.declared.format.Format.{Format}
use Rattle.cpm_geom.specs.Geometry.{dpb_of}
use Rattle.cpm_geom.specs.Disk.{Disk, HasBytes, IsDisk, records_of, sector_at}
use Rattle.cpm_volume.specs.declared.extent.Entry.{Entry}
use Rattle.cpm_volume.specs.declared.answer.Fault.{Fault}
use Rattle.cpm_volume.specs.Encoding.{AreBytes}
use Rattle.cpm_volume.specs.Files.{deleted, has_wildcard, same_name, no_entry, entry_at, file_block, file_record, record_in, IsWellFormed, IsVolume, IsSoundDrive, Volume}
use Rattle.cpm_volume.specs.Names.{is_named, first_named, protects, change_named, named_writes, renaming, rename_files_on_volume, named}
use Rattle.cpm_volume.proofs.NameLemmas.{name_matches_plain, same_name_as, same_name-sym, same_name-trans, file_block_same}
use Rattle.cpm_directory.specs.Directory.{entries_of}
use Rattle.cpm_directory.specs.Login.{reserved_at_login}
use Rattle.cpm_directory.proofs.CheckedLemmas.{checked}
use Rattle.cpm_drive.specs.declared.drive.Drive.{Drive}
use Rattle.cpm_drive.specs.Drive.{volume_of, drive_after, directory_code}
use Rattle.cpm_drive.specs.Named.{after_named}
use Rattle.cpm_drive.proofs.DiskLemmas.{disk_is_volume}
use Rattle.cpm_drive.proofs.DiskReach.{calls_reach}
use Rattle.cpm_image_files.specs.ImageFiles.{record_on, system_sectors, IsSoundDisk}
use Rattle.cpm_image_files.specs.Taken.{fresh_volume, IsLeftBy, kept_name, IsFreeName, IsThere, IsRenamable, IsRenamed}
use Rattle.cpm_image_files.proofs.FreeLemmas.{login_length}
use Rattle.cpm_image_files.proofs.SystemLemmas.{system_after}
use Rattle.cpm_image_files.proofs.DiskLemmas.{HasVolume, has_volume}
use Rattle.cpm_image_files.proofs.RemovingLemmas.{fresh_drive, writable, sound_again, user_of, first_there, first_below, EraseResult}
use Rattle.cpm_image_files.proofs.RenamingLemmas as entries

pub first_named_is : (es : List Entry) (user : ℕ) (name : List ℕ) (i : ℕ) → i ≤ length es → ((k : ℕ) → k < i → is_named user name (entry_at es k) ≡ false) → (i < length es → is_named user name (entry_at es i) ≡ true) → first_named es user name ≡ i
unfolding first_named entry_at
first_named_is es user name i within before here = position_or_len_is (is_named user name) es i no_entry within before here

-- names that agree are of the same entries
pub named_same : (user : ℕ) (a b : List ℕ) (e : Entry) → has_wildcard a ≡ false → has_wildcard b ≡ false → same_name a b ≡ true → is_named user a e ≡ is_named user b e
unfolding is_named
named_same user a b e pa pb h =
    ap (λ (t : Bool). eqb e.user user && t) (name_matches_plain a e.extent.name pa ∙ (same_name_as a b e.extent.name h ∙ sym (name_matches_plain b e.extent.name pb)))

-- ---- the answer of the call
module _ (drive : Drive) (user : ℕ) (name kept : List ℕ) where
  unfoldable pub volume_now : Volume
  volume_now =
      record (volume_of drive.image drive.marks.reserved) { entries = change_named user name (renaming kept) (entries_of drive.image); written = (volume_of drive.image drive.marks.reserved).written ++ named_writes user name 0 (entries_of drive.image) (change_named user name (renaming kept) (entries_of drive.image)) }

  pub answer_is : first_named (entries_of drive.image) user name < length (entries_of drive.image) → list_any (protects user name) (entries_of drive.image) ≡ false → rename_files_on_volume (volume_of drive.image drive.marks.reserved) user name kept ≡ named (first_named (entries_of drive.image) user name) volume_now
  unfolding rename_files_on_volume volume_of volume_now
  answer_is there free = rw (lt-ltb _ _ there, free) refl

  pub drive_is : (answer : EraseResult) → first_named (entries_of drive.image) user name < length (entries_of drive.image) → list_any (protects user name) (entries_of drive.image) ≡ false → answer ≡ after_named drive (rename_files_on_volume (volume_of drive.image drive.marks.reserved) user name kept) → answer ≡ (Ok (Some (directory_code (first_named (entries_of drive.image) user name))), drive_after drive volume_now)
  unfolding after_named
  drive_is answer there free e = rw (answer_is there free) at e

-- ---- the disk then
pub fresh_answer : (image : Disk) (drive : Drive) (u user : ℕ) (n name kept : List ℕ) (answer : EraseResult) → drive ≡ fresh_drive image → u ≡ user → n ≡ name → answer ≡ after_named drive (rename_files_on_volume (volume_of drive.image drive.marks.reserved) u n kept) → answer ≡ after_named (fresh_drive image) (rename_files_on_volume (volume_of image (reserved_at_login (dpb_of image.format) (entries_of image))) user name kept)
fresh_answer image drive u user n name kept answer a b c e = e ∙ rw (a, b, c) refl

not_both : (b : Bool) → b ≡ true → b ≡ false → ⊥
not_both b t f = false≢true (sym f ∙ t)

module _ (image : Disk) (user : ℕ) (name new_name kept : List ℕ) (small : user < 16) (plain : has_wildcard name ≡ false) (new_plain : has_wildcard new_name ≡ false) (bytes : AreBytes 11 kept) (whole : IsDisk image) (has_bytes : HasBytes image) (sound : IsSoundDisk image) (free : IsFreeName image user name new_name) (kept_is : kept ≡ kept_name image user name new_name) (there : first_named (entries_of image) user name < length (entries_of image)) (unprotected : list_any (protects user name) (entries_of image) ≡ false) where
  live : user ≢ deleted
  live z = absurd (omega arith)

  like_new : same_name new_name kept ≡ true
  like_new = rw kept_is (entries.same_but_attributes new_name _)

  kept_plain : has_wildcard kept ≡ false
  kept_plain = rw kept_is (entries.kept_plain new_name _ new_plain)

  free_kept : (same_name name kept ≡ true) ⊎ ((i : ℕ) → is_named user kept (entry_at (entries_of image) i) ≡ false)
  free_kept =
      elim free [
        | inl own ↦ inl (same_name-trans name kept new_name own (same_name-sym new_name kept like_new))
        | inr absent ↦ inr (λ i. sym (named_same user new_name kept (entry_at (entries_of image) i) new_plain kept_plain like_new) ∙ absent i)
      ]

  d : Dpb
  d = dpb_of image.format

  unfoldable es' : List Entry
  es' = entries.after (dpb_of image.format) (entries_of image) user name kept live plain kept_plain free_kept

  unfoldable v' : Volume
  v' = volume_now (fresh_drive image) user name kept

  v'_entries : v'.entries ≡ es'
  unfolding v' volume_now es' entries.after
  v'_entries = refl

  v'_records : v'.records ≡ records_of image
  unfolding v' volume_now volume_of
  v'_records = refl

  v'_reserved : v'.reserved ≡ reserved_at_login (dpb_of image.format) (entries_of image)
  unfolding v' volume_now volume_of
  v'_reserved = refl

  well : IsWellFormed (dpb_of image.format) es' (reserved_at_login (dpb_of image.format) (entries_of image))
  unfolding es'
  well =
      entries.well_after (dpb_of image.format) (entries_of image) user name kept live plain kept_plain free_kept (reserved_at_login (dpb_of image.format) (entries_of image)) ((checked image).0 sound)

  volume_was : IsVolume (dpb_of image.format) (volume_of image (reserved_at_login (dpb_of image.format) (entries_of image)))
  volume_was = disk_is_volume image (reserved_at_login (dpb_of image.format) (entries_of image)) (login_length (dpb_of image.format) (entries_of image))

  sound_now : IsSoundDrive (dpb_of image.format) v'
  unfolding volume_of es'
  sound_now = record {
    volume = record {
      blocks = ap length v'_reserved ∙ volume_was.blocks;
      space = rw v'_records volume_was.space;
      maps = rw v'_entries (entries.maps_after (dpb_of image.format) (entries_of image) user name kept live plain kept_plain free_kept volume_was.maps);
    };
    well_formed = rw (v'_entries, v'_reserved) well;
  }

  unfoldable pub now : Drive
  now = drive_after (fresh_drive image) (volume_now (fresh_drive image) user name kept)

  has : HasVolume image.format now v'
  unfolding now v'
  has =
      has_volume image.format (fresh_drive image) (volume_now (fresh_drive image) user name kept) refl refl (((calls_reach (fresh_drive image) (writable image whole has_bytes)).1 user name).rename kept (first_named (entries_of image) user name) (volume_now (fresh_drive image) user name kept) bytes (answer_is (fresh_drive image) user name kept there unprotected))

  entries_now : entries_of now.image ≡ es'
  entries_now = has.entries ∙ v'_entries

  entry_now : (i : ℕ) → entry_at (entries_of now.image) i ≡ entry_at es' i
  entry_now i = ap (λ es. entry_at es i) entries_now

  record_now : (u : ℕ) (n : List ℕ) (m : ℕ) → u ≢ deleted → record_on now.image u n m ≡ record_in (dpb_of image.format) (records_of image) (file_block (dpb_of image.format) es' u n m) m
  unfolding file_record
  record_now u n m ok =
      has.listed u n m ok sound_now ∙ rw (v'_entries, v'_records) refl

  same_record : (u u' : ℕ) (n n' : List ℕ) (m : ℕ) → u' ≢ deleted → file_block (dpb_of image.format) es' u' n' m ≡ file_block (dpb_of image.format) (entries_of image) u n m → record_on now.image u' n' m ≡ record_on image u n m
  unfolding file_record
  same_record u u' n n' m ok e = record_now u' n' m ok ∙ ap (λ b. record_in (dpb_of image.format) (records_of image) b m) e

  named_now : (i : ℕ) → is_named user new_name (entry_at (entries_of now.image) i) ≡ is_named user kept (entry_at es' i)
  named_now i = ap (is_named user new_name) (entry_now i) ∙ named_same user new_name kept (entry_at es' i) new_plain kept_plain like_new

  -- another name than the file's is another than the new one
  not_new : (other : ℕ) (other_name : List ℕ) → (other ≡ user → same_name other_name new_name ≡ true → ⊥) → other ≡ user → same_name other_name kept ≡ true → ⊥
  not_new other other_name apart u e = apart u (same_name-trans other_name new_name kept e like_new)

  there_before : IsThere image user name
  there_before = first_there (entries_of image) user name live there

  is_there : IsThere now.image user new_name
  unfolding es'
  is_there =
      let named = named_now there_before.0 ∙ entries.named_after (dpb_of image.format) (entries_of image) user name kept live plain kept_plain free_kept there_before.0 there_before.2 in
      (there_before.0, record { used = λ z. live (sym (user_of user new_name (entry_at (entries_of now.image) there_before.0) named) ∙ z) }, named)

  sound_after : IsSoundDisk now.image
  unfolding volume_of
  sound_after = sound_again now.image now.marks.reserved (subst (λ (f : Format). IsWellFormed (dpb_of f) (entries_of now.image) now.marks.reserved) (sym has.format) (has.sound_drive sound_now).well_formed)

  not_kept : same_name name new_name ≡ false → same_name name kept ≡ false
  not_kept other =
      false_from_ne_true _ (λ t. not_both _ (same_name-trans name new_name kept t like_new) other)

  system : (place : ℕ) → place < system_sectors image.format → sector_at now.image place ≡ sector_at image place
  unfolding now
  system place h = system_after (fresh_drive image) (volume_now (fresh_drive image) user name kept) place refl h

  left : IsLeftBy (rename_files_on_volume (fresh_volume image) user name (kept_name image user name new_name)) image now.image
  unfolding now drive_after
  left = rw (sym kept_is, answer_is (fresh_drive image) user name kept there unprotected) refl

  pub is_renamed : IsRenamed image user name new_name now.image
  unfolding es'
  is_renamed = record {
    sound_before = sound;
    there_before = there_before;
    free = free;
    unprotected = unprotected;
    call = left;
    there = is_there;
    attributes = λ i h. ap (λ (e : Entry). e.extent.name) (entry_now i) ∙ (entries.kept_after (dpb_of image.format) (entries_of image) user name kept live plain kept_plain free_kept i (sym (named_now i) ∙ h) ∙ kept_is);
    file = λ m. same_record user user name new_name m live (file_block_same (dpb_of image.format) es' user new_name kept m like_new ∙ entries.own_file (dpb_of image.format) (entries_of image) user name kept live plain kept_plain free_kept m);
    absent = λ other i. ap (is_named user name) (entry_now i) ∙ entries.absent_after (dpb_of image.format) (entries_of image) user name kept live plain kept_plain free_kept (not_kept other) i;
    format = has.format;
    entries = λ i used other. entry_now i ∙ entries.at_other (dpb_of image.format) (entries_of image) user name kept live plain kept_plain free_kept i other;
    no_more = λ i used other. entries.other_after (dpb_of image.format) (entries_of image) user name kept live plain kept_plain free_kept i (sym (named_now i) ∙ other) ∙ sym (entry_now i);
    records = λ other other_name m ok apart apart'. same_record other other other_name other_name m ok (entries.other_file (dpb_of image.format) (entries_of image) user name kept live plain kept_plain free_kept other other_name m apart (not_new other other_name apart'));
    system = system;
    sound = sound_after;
  }

pub renamed_by : (image : Disk) (user : ℕ) (name new_name kept : List ℕ) (result : Result (Option ℕ) Fault) (drive' : Drive) → user < 16 → has_wildcard name ≡ false → has_wildcard new_name ≡ false → AreBytes 11 kept → IsDisk image → HasBytes image → IsSoundDisk image → IsRenamable image user name new_name → kept ≡ kept_name image user name new_name → (result, drive') ≡ after_named (fresh_drive image) (rename_files_on_volume (volume_of image (reserved_at_login (dpb_of image.format) (entries_of image))) user name kept) → ((code : Option ℕ) × (result ≡ Ok code)) × IsRenamed image user name new_name drive'.image
unfolding now
renamed_by image user name new_name kept result drive' small plain new_plain bytes whole has_bytes sound renamable kept_is e =
    let live : user ≢ deleted = λ z. absurd (omega arith) in
    let there = first_below (entries_of image) user name renamable.0.0 live renamable.0.2 in
    let is = drive_is (fresh_drive image) user name kept (result, drive') there renamable.2 e in
    ((Some (directory_code (first_named (entries_of image) user name)), ap (λ (p : EraseResult). p.0) is), subst (λ (p : EraseResult). IsRenamed image user name new_name p.1.image) (sym is) (is_renamed image user name new_name kept small plain new_plain bytes whole has_bytes sound renamable.1 kept_is there renamable.2))
