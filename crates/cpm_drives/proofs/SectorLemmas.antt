-- The sectors of a drive.
use Rattle.std.proofs.Common.{◌≡◌, if◌then◌else◌, inl, inr, Result, Ok, Err, MatchResult, ℕ, true, false, List, Option, Some, None, is_some, unwrap_or, slice_set, refl, sym, ap, ◌∙◌}
use Rattle.std.proofs.lemmas.List.{set-get_or}
use Rattle.std.proofs.lemmas.Bool.{cases_Bool, lt-ltb, le-leb, ltb-true, leb-true, and_parts, false_from_ne_true}
use Rattle.std.specs.Result.{is_ok}
use Rattle.cpm_geom.specs.Disk.{Disk, sector_at, with_sector}
use Rattle.cpm_geom.specs.Geometry.{IsSector, sector_index}
use Rattle.cpm_geom.specs.declared.format.Format.{Format}
use Rattle.cpm_drive.specs.declared.drive.Drive.{Drive}
use Rattle.cpm_drives.specs.declared.disks.Disks.{Disks}
use Rattle.cpm_drives.specs.Disks.{own_drive, drive_at}
use Rattle.cpm_drives.specs.Sectors.{has_sector, sector_of_disk, sector_read, sector_written, drive_with_sector}
use Rattle.cpm_drives.proofs.DriveLemmas.{with_drive-own}

is_sector : (f : Format) (track sector : ℕ) → IsSector f track sector → has_sector f track sector ≡ true
unfolding has_sector
is_sector f track sector h = rw (lt-ltb _ _ h.track_there, le-leb _ _ h.first, lt-ltb _ _ h.last) refl

is_no_sector : (f : Format) (track sector : ℕ) → ¬ IsSector f track sector → has_sector f track sector ≡ false
unfolding has_sector
is_no_sector f track sector h =
    false_from_ne_true _ (λ e. h (record { track_there = ltb-true _ _ (and_parts _ _ e).0; first = leb-true _ _ (and_parts _ _ (and_parts _ _ e).1).0; last = ltb-true _ _ (and_parts _ _ (and_parts _ _ e).1).1 }))

-- reading a sector
pub read-there : (disks : Disks) (system disk : Disk) (n track sector : ℕ) (bytes : List ℕ) → disk ≡ (drive_at disks system n).image → IsSector disk.format track sector → bytes ≡ sector_at disk (sector_index disk.format track sector) → sector_read disks system n track sector ≡ Some bytes
unfolding sector_read sector_of_disk
read-there disks system disk n track sector bytes e h is = rw (← e, is_sector disk.format track sector h, ← is) refl

pub read-not : (disks : Disks) (system disk : Disk) (n track sector : ℕ) → disk ≡ (drive_at disks system n).image → ¬ IsSector disk.format track sector → sector_read disks system n track sector ≡ None
unfolding sector_read sector_of_disk
read-not disks system disk n track sector e h = rw (← e, is_no_sector disk.format track sector h) refl

-- writing one
pub written-no_drive : (disks : Disks) (n track sector : ℕ) (bytes : List ℕ) → own_drive disks n ≡ None → sector_written disks n track sector bytes ≡ None
unfolding sector_written
written-no_drive disks n track sector bytes none = rw none refl

pub written-there : (disks : Disks) (n track sector : ℕ) (d : Drive) (bytes : List ℕ) → own_drive disks n ≡ Some d → has_sector d.image.format track sector ≡ is_some (sector_written disks n track sector bytes)
unfolding sector_written
written-there disks n track sector d bytes own =
    rw own (elim (cases_Bool (has_sector d.image.format track sector)) [ inl there ↦ rw there refl | inr none ↦ rw none refl ])

pub written-is : (disks : Disks) (i n track sector : ℕ) (d new : Drive) (bytes : List ℕ) → i ≡ n → own_drive disks n ≡ Some d → new ≡ (if has_sector d.image.format track sector then drive_with_sector d track sector bytes else d) → record disks { drives = slice_set disks.drives i (Some new) } ≡ unwrap_or (sector_written disks n track sector bytes) disks
unfolding sector_written own_drive
written-is disks i n track sector d new bytes e own is =
    elim (cases_Bool (has_sector d.image.format track sector)) [
      | inl there ↦ rw (own, there, e, rw there at is) (sym (with_drive-own disks n d (drive_with_sector d track sector bytes) own))
      | inr none ↦ (let same : slice_set disks.drives n (Some d) ≡ disks.drives = ap (λ (o : Option Drive). slice_set disks.drives n o) (sym own) ∙ set-get_or disks.drives n None in rw (own, none, e, rw none at is, same) refl)
    ]

-- a sector of an image that is written, or not there
pub put_any : {E : Type 0} (d : Drive) (image : Disk) (track sector : ℕ) (bytes : List ℕ) (error : E) (r : Result (Unit {0}) E) → MatchResult r (λ x. IsSector d.image.format track sector × (image ≡ with_sector d.image (sector_index d.image.format track sector) bytes)) (λ e. (¬ IsSector d.image.format track sector) × (e ≡ error) × (image ≡ d.image)) → (is_ok r ≡ has_sector d.image.format track sector) × (record d { image = image } ≡ (if has_sector d.image.format track sector then drive_with_sector d track sector bytes else d))
put_any d image track sector bytes error (Ok x) h =
    let there = is_sector d.image.format track sector h.0 in (sym there, rw (there, h.1) refl)
put_any d image track sector bytes error (Err e) h =
    let none = is_no_sector d.image.format track sector h.0 in (sym none, rw (none, h.2) refl)
