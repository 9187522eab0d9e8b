-- Searches.
use Rattle.std.proofs.Common.{◌≡◌, ◌+◌, ◌%◌, ℕ, List, Option, Some, None, Ok, length, sym, ap, ◌∙◌}
use Rattle.cpm_geom.specs.Disk.{Disk}
use Rattle.cpm_geom.specs.Geometry.{dpb_of}
use Rattle.cpm_volume.specs.declared.fcb.Fcb.{Fcb}
use Rattle.cpm_directory.specs.Directory.{entries_of}
use Rattle.cpm_drive.specs.declared.drive.Drive.{Drive}
use Rattle.cpm_drive.specs.Named as drive
use Rattle.cpm_drives.specs.declared.disks.Disks.{Disks}
use Rattle.cpm_drives.specs.declared.search.Search.{Search}
use Rattle.cpm_drives.specs.Calls.{file_call}
use Rattle.cpm_drives.specs.Disks.{drive_at}
use Rattle.cpm_drives.specs.Selecting.{drive_in_use}
use Rattle.cpm_drives.specs.Search.{pattern_of, search_left, search_from, search_on, search_next_from, search_next}
use Rattle.cpm_drives.proofs.DriveLemmas.{used_at, ready_image}

searched_found : (d : Drive) (sought : Search) (disks : Disks) (fcb : Fcb) (buffer new : List ℕ) (i : ℕ) → ◌≡◌ {A = Option ℕ × List ℕ} (Some i, new) (drive.searched d.image (pattern_of (dpb_of d.image.format) sought disks.user) sought.next buffer) → file_call (Ok (i % 4)) (record disks { sought = Some (record sought { next = i + 1 }) }) fcb new ≡ search_from d sought disks fcb buffer
unfolding search_from
searched_found d sought disks fcb buffer new i e =
    ap (λ (p : Option ℕ × List ℕ). search_left sought (length (entries_of d.image)) disks fcb p.0 p.1) e

searched_none : (d : Drive) (sought : Search) (disks : Disks) (fcb : Fcb) (buffer new : List ℕ) (next : ℕ) → next ≡ length (entries_of d.image) → ◌≡◌ {A = Option ℕ × List ℕ} (None, new) (drive.searched d.image (pattern_of (dpb_of d.image.format) sought disks.user) sought.next buffer) → file_call (Ok 255) (record disks { sought = Some (record sought { next = next }) }) fcb new ≡ search_from d sought disks fcb buffer
unfolding search_from
searched_none d sought disks fcb buffer new next count e =
    ap (λ (n : ℕ). search_left sought n disks fcb None new) count ∙ ap (λ (p : Option ℕ × List ℕ). search_left sought (length (entries_of d.image)) disks fcb p.0 p.1) e

-- the image of a drive that is used is the drive's
used_image : (disks now : Disks) (system image : Disk) (n : ℕ) → now ≡ drive_in_use disks system n → image ≡ (drive_at now system n).image → image ≡ (drive_at disks system n).image
used_image disks now system image n e is =
    is ∙ (ap (λ (ds : Disks). (drive_at ds system n).image) e ∙ (ap (λ (d : Drive). d.image) (used_at disks system n) ∙ ready_image (drive_at disks system n)))

pub search_found : (disks now : Disks) (system image : Disk) (sought : Search) (fcb : Fcb) (buffer new : List ℕ) (i : ℕ) → now ≡ drive_in_use disks system sought.drive → image ≡ (drive_at now system sought.drive).image → ◌≡◌ {A = Option ℕ × List ℕ} (Some i, new) (drive.searched image (pattern_of (dpb_of image.format) sought now.user) sought.next buffer) → file_call (Ok (i % 4)) (record now { sought = Some (record sought { next = i + 1 }) }) fcb new ≡ search_on sought disks system fcb buffer
unfolding search_on
search_found disks now system image sought fcb buffer new i e is found =
    let same = used_image disks now system image sought.drive e is in
    let f = found ∙ (ap (λ (im : Disk). drive.searched im (pattern_of (dpb_of im.format) sought now.user) sought.next buffer) same ∙ ap (λ (ds : Disks). drive.searched (drive_at disks system sought.drive).image (pattern_of (dpb_of (drive_at disks system sought.drive).image.format) sought ds.user) sought.next buffer) e) in
    ap (λ (ds : Disks). file_call (Ok (i % 4)) (record ds { sought = Some (record sought { next = i + 1 }) }) fcb new) e ∙ searched_found (drive_at disks system sought.drive) sought (drive_in_use disks system sought.drive) fcb buffer new i f

pub search_none : (disks now : Disks) (system image : Disk) (sought : Search) (fcb : Fcb) (buffer new : List ℕ) (next : ℕ) → now ≡ drive_in_use disks system sought.drive → image ≡ (drive_at now system sought.drive).image → next ≡ length (entries_of image) → ◌≡◌ {A = Option ℕ × List ℕ} (None, new) (drive.searched image (pattern_of (dpb_of image.format) sought now.user) sought.next buffer) → file_call (Ok 255) (record now { sought = Some (record sought { next = next }) }) fcb new ≡ search_on sought disks system fcb buffer
unfolding search_on
search_none disks now system image sought fcb buffer new next e is count found =
    let same = used_image disks now system image sought.drive e is in
    let f = found ∙ (ap (λ (im : Disk). drive.searched im (pattern_of (dpb_of im.format) sought now.user) sought.next buffer) same ∙ ap (λ (ds : Disks). drive.searched (drive_at disks system sought.drive).image (pattern_of (dpb_of (drive_at disks system sought.drive).image.format) sought ds.user) sought.next buffer) e) in
    ap (λ (ds : Disks). file_call (Ok 255) (record ds { sought = Some (record sought { next = next }) }) fcb new) e ∙ searched_none (drive_at disks system sought.drive) sought (drive_in_use disks system sought.drive) fcb buffer new next (count ∙ ap (λ (im : Disk). length (entries_of im)) same) f

-- the search that is under way
pub goes_on : (disks : Disks) (system : Disk) (fcb : Fcb) (buffer : List ℕ) (o : Option Search) → disks.sought ≡ o → search_next_from o disks system fcb buffer ≡ search_next disks system fcb buffer
unfolding search_next
goes_on disks system fcb buffer o e = ap (λ (o : Option Search). search_next_from o disks system fcb buffer) (sym e)
