-- The drives of a session.
use Rattle.std.specs.Prelude.{ℕ, ◌==◌, ◌||◌, Bool, true, false, List, [], ◌∷◌, Option, Some, None}
use Rattle.std.specs.Prelude.{is_some, if◌then◌else◌, map, slice_get, slice_index_or, slice_set}
use Rattle.cpm_geom.specs.Disk.{Disk}
use Rattle.cpm_geom.specs.declared.format.Format.TheVariants.{Large}
use Rattle.cpm_drive.specs.declared.drive.Drive.{Drive}
use Rattle.cpm_drive.specs.Drive.{new_marks}
use Rattle.cpm_drive.specs.Reads.{lent_drive}
use Rattle.cpm_drives.specs.declared.disks.Disks.{Disks}

-- own: the drives of a session are A to D, as far as it has them, and the system drive P, which all sessions share
unfoldable pub own_drive : Disks → ℕ → Option Drive
own_drive disks n = slice_index_or disks.drives n None

unfoldable pub is_there : Disks → ℕ → Bool
is_there disks n = is_some (own_drive disks n) || (n == 15)

-- own: the system drive is lent, and always protected
unfoldable pub system_drive : Disks → Disk → Drive
system_drive disks system = lent_drive system (record disks.system { is_protected = true })

abbrev pub drive_or : Drive → Option Drive → Drive
drive_or system None = system
drive_or system (Some drive) = drive

-- the drive of a number that is there
unfoldable pub drive_at : Disks → Disk → ℕ → Drive
drive_at disks system n = drive_or (system_drive disks system) (own_drive disks n)

-- the drives once this one is another; of the system drive its marks alone
unfoldable pub with_drive : Disks → ℕ → Drive → Disks
with_drive disks n drive =
    if is_some (own_drive disks n) then record disks { drives = slice_set disks.drives n (Some drive) } else record disks { system = drive.marks }

-- own: at opening no drive was used, and no block is reserved
abbrev pub new_drive : Option Disk → Option Drive
new_drive None = None
new_drive (Some image) = Some (record { image = image; marks = new_marks image.format false })

-- the first four images are the drives A to D; own: of the system drive, which is not seen yet, no block is reserved, of as many as a format has
unfoldable pub opened_disks : List Disk → Disks
opened_disks images =
    record {
      drives = map (λ n. new_drive (slice_get images n)) (0 ∷ 1 ∷ 2 ∷ 3 ∷ []);
      system = new_marks Large false;
      current = 0;
      user = 0;
      sought = None;
    }

abbrev pub image_of : Option Drive → Option Disk
image_of None = None
image_of (Some drive) = Some drive.image

-- what is left of the drives
unfoldable pub images_of : Disks → List (Option Disk)
images_of disks = map image_of disks.drives
