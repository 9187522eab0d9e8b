-- What a drive's use leaves.
use Rattle.std.proofs.Common.{◌≡◌, ℕ, Bool, true, false, refl, is_some}
use Rattle.std.specs.Prelude.{if◌then◌else◌}
use Rattle.cpm_geom.specs.Disk.{Disk}
use Rattle.cpm_drives.specs.declared.disks.Disks.{Disks}
use Rattle.cpm_drives.specs.Disks.{own_drive, with_drive}
use Rattle.cpm_drives.specs.Selecting.{drive_in_use}

current-if : (b : Bool) (d x y : Disks) → x.current ≡ d.current → y.current ≡ d.current → (if b then x else y).current ≡ d.current
current-if true d x y hx hy = hx
current-if false d x y hx hy = hy

-- the current drive stays
pub current-used : (disks : Disks) (system : Disk) (n : ℕ) → (drive_in_use disks system n).current ≡ disks.current
unfolding drive_in_use with_drive
current-used disks system n = current-if (is_some (own_drive disks n)) disks _ _ refl refl
