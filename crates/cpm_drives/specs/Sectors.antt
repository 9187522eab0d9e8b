-- The sectors of the drives, as the BIOS reads and writes them.
-- CP/M 2.2 Operating System Manual, CP/M 2 Alteration, READ and WRITE.
use Rattle.std.specs.Prelude.{ℕ, ◌+◌, ◌&&◌, nat_lt, nat_le, Bool, List, Option, Some, None, if◌then◌else◌}
use Rattle.cpm_geom.specs.declared.format.Format.{Format}
use Rattle.cpm_geom.specs.Geometry.{tracks_of, first_sector_of, sectors_per_track, sector_index}
use Rattle.cpm_geom.specs.Disk.{Disk, sector_at, with_sector}
use Rattle.cpm_drive.specs.declared.drive.Drive.{Drive}
use Rattle.cpm_drives.specs.declared.disks.Disks.{Disks}
use Rattle.cpm_drives.specs.Disks.{own_drive, drive_at, with_drive}

-- the track has this sector
unfoldable pub has_sector : Format → ℕ → ℕ → Bool
has_sector f track sector =
    nat_lt track (tracks_of f) && (nat_le (first_sector_of f) sector && nat_lt sector (first_sector_of f + sectors_per_track f))

-- the sector of a disk, if it is there
unfoldable pub sector_of_disk : Disk → ℕ → ℕ → Option (List ℕ)
sector_of_disk disk track sector =
    if has_sector disk.format track sector then Some (sector_at disk (sector_index disk.format track sector)) else None

-- READ
unfoldable pub sector_read : Disks → Disk → ℕ → ℕ → ℕ → Option (List ℕ)
sector_read disks system n track sector = sector_of_disk (drive_at disks system n).image track sector

abbrev pub drive_with_sector : Drive → ℕ → ℕ → List ℕ → Drive
drive_with_sector drive track sector bytes =
    record drive { image = with_sector drive.image (sector_index drive.image.format track sector) bytes }

-- WRITE, to an own drive; own: its marks don't matter
abbrev pub written_to : Disks → ℕ → ℕ → ℕ → List ℕ → Option Drive → Option Disks
written_to disks n track sector bytes None = None
written_to disks n track sector bytes (Some drive) =
    if has_sector drive.image.format track sector then Some (with_drive disks n (drive_with_sector drive track sector bytes)) else None

unfoldable pub sector_written : Disks → ℕ → ℕ → ℕ → List ℕ → Option Disks
sector_written disks n track sector bytes = written_to disks n track sector bytes (own_drive disks n)
