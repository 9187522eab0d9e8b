-- What is written to a disk leaves the sectors before its first record.
use Rattle.std.proofs.Common.{◌≡◌, ℕ, ◌/◌, ◌<◌, ◌≤◌, false, List, [], ◌∷◌, get_or, set, refl, ◌∙◌, arith}
use Rattle.std.proofs.lemmas.List.{get_or-set_other}
use Rattle.cpm_geom.specs.declared.format.Format.{Format}
use Rattle.cpm_geom.specs.declared.format.Format.TheVariants.{Ibm3740, Large}
use Rattle.cpm_geom.specs.Geometry.{dpb_of, sectors_per_track, sector_index, track_of, record_index}
use Rattle.cpm_geom.specs.Disk.{Disk, sector_at}
use Rattle.cpm_volume.specs.Files.{Volume, DiskWrite, entry_put, record_put}
use Rattle.cpm_drive.specs.declared.drive.Drive.{Drive}
use Rattle.cpm_drive.specs.Drive.{after_write, after_writes, drive_after}
use Rattle.cpm_image_files.specs.ImageFiles.{system_sectors}

record_behind : (f : Format) (n : ℕ) → system_sectors f ≤ record_index f n
unfolding dpb_of sectors_per_track sector_index track_of record_index
record_behind Ibm3740 n = omega arith
record_behind Large n = omega arith

written_format : (w : DiskWrite) (disk : Disk) → (after_write w disk).format ≡ disk.format
unfolding after_write
written_format (entry_put index e) disk = refl
written_format (record_put n bytes) disk = refl

other_sector : (disk : Disk) (n : ℕ) (bytes : List ℕ) (place : ℕ) → place < system_sectors disk.format → get_or (set disk.sectors (record_index disk.format n) bytes) place [] ≡ get_or disk.sectors place []
other_sector disk n bytes place h =
    let behind = record_behind disk.format n in
    get_or-set_other disk.sectors (record_index disk.format n) place bytes [] (λ e. absurd (omega arith))

system_stays : (w : DiskWrite) (disk : Disk) (place : ℕ) → place < system_sectors disk.format → sector_at (after_write w disk) place ≡ sector_at disk place
unfolding after_write
system_stays (entry_put index e) disk place h = other_sector disk (index / 4) _ place h
system_stays (record_put n bytes) disk place h = other_sector disk n bytes place h

all_stay : (ws : List DiskWrite) (disk : Disk) (place : ℕ) → place < system_sectors disk.format → sector_at (after_writes ws disk) place ≡ sector_at disk place
unfolding after_writes
all_stay [] disk place h = refl
all_stay (w ∷ ws) disk place h =
    all_stay ws (after_write w disk) place (rw (written_format w disk) h) ∙ system_stays w disk place h

pub system_after : (drive : Drive) (v : Volume) (place : ℕ) → drive.marks.is_protected ≡ false → place < system_sectors drive.image.format → sector_at (drive_after drive v).image place ≡ sector_at drive.image place
unfolding drive_after
system_after drive v place free h = rw free (all_stay v.written drive.image place h)
