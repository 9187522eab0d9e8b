-- What is written to a drive, one after the other.
use Rattle.std.proofs.Common.{◌≡◌, Bool, true, false, cond, List, [], ◌∷◌, ◌++◌, Some, None, Option, refl, ap}
use Rattle.cpm_geom.specs.Disk.{Disk}
use Rattle.cpm_volume.specs.Files.{DiskWrite}
use Rattle.cpm_directory.specs.Directory.{PutsEntry}
use Rattle.cpm_drive.specs.declared.drive.Drive.{Drive}
use Rattle.cpm_drive.specs.declared.change.Change.{Change}
use Rattle.cpm_drive.specs.Drive.{volume_of, after_write, after_writes, drive_after}
use Rattle.cpm_drive.specs.Judged.{with_change}

cond_same : (b : Bool) (disk : Disk) → cond b disk disk ≡ disk
cond_same true disk = refl
cond_same false disk = refl

pub writes_append : (a b : List DiskWrite) (disk : Disk) → after_writes (a ++ b) disk ≡ after_writes b (after_writes a disk)
unfolding after_writes
writes_append [] b disk = refl
writes_append (w ∷ a) b disk = writes_append a b (after_write w disk)

-- a drive of which nothing is written
pub drive_stays : (drive : Drive) → drive_after drive (volume_of drive.image drive.marks.reserved) ≡ drive
unfolding drive_after volume_of after_writes
drive_stays drive = ap (λ (disk : Disk). record drive { image = disk }) (cond_same drive.marks.is_protected drive.image)

pub no_write : (drive : Drive) → drive_after drive (with_change (volume_of drive.image drive.marks.reserved) None) ≡ drive
unfolding with_change
no_write drive = drive_stays drive

-- a protected drive
pub drive_kept : (drive : Drive) (change : Option Change) → drive.marks.is_protected ≡ true → drive_after drive (with_change (volume_of drive.image drive.marks.reserved) change) ≡ drive
unfolding drive_after volume_of with_change
drive_kept drive None h = rw h refl
drive_kept drive (Some c) h = rw h refl

-- an entry of a drive
pub drive_put : (drive : Drive) (c : Change) (disk : Disk) → drive.marks.is_protected ≡ false → PutsEntry drive.image c.index c.entry disk → record drive { image = disk } ≡ drive_after drive (with_change (volume_of drive.image drive.marks.reserved) (Some c))
unfolding drive_after volume_of with_change after_writes after_write
drive_put drive c disk h puts = rw (h, puts.bytes) refl
