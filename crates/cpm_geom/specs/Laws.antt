-- The laws of records, and of disks and their bytes, over all disks.
use Rattle.std.specs.Prelude.{◌≡◌, ◌↔◌, ℕ, ◌<◌, ◌%◌, List, [], Some, length, slice_index_or, slice_set}
use Rattle.std.specs.List.{concat}
use Rattle.cpm_geom.specs.declared.format.Format.{Format}
use Rattle.cpm_geom.specs.Geometry.{format_of_length, IsRecord, IsSector, record_index, sector_count, sector_index, track_of, sector_of, sectors_per_track}
use Rattle.cpm_geom.specs.Disk.{Disk, disk_of, IsDisk, record_count, records_of, sector_at, with_sector}

-- sectors lie in the image, no two at one place
pub record AreSectors (f : Format) : Type 0 where
  pub within : (track sector : ℕ) → IsSector f track sector → sector_index f track sector < sector_count f
  pub apart : (track sector track' sector' : ℕ) → IsSector f track sector → IsSector f track' sector'
      → sector_index f track sector ≡ sector_index f track' sector' → (track ≡ track') × (sector ≡ sector')

-- records are sectors, no two the same one; written, a record changes alone in the list of records
pub record AreRecords (f : Format) : Type 0 where
  pub count : (n : ℕ) → IsRecord f n ↔ (n < record_count f)
  pub sector : (n : ℕ) → IsRecord f n → IsSector f (track_of f n) (sector_of f (n % sectors_per_track f))
  pub apart : (m n : ℕ) → IsRecord f m → IsRecord f n → record_index f m ≡ record_index f n → m ≡ n

-- the records of a disk are its list of records, and a record that is written is written there
pub record IsListOfRecords (d : Disk) : Type 0 where
  pub size : length (records_of d) ≡ record_count d.format
  pub at : (n : ℕ) → IsRecord d.format n → slice_index_or (records_of d) n [] ≡ sector_at d (record_index d.format n)
  pub written : (n : ℕ) (bytes : List ℕ) → IsDisk d → IsRecord d.format n
      → records_of (with_sector d (record_index d.format n) bytes) ≡ slice_set (records_of d) n bytes

abbrev pub RecordsLaw : Type 0
RecordsLaw = ((f : Format) → AreSectors f) × ((f : Format) → AreRecords f) × ((d : Disk) → IsListOfRecords d)

-- a disk is that of its bytes, its sectors one after the other
abbrev pub DisksAreTheirBytes : Type 0
DisksAreTheirBytes = (f : Format) (d : Disk) → IsDisk d → d.format ≡ f → disk_of f (concat d.sectors) ≡ d

-- bytes of a format's length are those of their disk, and it is whole
abbrev pub BytesAreTheirDisk : Type 0
BytesAreTheirDisk =
    (f : Format) (bytes : List ℕ) → format_of_length (length bytes) ≡ Some f → (concat (disk_of f bytes).sectors ≡ bytes) × IsDisk (disk_of f bytes)
