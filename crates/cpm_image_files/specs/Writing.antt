-- What holds of a drive while a file is put on its disk.
use Rattle.std.specs.Prelude.{◌≡◌, ◌≢◌, ◌⊎◌, ℕ, ◌+◌, ◌<◌, ◌≤◌, true, false, List, [], replicate, slice_index_or}
use Rattle.std.specs.List.{list_any}
use Rattle.cpm_geom.specs.declared.dpb.Dpb.{Dpb}
use Rattle.cpm_geom.specs.Geometry.{dpb_of}
use Rattle.cpm_geom.specs.Disk.{Disk, records_of, sector_at}
use Rattle.cpm_volume.specs.declared.extent.Entry.{Entry}
use Rattle.cpm_volume.specs.declared.fcb.Fcb.{Fcb}
use Rattle.cpm_volume.specs.Files.{deleted, directory_records, same_name, entry_at, open_file_record, IsSound, IsSoundDrive}
use Rattle.cpm_volume.specs.Names.{is_named, protects}
use Rattle.cpm_volume.specs.Laws.{position}
use Rattle.cpm_directory.specs.Directory.{entries_of}
use Rattle.cpm_drive.specs.declared.drive.Drive.{Drive}
use Rattle.cpm_drive.specs.Drive.{volume_of}
use Rattle.cpm_drive.specs.Laws.{IsWritable, IsOfBytes}
use Rattle.cpm_image_files.specs.ImageFiles.{record_of_bytes, record_on, system_sectors, block_of_record, entries_for, blocks_for, free_entries, free_blocks}
use Rattle.cpm_image_files.specs.Appending.{unused, unreserved, IsAppending, IsOpenBlockOf, KeepsEntries}

-- the file control block of a name that stands before its first record (own)
abbrev pub new_fcb : List ℕ → Fcb
new_fcb name =
    record {
      drive = 0;
      extent = record { name = name; ex = 0; s1 = 0; s2 = 0; record_count = 0; blocks = replicate 16 0 };
      current_record = 0;
      random_record = replicate 3 0;
    }

-- There is no reason against a file of so many records. (own)
pub record HasRoomForFile (d : Dpb) (es : List Entry) (user : ℕ) (name : List ℕ) (records : ℕ) : Type 0 where
  pub unprotected : list_any (protects user name) es ≡ false
  pub entries : entries_for d records ≤ free_entries user name es
  pub blocks : blocks_for d records ≤ free_blocks d user name es

-- the other files of a disk are as they were on another of its format (own)
pub record KeepsDisk (old : Disk) (user : ℕ) (name : List ℕ) (drive : Drive) : Type 0 where
  pub format : drive.image.format ≡ old.format
  pub writable : IsWritable drive
  pub entries : KeepsEntries user name (entries_of old) (entries_of drive.image)
  pub records : (other : ℕ) (other_name : List ℕ) (m : ℕ) → other ≢ deleted → (other ≡ user → same_name other_name name ≡ true → ⊥)
      → record_on drive.image other other_name m ≡ record_on old other other_name m
  pub system : (place : ℕ) → place < system_sectors old.format → sector_at drive.image place ≡ sector_at old place

-- No file of the name is there any more, all is free that is free for one, and no record has changed. (own)
pub record IsCleared (old : Disk) (user : ℕ) (name : List ℕ) (drive : Drive) : Type 0 where
  pub keeps : KeepsDisk old user name drive
  pub sound : IsSoundDrive (dpb_of old.format) (volume_of drive.image drive.marks.reserved)
  pub records : (n : ℕ) → directory_records (dpb_of old.format) ≤ n
      → slice_index_or (records_of drive.image) n [] ≡ slice_index_or (records_of old) n []
  pub gone : (i : ℕ) → is_named user name (entry_at (entries_of drive.image) i) ≡ false
  pub entries_left : unused (entries_of drive.image) ≡ free_entries user name (entries_of old)
  pub blocks_left : unreserved drive.marks.reserved ≡ free_blocks (dpb_of old.format) user name (entries_of old)

-- So many records of the file are there, the file control block stands after them, all is free that they didn't need,
-- and no record has changed but in the file's blocks. (own)
pub record IsWriting (old : Disk) (user : ℕ) (name bytes : List ℕ) (count : ℕ) (drive : Drive) (fcb : Fcb) : Type 0 where
  pub keeps : KeepsDisk old user name drive
  pub fits : IsOfBytes (dpb_of old.format) fcb.extent
  pub sound : IsSound (dpb_of old.format) (volume_of drive.image drive.marks.reserved) user fcb.extent
  pub appending : IsAppending (dpb_of old.format) user name (volume_of drive.image drive.marks.reserved) fcb.extent fcb.current_record
  pub count_is : position fcb.extent fcb.current_record ≡ count
  pub records : (m : ℕ) → m < count
      → open_file_record (dpb_of old.format) (entries_of drive.image) (records_of drive.image) user fcb.extent m ≡ record_of_bytes bytes m
  pub own : (n : ℕ) → directory_records (dpb_of old.format) ≤ n
      → (slice_index_or (records_of drive.image) n [] ≡ slice_index_or (records_of old) n [])
      ⊎ IsOpenBlockOf (entries_of drive.image) user name fcb.extent (block_of_record (dpb_of old.format) n)
  pub entries_left : unused (entries_of drive.image) + entries_for (dpb_of old.format) count ≡ free_entries user name (entries_of old)
  pub blocks_left : unreserved drive.marks.reserved + blocks_for (dpb_of old.format) count ≡ free_blocks (dpb_of old.format) user name (entries_of old)
