-- The files on a disk, and what it is to put one there.
use Rattle.std.specs.Prelude.{◌≡◌, ◌≢◌, ◌⊎◌, ℕ, ◌+◌, ◌-◌, ◌*◌, ◌/◌, ◌<◌, ◌≤◌, Bool, true, false, not, ◌||◌, ◌==◌, nat_lt, if◌then◌else◌}
use Rattle.std.specs.Prelude.{List, [], ◌++◌, Option, Some, None, Err, length, take, drop, replicate, max, count_by, slice_index_or}
use Rattle.std.specs.List.{list_any}
use Rattle.cpm_geom.specs.declared.dpb.Dpb.{Dpb}
use Rattle.cpm_geom.specs.declared.format.Format.{Format}
use Rattle.cpm_geom.specs.Geometry.{dpb_of, sectors_per_track}
use Rattle.cpm_geom.specs.Disk.{Disk, records_of, sector_at}
use Rattle.cpm_volume.specs.declared.extent.Entry.{Entry}
use Rattle.cpm_volume.specs.Files.{deleted, entry_at, block_number, directory_records, file_record, same_name, InUse}
use Rattle.cpm_volume.specs.Names.{is_named, protects, reserved_after}
use Rattle.cpm_directory.specs.Directory.{entries_of}
use Rattle.cpm_directory.specs.Login.{reserved_at_login}
use Rattle.cpm_directory.specs.WellFormed.{fault_of, IsChecked}
use Rattle.cpm_image_files.specs.declared.refusal.FileRefusal.{FileRefusal}
use Rattle.cpm_image_files.specs.declared.refusal.FileRefusal.TheVariants.{ReadOnly, DirectoryFull, DiskFull}
use Rattle.cpm_image_files.specs.declared.refusal.ImageFilesError.{ImageFilesError}
use Rattle.cpm_image_files.specs.declared.refusal.ImageFilesError.TheVariants.{Damaged, Refused, OutOfMemory}

-- ---- files

-- the byte that fills the last record of a file up
-- CP/M 2.2 Operating System Manual, section 5.2, Operating System Call Conventions: the end of an ASCII file is a control-Z
abbrev pub filler : ℕ
filler = 0x1A

-- record m of a file of these bytes, if it has so many: whole records of 128, the last filled up (own)
unfoldable pub record_of_bytes : List ℕ → ℕ → Option (List ℕ)
record_of_bytes bytes m =
    if nat_lt (128 * m) (length bytes) then Some (take 128 (drop (128 * m) bytes ++ replicate 128 filler)) else None

-- record m of the file of a user and a name on a disk, if it is there (own)
abbrev pub record_on : Disk → ℕ → List ℕ → ℕ → Option (List ℕ)
record_on disk user name m = file_record (dpb_of disk.format) (entries_of disk) (records_of disk) user name m

-- the entry at an index of a disk's directory (own)
abbrev pub entry_on : Disk → ℕ → Entry
entry_on disk i = entry_at (entries_of disk) i

-- no entry of a disk has a fault (own)
abbrev pub IsSoundDisk : Disk → Type 0
IsSoundDisk disk = (i : ℕ) → fault_of (dpb_of disk.format) (entries_of disk) i ≡ None

-- A disk has the file, of these bytes: entries with the attributes of the name that was given, its records, and no others. (own)
pub record DiskHasFile (disk : Disk) (user : ℕ) (name bytes : List ℕ) : Type 0 where
  pub there : (i : ℕ) × (is_named user name (entry_on disk i) ≡ true)
  pub attributes : (i : ℕ) → is_named user name (entry_on disk i) ≡ true → (entry_on disk i).extent.name ≡ name
  pub records : (m : ℕ) → record_on disk user name m ≡ record_of_bytes bytes m

-- the sectors of the tracks before a disk's first record, which the system is in
-- CP/M 2.2 Operating System Manual, section 6.10, Disk Parameter Tables: OFF is the number of reserved tracks
abbrev pub system_sectors : Format → ℕ
system_sectors f = (dpb_of f).track_offset * sectors_per_track f

-- Each file but that of this user and name has what it had, and its entries are as they were; so is the system. (own)
pub record KeepsOtherFiles (user : ℕ) (name : List ℕ) (old new : Disk) : Type 0 where
  pub format : new.format ≡ old.format
  pub entries : (i : ℕ) → InUse (entries_of old) i → is_named user name (entry_on old i) ≡ false → entry_on new i ≡ entry_on old i
  pub no_more : (i : ℕ) → InUse (entries_of new) i → is_named user name (entry_on new i) ≡ false → entry_on old i ≡ entry_on new i
  pub records : (other : ℕ) (other_name : List ℕ) (m : ℕ) → other ≢ deleted → (other ≡ user → same_name other_name name ≡ true → ⊥)
      → record_on new other other_name m ≡ record_on old other other_name m
  pub system : (place : ℕ) → place < system_sectors old.format → sector_at new place ≡ sector_at old place

-- the block that a disk's record is in
-- CP/M 2.2 Operating System Manual, section 6.10, Disk Parameter Tables: BLM is the block mask; a block has BLM + 1 records, in their order
abbrev pub block_of_record : Dpb → ℕ → ℕ
block_of_record d n = n / (d.block_mask + 1)

-- a block of the file of a user and a name: an entry of the file has its number (own)
abbrev pub IsBlockOf : List Entry → ℕ → List ℕ → ℕ → Type 0
IsBlockOf es user name b =
    (i : ℕ) × (s : ℕ) × (b ≢ 0) × (is_named user name (entry_at es i) ≡ true) × (block_number (entry_at es i).extent s ≡ b)

-- Each record outside the directory is as it was, or is in a block of the file of this user and name. (own)
pub record KeepsOtherBlocks (user : ℕ) (name : List ℕ) (old new : Disk) : Type 0 where
  pub records : (n : ℕ) → directory_records (dpb_of old.format) ≤ n
      → (slice_index_or (records_of new) n [] ≡ slice_index_or (records_of old) n [])
      ⊎ IsBlockOf (entries_of new) user name (block_of_record (dpb_of old.format) n)

-- ---- what a file needs

-- how many records a file of so many bytes has (own)
abbrev pub records_for : ℕ → ℕ
records_for count = (count + 127) / 128

-- how many blocks so many records have (own)
abbrev pub blocks_for : Dpb → ℕ → ℕ
blocks_for d records = (records + d.block_mask) / (d.block_mask + 1)

-- how many entries: one also for a file of no record (own)
abbrev pub entries_for : Dpb → ℕ → ℕ
entries_for d records = max 1 ((records + 128 * (d.extent_mask + 1) - 1) / (128 * (d.extent_mask + 1)))

-- the entry is free for a file of this user and name: it is not in use, or of a file that it replaces (own)
abbrev pub is_free_for : ℕ → List ℕ → Entry → Bool
is_free_for user name e = (e.user == deleted) || is_named user name e

-- how many entries are free for a file of this user and name (own)
unfoldable pub free_entries : ℕ → List ℕ → List Entry → ℕ
free_entries user name es = count_by (is_free_for user name) es

-- how many blocks are free for it (own)
unfoldable pub free_blocks : Dpb → ℕ → List ℕ → List Entry → ℕ
free_blocks d user name es = count_by not (reserved_after d user name es (reserved_at_login d es))

-- why a file of so many records is not put into a directory: the first reason that there is (own)
unfoldable pub file_refusal_of : Dpb → List Entry → ℕ → List ℕ → ℕ → Option FileRefusal
file_refusal_of d es user name records =
    if list_any (protects user name) es then Some ReadOnly
    else if nat_lt (free_entries user name es) (entries_for d records) then Some DirectoryFull
    else if nat_lt (free_blocks d user name es) (blocks_for d records) then Some DiskFull
    else None

-- A disk once a file was put on it: there was no reason against it, the file is there, each other is as it was, and no entry has a fault;
-- outside the directory and the file's blocks nothing has changed. (own)
pub record IsPut (old : Disk) (user : ℕ) (name bytes : List ℕ) (new : Disk) : Type 0 where
  pub sound_before : IsSoundDisk old
  pub allowed : file_refusal_of (dpb_of old.format) (entries_of old) user name (records_for (length bytes)) ≡ None
  pub file : DiskHasFile new user name bytes
  pub others : KeepsOtherFiles user name old new
  pub blocks : KeepsOtherBlocks user name old new
  pub sound : IsSoundDisk new

-- Why a file of so many records is not put on a disk: the fault of the first entry that has one;
-- or the disk is sound, and this is the first reason against it; or there is none, but no memory. (own)
abbrev pub IsPutRefusal : Disk → ℕ → List ℕ → ℕ → ImageFilesError → Type 0
IsPutRefusal old user name records (Damaged fault) = IsChecked (dpb_of old.format) (entries_of old) (Err fault)
IsPutRefusal old user name records (Refused refusal) =
    IsSoundDisk old × (file_refusal_of (dpb_of old.format) (entries_of old) user name records ≡ Some refusal)
IsPutRefusal old user name records OutOfMemory =
    IsSoundDisk old × (file_refusal_of (dpb_of old.format) (entries_of old) user name records ≡ None)
