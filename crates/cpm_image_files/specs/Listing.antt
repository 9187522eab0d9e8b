-- The list of a disk's files.
use Rattle.std.specs.Prelude.{◌≡◌, ℕ, ◌<◌, Bool, true, List, [], Err, length, slice_index_or}
use Rattle.std.specs.List.{position_or_len}
use Rattle.cpm_geom.specs.Geometry.{dpb_of}
use Rattle.cpm_geom.specs.Disk.{Disk}
use Rattle.cpm_volume.specs.declared.extent.Entry.{Entry}
use Rattle.cpm_volume.specs.Files.{deleted, InUse}
use Rattle.cpm_directory.specs.Directory.{entries_of}
use Rattle.cpm_directory.specs.Login.{reserved_at_login}
use Rattle.cpm_directory.specs.WellFormed.{IsChecked}
use Rattle.cpm_image_files.specs.declared.refusal.ImageFilesError.{ImageFilesError}
use Rattle.cpm_image_files.specs.declared.refusal.ImageFilesError.TheVariants.{Damaged, Refused, OutOfMemory}
use Rattle.cpm_image_files.specs.declared.listing.DiskFile.{DiskFile}
use Rattle.cpm_image_files.specs.declared.listing.DiskListing.{DiskListing}
use Rattle.cpm_image_files.specs.ImageFiles.{entry_on, IsSoundDisk}
use Rattle.cpm_image_files.specs.Appending.{unreserved}
use Rattle.cpm_image_files.specs.Taken.{HasRecords}
use Rattle.cpm_image_files.specs.Reach.{is_of_file}

-- the entry is one of the file's: of its user and its name, in the low seven bits of each character (own)
abbrev pub lists : Entry → DiskFile → Bool
lists e file = is_of_file file.user file.name e

-- the file at a place of a list; past the end one of no user (own)
abbrev pub listed_file_at : List DiskFile → ℕ → DiskFile
listed_file_at files k = slice_index_or files k (record { user = deleted; name = []; records = 0 })

-- the index of a file's first entry; the number of entries where it has none (own)
abbrev pub first_listed : Disk → DiskFile → ℕ
first_listed disk file = position_or_len (λ e. lists e file) (entries_of disk)

-- The file is there, its name has the attributes of its first entry, and it has so many records. (own)
pub record IsListedFile (disk : Disk) (file : DiskFile) : Type 0 where
  pub used : InUse (entries_of disk) (first_listed disk file)
  pub user_is : file.user ≡ (entry_on disk (first_listed disk file)).user
  pub name_is : file.name ≡ (entry_on disk (first_listed disk file)).extent.name
  pub records : HasRecords disk file.user file.name file.records

-- Each file of the list is on the disk, with its first entry before an index, and they are in the order of these;
-- each entry in use before the index is of exactly one of them. (own)
pub record AreListed (disk : Disk) (index : ℕ) (files : List DiskFile) : Type 0 where
  pub each : (k : ℕ) → k < length files → IsListedFile disk (listed_file_at files k)
  pub before : (k : ℕ) → k < length files → first_listed disk (listed_file_at files k) < index
  pub order : (j k : ℕ) → j < k → k < length files → first_listed disk (listed_file_at files j) < first_listed disk (listed_file_at files k)
  pub found : (i : ℕ) → i < index → InUse (entries_of disk) i → (k : ℕ) × (k < length files) × (lists (entry_on disk i) (listed_file_at files k) ≡ true)
  pub once : (e : Entry) (j k : ℕ) → j < length files → k < length files
      → lists e (listed_file_at files j) ≡ true → lists e (listed_file_at files k) ≡ true → j ≡ k

-- The list of a sound disk: all its files, each once, in the order of their first entries; and how many blocks are free. (own)
pub record IsListed (disk : Disk) (listing : DiskListing) : Type 0 where
  pub sound : IsSoundDisk disk
  pub files : AreListed disk (length (entries_of disk)) listing.files.items
  pub free : listing.free_blocks ≡ unreserved (reserved_at_login (dpb_of disk.format) (entries_of disk))

-- Why there is none: the fault of the first entry that has one; or the disk is sound, but there was no memory. (own)
abbrev pub IsListRefusal : Disk → ImageFilesError → Type 0
IsListRefusal disk (Damaged fault) = IsChecked (dpb_of disk.format) (entries_of disk) (Err fault)
IsListRefusal disk (Refused refusal) = ⊥
IsListRefusal disk OutOfMemory = IsSoundDisk disk
