-- What is taken off a disk: the bytes of a file, a file, and its name for another.
use Rattle.std.specs.Prelude.{◌≡◌, ◌≢◌, ◌⊎◌, ℕ, ◌-◌, ◌*◌, ◌<◌, ◌≤◌, true, false, List, Option, Some, None, Err, length, take, drop, replicate}
use Rattle.std.specs.List.{list_any}
use Rattle.cpm_geom.specs.Geometry.{dpb_of}
use Rattle.cpm_geom.specs.Disk.{Disk, sector_at}
use Rattle.cpm_volume.specs.declared.extent.Entry.{Entry}
use Rattle.cpm_volume.specs.Files.{deleted, same_name, InUse, Volume}
use Rattle.cpm_volume.specs.Names.{is_named, first_named, protects, with_attributes, NameOutcome, none_named}
use Rattle.cpm_volume.specs.Names.{file_read_only, named, erase_files_on_volume, rename_files_on_volume}
use Rattle.cpm_directory.specs.Directory.{entries_of}
use Rattle.cpm_directory.specs.Login.{reserved_at_login}
use Rattle.cpm_directory.specs.WellFormed.{IsChecked}
use Rattle.cpm_drive.specs.Drive.{volume_of, after_writes}
use Rattle.cpm_image_files.specs.ImageFiles.{record_on, entry_on, system_sectors, IsSoundDisk, KeepsOtherFiles}
use Rattle.cpm_image_files.specs.declared.refusal.FileRefusal.{FileRefusal}
use Rattle.cpm_image_files.specs.declared.refusal.FileRefusal.TheVariants.{ReadOnly, DirectoryFull, DiskFull, NoFile, Exists}
use Rattle.cpm_image_files.specs.declared.refusal.ImageFilesError.{ImageFilesError}
use Rattle.cpm_image_files.specs.declared.refusal.ImageFilesError.TheVariants.{Damaged, Refused, OutOfMemory}

-- A disk's file has so many records, up to its last: those between may be holes. (own)
pub record HasRecords (disk : Disk) (user : ℕ) (name : List ℕ) (count : ℕ) : Type 0 where
  pub last : 0 < count → record_on disk user name (count - 1) ≢ None
  pub none : (m : ℕ) → count ≤ m → record_on disk user name m ≡ None

-- a record as it is taken off a disk: a hole is zeros (own)
abbrev pub taken_record : Option (List ℕ) → List ℕ
taken_record None = replicate 128 0
taken_record (Some bytes) = bytes

-- These are the bytes of a disk's file: its records in their order, up to its last. (own)
pub record AreBytesOf (disk : Disk) (user : ℕ) (name : List ℕ) (bytes : List ℕ) : Type 0 where
  pub count : ℕ
  pub records : HasRecords disk user name count
  pub size : length bytes ≡ 128 * count
  pub each : (m : ℕ) → m < count → take 128 (drop (128 * m) bytes) ≡ taken_record (record_on disk user name m)

-- A disk has the file of this user and name: an entry of it. (own)
abbrev pub IsThere : Disk → ℕ → List ℕ → Type 0
IsThere disk user name = (i : ℕ) × InUse (entries_of disk) i × (is_named user name (entry_on disk i) ≡ true)

-- none of it (own)
abbrev pub IsAbsent : Disk → ℕ → List ℕ → Type 0
IsAbsent disk user name = (i : ℕ) → is_named user name (entry_on disk i) ≡ false

-- The bytes that are taken off a disk: they are its file's. (own)
pub record IsGot (disk : Disk) (user : ℕ) (name : List ℕ) (bytes : List ℕ) : Type 0 where
  pub sound : IsSoundDisk disk
  pub there : IsThere disk user name
  pub file : AreBytesOf disk user name bytes

-- Why they are not: there is no such file. (own)
abbrev pub IsGetReason : Disk → ℕ → List ℕ → FileRefusal → Type 0
IsGetReason disk user name NoFile = IsAbsent disk user name
IsGetReason disk user name ReadOnly = ⊥
IsGetReason disk user name Exists = ⊥
IsGetReason disk user name DirectoryFull = ⊥
IsGetReason disk user name DiskFull = ⊥

-- The fault of the first entry that has one; or the disk is sound, and this is the reason; or there is none, but no memory. (own)
abbrev pub IsGetRefusal : Disk → ℕ → List ℕ → ImageFilesError → Type 0
IsGetRefusal disk user name (Damaged fault) = IsChecked (dpb_of disk.format) (entries_of disk) (Err fault)
IsGetRefusal disk user name (Refused refusal) = IsSoundDisk disk × IsGetReason disk user name refusal
IsGetRefusal disk user name OutOfMemory = IsSoundDisk disk × IsThere disk user name

-- ---- what a call of the BDOS leaves

-- the volume of a disk whose drive is just logged in (own)
abbrev pub fresh_volume : Disk → Volume
fresh_volume disk = volume_of disk (reserved_at_login (dpb_of disk.format) (entries_of disk))

-- The call is done, and the new disk is the old one with what it writes, and nothing else. (own)
abbrev pub IsLeftBy : NameOutcome → Disk → Disk → Type 0
IsLeftBy none_named old new = ⊥
IsLeftBy file_read_only old new = ⊥
IsLeftBy (named first v) old new = new ≡ after_writes v.written old

-- ---- a file that is removed

-- A disk once a file was taken from it: it is what the call leaves; there is no such file, each other is as it was, and no entry has a fault. (own)
-- The call: CP/M 2.2 Operating System Manual, section 5.2, DELETE FILE
pub record IsRemoved (old : Disk) (user : ℕ) (name : List ℕ) (new : Disk) : Type 0 where
  pub sound_before : IsSoundDisk old
  pub there : IsThere old user name
  pub unprotected : list_any (protects user name) (entries_of old) ≡ false
  pub call : IsLeftBy (erase_files_on_volume (dpb_of old.format) (fresh_volume old) user name) old new
  pub absent : IsAbsent new user name
  pub others : KeepsOtherFiles user name old new
  pub sound : IsSoundDisk new

-- nothing is against it that a file is taken from a sound disk: it is there, and no entry of it is read-only (own)
abbrev pub IsRemovable : Disk → ℕ → List ℕ → Type 0
IsRemovable old user name = IsThere old user name × (list_any (protects user name) (entries_of old) ≡ false)

-- Why a file is not taken from a disk: there is none; or an entry of it is read-only. (own)
abbrev pub IsRemovalReason : Disk → ℕ → List ℕ → FileRefusal → Type 0
IsRemovalReason old user name NoFile = IsAbsent old user name
IsRemovalReason old user name ReadOnly = list_any (protects user name) (entries_of old) ≡ true
IsRemovalReason old user name Exists = ⊥
IsRemovalReason old user name DirectoryFull = ⊥
IsRemovalReason old user name DiskFull = ⊥

-- The fault of the first entry that has one; or the disk is sound, and this is the reason; or there is none, but no memory. (own)
abbrev pub IsRemovalRefusal : Disk → ℕ → List ℕ → ImageFilesError → Type 0
IsRemovalRefusal old user name (Damaged fault) = IsChecked (dpb_of old.format) (entries_of old) (Err fault)
IsRemovalRefusal old user name (Refused refusal) = IsSoundDisk old × IsRemovalReason old user name refusal
IsRemovalRefusal old user name OutOfMemory = IsSoundDisk old × IsRemovable old user name

-- ---- another name

-- the entry whose attributes a file keeps: its first (own)
abbrev pub first_entry : Disk → ℕ → List ℕ → Entry
first_entry disk user name = entry_on disk (first_named (entries_of disk) user name)

-- a new name with the attributes that the file has (own)
abbrev pub kept_name : Disk → ℕ → List ℕ → List ℕ → List ℕ
kept_name disk user name new_name = with_attributes new_name (first_entry disk user name).extent.name

-- no other file has the new name: it is the file's own, whatever its attributes, or there is none of it (own)
abbrev pub IsFreeName : Disk → ℕ → List ℕ → List ℕ → Type 0
IsFreeName disk user name new_name = (same_name name new_name ≡ true) ⊎ IsAbsent disk user new_name

-- A disk once a file got another name of its user: it is what the call leaves; the file has the name, with the attributes of its first entry,
-- and record for record what it had; each other is as it was, and so is the system; no entry has a fault. (own)
-- The call: CP/M 2.2 Operating System Manual, section 5.2, RENAME FILE
pub record IsRenamed (old : Disk) (user : ℕ) (name new_name : List ℕ) (new : Disk) : Type 0 where
  pub sound_before : IsSoundDisk old
  pub there_before : IsThere old user name
  pub free : IsFreeName old user name new_name
  pub unprotected : list_any (protects user name) (entries_of old) ≡ false
  pub call : IsLeftBy (rename_files_on_volume (fresh_volume old) user name (kept_name old user name new_name)) old new
  pub there : IsThere new user new_name
  pub attributes : (i : ℕ) → is_named user new_name (entry_on new i) ≡ true → (entry_on new i).extent.name ≡ kept_name old user name new_name
  pub file : (m : ℕ) → record_on new user new_name m ≡ record_on old user name m
  pub absent : same_name name new_name ≡ false → IsAbsent new user name
  pub format : new.format ≡ old.format
  pub entries : (i : ℕ) → InUse (entries_of old) i → is_named user name (entry_on old i) ≡ false → entry_on new i ≡ entry_on old i
  pub no_more : (i : ℕ) → InUse (entries_of new) i → is_named user new_name (entry_on new i) ≡ false → entry_on old i ≡ entry_on new i
  pub records : (other : ℕ) (other_name : List ℕ) (m : ℕ) → other ≢ deleted → (other ≡ user → same_name other_name name ≡ true → ⊥)
      → (other ≡ user → same_name other_name new_name ≡ true → ⊥) → record_on new other other_name m ≡ record_on old other other_name m
  pub system : (place : ℕ) → place < system_sectors old.format → sector_at new place ≡ sector_at old place
  pub sound : IsSoundDisk new

-- nothing is against it that a file of a sound disk gets another name: it is there, the name is free, and no entry of the file is read-only (own)
abbrev pub IsRenamable : Disk → ℕ → List ℕ → List ℕ → Type 0
IsRenamable old user name new_name =
    IsThere old user name × IsFreeName old user name new_name × (list_any (protects user name) (entries_of old) ≡ false)

-- Why it got none: there is no such file; there is another of the new name; or an entry of the file is read-only. The first of these. (own)
abbrev pub IsRenameReason : Disk → ℕ → List ℕ → List ℕ → FileRefusal → Type 0
IsRenameReason old user name new_name NoFile = IsAbsent old user name
IsRenameReason old user name new_name Exists = IsThere old user name × (same_name name new_name ≡ false) × IsThere old user new_name
IsRenameReason old user name new_name ReadOnly = IsFreeName old user name new_name × (list_any (protects user name) (entries_of old) ≡ true)
IsRenameReason old user name new_name DirectoryFull = ⊥
IsRenameReason old user name new_name DiskFull = ⊥

-- The fault of the first entry that has one; or the disk is sound, and this is the reason; or there is none, but no memory. (own)
abbrev pub IsRenameRefusal : Disk → ℕ → List ℕ → List ℕ → ImageFilesError → Type 0
IsRenameRefusal old user name new_name (Damaged fault) = IsChecked (dpb_of old.format) (entries_of old) (Err fault)
IsRenameRefusal old user name new_name (Refused refusal) = IsSoundDisk old × IsRenameReason old user name new_name refusal
IsRenameRefusal old user name new_name OutOfMemory = IsSoundDisk old × IsRenamable old user name new_name
