-- What has become of the files of a disk, from its start to how it was left. All of it is own.
use Rattle.std.specs.Prelude.{⊤, ◌≡◌, ◌⊎◌, ℕ, ◌<◌, true, if◌then◌else◌, List, [], ◌∷◌, Option, Some, None, Err, chars}
use Rattle.cpm_shown.specs.Shown.{shown_of}
use Rattle.cpm_directory.specs.Directory.{entries_of}
use Rattle.cpm_directory.specs.WellFormed.{IsChecked}
use Rattle.cpm_directory.specs.declared.fault.DriveFault.{DriveFault}
use Rattle.cpm_geom.specs.Disk.{Disk}
use Rattle.cpm_geom.specs.Geometry.{dpb_of}
use Rattle.cpm_image_files.specs.ImageFiles.{IsSoundDisk}
use Rattle.cpm_image_files.specs.Listing.{IsListed}
use Rattle.cpm_image_files.specs.Taken.{IsGot}
use Rattle.cpm_image_files.specs.declared.listing.DiskFile.{DiskFile}
use Rattle.cpm_image_files.specs.declared.listing.DiskListing.{DiskListing}
use Rattle.cpm_volume.specs.Files.{has_wildcard}
use Rattle.cpm_disk_commands.specs.Damage.{damage_of}
use Rattle.cpm_disk_commands.specs.Folder.{spells}
use Rattle.cpm_disk_commands.specs.HostNames.{host_text, is_host_name}
use Rattle.cpm_disk_commands.specs.Matching.{listed}
use Rattle.cpm_disk_commands.specs.declared.changed.ComparedFile.{ComparedFile}
use Rattle.cpm_disk_commands.specs.declared.changed.FileChange.{FileChange}
use Rattle.cpm_disk_commands.specs.declared.changed.FileChange.TheVariants.{Unchanged, Changed, Unnamed}
use Rattle.cpm_disk_commands.specs.declared.error.DiskCommandError.{DiskCommandError}
use Rattle.cpm_disk_commands.specs.declared.error.DiskCommandError.TheVariants.{LeftDamaged, OutOfMemory}

-- ---- what is compared

-- a disk had a file of these bytes, if there was a disk: they are what is taken off it
abbrev pub HadFile : (start : Option Disk) → (user : ℕ) → (name bytes : List ℕ) → Type 0
HadFile None user name bytes = ⊥
HadFile (Some disk) user name bytes = IsGot disk user name bytes

-- What has become of a file: its bytes are those that it had; or it hadn't these; or no command can name it, by its user or a question mark in its name.
abbrev pub IsChangeOf : (start : Option Disk) → (left : Disk) → DiskFile → FileChange → Type 0
IsChangeOf start left file Unchanged =
    (bytes : List ℕ) × IsGot left file.user file.name bytes × HadFile start file.user file.name bytes
IsChangeOf start left file (Changed bytes) =
    IsGot left file.user file.name bytes.items × (HadFile start file.user file.name bytes.items → ⊥)
IsChangeOf start left file Unnamed = (15 < file.user) ⊎ (has_wildcard file.name ≡ true)

-- of a file of the disk that was left
abbrev pub IsFileCompared : (start : Option Disk) → (left : Disk) → DiskFile → ComparedFile → Type 0
IsFileCompared start left file compared = (compared.file ≡ listed file) × IsChangeOf start left file compared.change

-- each of these, in their order
abbrev pub AreFilesCompared : (start : Option Disk) → (left : Disk) → List DiskFile → List ComparedFile → Type 0
AreFilesCompared start left [] [] = ⊤
AreFilesCompared start left (file ∷ files) (compared ∷ rest) =
    IsFileCompared start left file compared × AreFilesCompared start left files rest
AreFilesCompared start left [] (compared ∷ rest) = ⊥
AreFilesCompared start left (file ∷ files) [] = ⊥

-- each file of the disk that was left, once, in the order of their first entries
abbrev pub IsDiskCompared : (start : Option Disk) → (left : Disk) → List ComparedFile → Type 0
IsDiskCompared start left compared = (listing : DiskListing) × IsListed left listing × AreFilesCompared start left listing.files.items compared

-- Why they aren't: the fault of the left disk's first entry that has one, told of a folder; or the disk is sound, but memory was refused.
abbrev pub IsCompareRefusal : (folder : List ℕ) → (left : Disk) → DiskCommandError → Type 0
IsCompareRefusal folder left (LeftDamaged shown damage) =
    (shown.bytes ≡ shown_of (chars folder)) × (fault : DriveFault) × IsChecked (dpb_of left.format) (entries_of left) (Err fault)
    × (damage ≡ damage_of left fault)
IsCompareRefusal folder left OutOfMemory = IsSoundDisk left
IsCompareRefusal folder left _ = ⊥

-- ---- the name in a folder

-- the first of these names that spells a name, if one does
unfoldable pub first_spelling : (names : List (List ℕ)) → (name : List ℕ) → Option (List ℕ)
first_spelling [] name = None
first_spelling (text ∷ texts) name = if spells name text then Some text else first_spelling texts name

-- a name in small letters, if it can be that of a file of the host
abbrev pub small_name : (name : List ℕ) → Option (List ℕ)
small_name name = if is_host_name (host_text name) name then Some (host_text name) else None

abbrev pub or_small : Option (List ℕ) → (name : List ℕ) → Option (List ℕ)
or_small (Some text) name = Some text
or_small None name = small_name name

-- the name of a file in a folder with files of these names: that of the first which spells its name, and else its own in small letters
unfoldable pub name_in_folder : (names : List (List ℕ)) → (name : List ℕ) → Option (List ℕ)
name_in_folder names name = or_small (first_spelling names name) name
