-- A folder of the host as a disk. All of it is own.
use Rattle.std.specs.Prelude.{⊤, ◌≡◌, ◌⊎◌, ℕ, ◌<◌, Bool, false, if◌then◌else◌, List, [], ◌∷◌, Option, Some, None, length, take, slice_index_or, chars}
use Rattle.std.specs.List.{flat_map, list_any, range_with_len}
use Rattle.cpm_shown.specs.Shown.{shown_of}
use Rattle.cpm_directory.specs.Directory.{entries_of}
use Rattle.cpm_geom.specs.Disk.{Disk, blank_disk}
use Rattle.cpm_geom.specs.Geometry.{dpb_of}
use Rattle.cpm_geom.specs.declared.format.Format.TheVariants.{Ibm3740, Large}
use Rattle.cpm_volume.specs.Files.{same_name}
use Rattle.cpm_image_files.specs.ImageFiles.{file_refusal_of, records_for, DiskHasFile, IsPut}
use Rattle.cpm_image_files.specs.declared.name.FileName.{FileName}
use Rattle.cpm_image_files.specs.declared.refusal.FileRefusal.{FileRefusal}
use Rattle.cpm_disk_commands.specs.HostNames.{is_read_as}
use Rattle.cpm_disk_commands.specs.Names.{one_name}
use Rattle.cpm_disk_commands.specs.Refusals.{file_named, is_same_file}
use Rattle.cpm_disk_commands.specs.declared.damage.NamedFile.{NamedFile}
use Rattle.cpm_disk_commands.specs.declared.error.DiskCommandError.{DiskCommandError}
use Rattle.cpm_disk_commands.specs.declared.error.DiskCommandError.TheVariants.{Refused, OutOfMemory}
use Rattle.cpm_disk_commands.specs.declared.folder.FolderName.{FolderName}
use Rattle.cpm_disk_commands.specs.declared.folder.HostFile.{HostFile}

-- ---- the names of a folder

-- a text spells a name, in the low seven bits of each character
abbrev pub spells : (name text : List ℕ) → Bool
spells name text = is_read_as name (one_name text)

-- a name that was spelled, if it isn't taken
abbrev pub name_unless : (is_taken : List ℕ → Bool) → Option (List ℕ) → Option (List ℕ)
name_unless is_taken None = None
name_unless is_taken (Some name) = if is_taken name then None else Some name

-- the name on a disk that the one at a place of a folder's list gets: it spells one, and none before it spells the same
unfoldable pub disk_name_at : (names : List (List ℕ)) → ℕ → Option (List ℕ)
disk_name_at names i = name_unless (λ name. list_any (spells name) (take i names)) (one_name (slice_index_or names i []))

-- a name that is kept, with its file of user 0; and one that gets none
abbrev pub kept_as : (text : List ℕ) → Option (List ℕ) → List (List ℕ × NamedFile)
kept_as text None = []
kept_as text (Some name) = (text, record { user = 0; name = name }) ∷ []

abbrev pub left_as : (text : List ℕ) → Option (List ℕ) → List (List ℕ)
left_as text None = text ∷ []
left_as text (Some name) = []

abbrev pub kept_at : (names : List (List ℕ)) → ℕ → List (List ℕ × NamedFile)
kept_at names i = kept_as (slice_index_or names i []) (disk_name_at names i)

abbrev pub left_at : (names : List (List ℕ)) → ℕ → List (List ℕ)
left_at names i = left_as (slice_index_or names i []) (disk_name_at names i)

-- Those of a list, in its order: each place gives one of the two.
unfoldable pub kept_names : List (List ℕ) → List (List ℕ × NamedFile)
kept_names names = flat_map (kept_at names) (range_with_len 0 (length names))

unfoldable pub left_out_names : List (List ℕ) → List (List ℕ)
left_out_names names = flat_map (left_at names) (range_with_len 0 (length names))

-- a name of a folder and its file, without where they lie
abbrev pub folder_name : FolderName → List ℕ × NamedFile
folder_name kept = (kept.name.now, file_named kept.file)

-- the name of one of these files, in the low seven bits of each character
abbrev pub is_kept : List FolderName → List ℕ → Bool
is_kept kept name = list_any (λ other. same_name other.file.name name) kept

-- own: no two of the names that are kept are of one file
abbrev pub KeptLaw : Type 0
KeptLaw =
    (names : List (List ℕ)) (j k : ℕ) (d : List ℕ × NamedFile) → j < k → k < length (kept_names names)
    → same_name (slice_index_or (kept_names names) j d).1.name (slice_index_or (kept_names names) k d).1.name ≡ false

-- ---- the disk of files

-- a file of a disk and its bytes, without where they lie
abbrev pub host_file : HostFile → FileName × List ℕ
host_file file = (file.file, file.bytes.items)

-- files are put on a disk, each after those before it
abbrev pub AreFilesPut : List (FileName × List ℕ) → (old new : Disk) → Type 0
AreFilesPut [] old new = new ≡ old
AreFilesPut (file ∷ files) old new =
    (between : Disk) × IsPut old file.0.user file.0.name file.1 between × AreFilesPut files between new

-- why a disk doesn't take a file, if it doesn't
abbrev pub refusal_on : Disk → FileName × List ℕ → Option FileRefusal
refusal_on disk file = file_refusal_of (dpb_of disk.format) (entries_of disk) file.0.user file.0.name (records_for (length file.1))

-- a disk takes the files before this one, and not this one, for this reason
abbrev pub IsFirstUntaken : List (FileName × List ℕ) → Disk → NamedFile → FileRefusal → Type 0
IsFirstUntaken [] disk refused reason = ⊥
IsFirstUntaken (file ∷ files) disk refused reason =
    ((refused ≡ file_named file.0) × (refusal_on disk file ≡ Some reason))
    ⊎ ((between : Disk) × IsPut disk file.0.user file.0.name file.1 between × IsFirstUntaken files between refused reason)

-- a disk doesn't take all files
abbrev pub DoesNotTake : Disk → List (FileName × List ℕ) → Type 0
DoesNotTake disk files = (refused : NamedFile) × (reason : FileRefusal) × IsFirstUntaken files disk refused reason

-- The files are on a disk of the small format; or that doesn't take them, and they are on one of the large format.
abbrev pub IsDiskOfFiles : List (FileName × List ℕ) → Disk → Type 0
IsDiskOfFiles files disk =
    AreFilesPut files (blank_disk Ibm3740) disk
    ⊎ (DoesNotTake (blank_disk Ibm3740) files × AreFilesPut files (blank_disk Large) disk)

-- no two of the files are one on a disk
abbrev pub AreApart : List (FileName × List ℕ) → Type 0
AreApart [] = ⊤
AreApart (file ∷ files) = (list_any (λ other. is_same_file file.0 other.0) files ≡ false) × AreApart files

-- a disk has each of the files
abbrev pub HasEach : Disk → List (FileName × List ℕ) → Type 0
HasEach disk [] = ⊤
HasEach disk (file ∷ files) = DiskHasFile disk file.0.user file.0.name file.1 × HasEach disk files

-- own: the disk of files has each of them, where no two are one on a disk
abbrev pub FilesLaw : Type 0
FilesLaw = (files : List (FileName × List ℕ)) (disk : Disk) → AreApart files → IsDiskOfFiles files disk → HasEach disk files

-- Why files are not put on a disk: the first that it doesn't take, told of a folder; or memory is refused.
abbrev pub IsFilesRefusal : (folder : List ℕ) → List (FileName × List ℕ) → Disk → DiskCommandError → Type 0
IsFilesRefusal folder files disk (Refused shown about reason) =
    (shown.bytes ≡ shown_of (chars folder)) × IsFirstUntaken files disk about reason
IsFilesRefusal folder files disk OutOfMemory = ⊤
IsFilesRefusal folder files disk _ = ⊥

-- Why there is no disk of files: memory is refused; or neither format takes them, and the first that the large one doesn't take is told.
abbrev pub IsDiskOfFilesRefusal : (folder : List ℕ) → List (FileName × List ℕ) → DiskCommandError → Type 0
IsDiskOfFilesRefusal folder files e =
    (e ≡ OutOfMemory) ⊎ (DoesNotTake (blank_disk Ibm3740) files × IsFilesRefusal folder files (blank_disk Large) e)
