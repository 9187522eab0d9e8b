-- What is told where nothing is done. All of it is own.
use Rattle.std.specs.Prelude.{⊤, ◌≡◌, ℕ, Bool, true, ◌&&◌, ◌==◌, List, None, Err, length, chars}
use Rattle.std.specs.List.{list_any}
use Rattle.cpm_shown.specs.Shown.{shown_of}
use Rattle.cpm_directory.specs.Directory.{entries_of}
use Rattle.cpm_directory.specs.WellFormed.{IsChecked}
use Rattle.cpm_directory.specs.declared.fault.DriveFault.{DriveFault}
use Rattle.cpm_volume.specs.Files.{same_name}
use Rattle.cpm_geom.specs.Disk.{Disk}
use Rattle.cpm_geom.specs.Geometry.{dpb_of, format_of_length}
use Rattle.cpm_image_files.specs.declared.name.FileName.{FileName}
use Rattle.cpm_image_files.specs.declared.refusal.ImageFilesError.{ImageFilesError}
use Rattle.cpm_image_files.specs.declared.refusal.ImageFilesError.TheVariants as image_error
use Rattle.cpm_refusals.specs.declared.code.RefusalCode.{RefusalCode}
use Rattle.cpm_refusals.specs.declared.code.RefusalCode.TheVariants as code
use Rattle.cpm_disk_commands.specs.Damage.{damage_of}
use Rattle.cpm_disk_commands.specs.Names.{one_name}
use Rattle.cpm_disk_commands.specs.declared.damage.NamedFile.{NamedFile}
use Rattle.cpm_disk_commands.specs.declared.error.DiskCommandError.{DiskCommandError}
use Rattle.cpm_disk_commands.specs.declared.error.DiskCommandError.TheVariants.{NotName, NotPattern, NotPair, PutTwice, NotImage, Damaged, LeftDamaged}
use Rattle.cpm_disk_commands.specs.declared.error.DiskCommandError.TheVariants.{NoFile, NoHostName, Refused, OutputUnwritable, OutOfMemory}

-- the code of each
abbrev pub code_of_disk_command : DiskCommandError → RefusalCode
code_of_disk_command (NotName text) = code.Usage
code_of_disk_command (NotPattern text) = code.Usage
code_of_disk_command (NotPair text) = code.Usage
code_of_disk_command (PutTwice text file) = code.Usage
code_of_disk_command (OutputUnwritable reason) = code.Unwritable
code_of_disk_command (NotImage image count) = code.Image
code_of_disk_command (Damaged image damage) = code.Image
code_of_disk_command (LeftDamaged folder damage) = code.Image
code_of_disk_command (NoFile image pattern user) = code.Image
code_of_disk_command (Refused image file refusal) = code.Image
code_of_disk_command (NoHostName image file) = code.Image
code_of_disk_command OutOfMemory = code.OutOfMemory

-- bytes are no image, by their number
abbrev pub IsNotImage : (image bytes : List ℕ) → DiskCommandError → Type 0
IsNotImage image bytes (NotImage shown count) =
    (shown.bytes ≡ shown_of (chars image)) × (count ≡ length bytes) × (format_of_length (length bytes) ≡ None)
IsNotImage image bytes _ = ⊥

-- the user and the name of a file
abbrev pub file_named : FileName → NamedFile
file_named file = record { user = file.user; name = file.name }

-- the fault of a directory is told of the image in a file of the host
abbrev pub IsDamageTold : Disk → (image : List ℕ) → DriveFault → DiskCommandError → Type 0
IsDamageTold disk image fault (Damaged shown damage) = (shown.bytes ≡ shown_of (chars image)) × (damage ≡ damage_of disk fault)
IsDamageTold disk image fault _ = ⊥

-- why nothing is done is told of the image and of a file of the disk
abbrev pub IsTold : Disk → (image : List ℕ) → NamedFile → ImageFilesError → DiskCommandError → Type 0
IsTold disk image file (image_error.Damaged fault) f = IsDamageTold disk image fault f
IsTold disk image file (image_error.Refused refusal) (Refused shown about reason) =
    (shown.bytes ≡ shown_of (chars image)) × (about ≡ file) × (reason ≡ refusal)
IsTold disk image file (image_error.Refused refusal) _ = ⊥
IsTold disk image file image_error.OutOfMemory f = f ≡ OutOfMemory

-- there is such a reason, and it is told
abbrev pub IsToldRefusal : Disk → (image : List ℕ) → NamedFile → (ImageFilesError → Type 0) → DiskCommandError → Type 0
IsToldRefusal disk image file Is f = (e : ImageFilesError) × Is e × IsTold disk image file e f

-- a fault is the disk's first
abbrev pub IsFaultOf : Disk → ImageFilesError → Type 0
IsFaultOf disk (image_error.Damaged fault) = IsChecked (dpb_of disk.format) (entries_of disk) (Err fault)
IsFaultOf disk (image_error.Refused refusal) = ⊤
IsFaultOf disk image_error.OutOfMemory = ⊤

-- a text is no name of a file
abbrev pub IsNotName : (text : List ℕ) → DiskCommandError → Type 0
IsNotName text (NotName shown) = (shown.bytes ≡ shown_of (chars text)) × (one_name text ≡ None)
IsNotName text _ = ⊥

-- two files are one on a disk: of one user, and of one name in the low seven bits of each character
abbrev pub is_same_file : FileName → FileName → Bool
is_same_file file other = (file.user == other.user) && same_name file.name other.name

-- a word would put a file on a disk that one before it is already
abbrev pub IsPutTwice : (before : List FileName) → FileName → (word : List ℕ) → DiskCommandError → Type 0
IsPutTwice before file word (PutTwice shown about) =
    (shown.bytes ≡ shown_of (chars word)) × (about ≡ file_named file) × (list_any (is_same_file file) before ≡ true)
IsPutTwice before file word _ = ⊥
