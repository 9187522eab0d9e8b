-- What the commands on disk images do that change one or list its files. All of it is own.
use Rattle.std.specs.Prelude.{◌≡◌, ◌⊎◌, ◌<◌, ◌==◌, ◌&&◌, ℕ, Bool, false, if◌then◌else◌, List, [], ◌∷◌, ◌++◌, chars, length, map}
use Rattle.std.specs.Prelude.{Option, Some, None}
use Rattle.std.specs.Io.KnownBytes.{Appends}
use Rattle.std.specs.List.{after_first, before_first, concat, list_any, position_or_len}
use Rattle.std.specs.Str.{bytes_eq}
use Rattle.cpm_shown.specs.Shown.{shown_of}
use Rattle.cpm_geom.specs.Disk.{Disk, blank_disk}
use Rattle.cpm_image_files.specs.ImageFiles.{IsPut}
use Rattle.cpm_image_files.specs.Listing.{IsListed}
use Rattle.cpm_image_files.specs.Taken.{IsRemovalRefusal, IsRemoved, IsRenamed, IsRenameRefusal}
use Rattle.cpm_image_files.specs.declared.listing.DiskFile.{DiskFile}
use Rattle.cpm_image_files.specs.declared.listing.DiskListing.{DiskListing}
use Rattle.cpm_image_files.specs.declared.name.FileName.{FileName}
use Rattle.cpm_disk_commands.specs.DiskCommands.{format_for, stored, IsImageFile, IsPutTold}
use Rattle.cpm_disk_commands.specs.Listing.{list_text, IsListTold, IsListWriteRefusal}
use Rattle.cpm_disk_commands.specs.Matching.{AreMeant, IsMatchRefusal}
use Rattle.cpm_disk_commands.specs.Names.{one_name, with_marks, IsBaseName}
use Rattle.cpm_disk_commands.specs.Refusals.{file_named, is_same_file, IsNotImage, IsNotName, IsPutTwice, IsToldRefusal}
use Rattle.cpm_disk_commands.specs.declared.error.DiskCommandError.{DiskCommandError}
use Rattle.cpm_disk_commands.specs.declared.error.DiskCommandError.TheVariants.{NotPair}
use Rattle.cpm_host.specs.Refusals.{host_error_of_disk_command}
use Rattle.cpm_host.specs.declared.error.HostError.{HostError}
use Rattle.cpm_host.specs.declared.error.HostError.TheVariants.{OutOfMemory}
use Rattle.cpm_store.specs.Files.{StoreName}
use Rattle.cpm_store.specs.Log.{StoreAccess, Gave, Missed}
use Rattle.cpm_store.specs.Writes.{NamedBytes}
use Rattle.cpm_commands.specs.Files.{AreUnwritten, AreWritten, IsUnread}
use Rattle.cpm_commands.specs.Plan.{Plan, planned}
use Rattle.cpm_commands.specs.declared.disk.PutOptions.{PutOptions}
use Rattle.cpm_commands.specs.declared.plan.FileRole.TheVariants.{Image}
use Rattle.cpm_commands.specs.declared.plan.OutputNaming.TheVariants.{New, Replaces}

-- ---- an image and its file

-- it is refused as a command on disk images is
abbrev pub IsDiskRefusal : (DiskCommandError → Type 0) → HostError → Type 0
IsDiskRefusal Is e = (error : DiskCommandError) × Is error × (e ≡ host_error_of_disk_command error)

-- the file gave the bytes of this disk
abbrev pub IsDiskRead : {F : Type 0} → (F → StoreAccess → F → Type 0) → StoreName → F → F → Disk → Type 0
IsDiskRead {F} does image old new disk = (bytes : List ℕ) × does old (Gave image bytes) new × IsImageFile bytes disk

-- it can't be read, or it gave bytes of no disk
abbrev pub IsDiskUnread : {F : Type 0} → (F → StoreAccess → F → Type 0) → StoreName → F → F → HostError → Type 0
IsDiskUnread {F} does image old new e =
    (IsUnread image e × does old (Missed image) new)
    ⊎ ((bytes : List ℕ) × does old (Gave image bytes) new × IsDiskRefusal (IsNotImage image bytes) e)

-- what is written of a disk: its sectors, one after the other, to its file
abbrev pub disk_outputs : StoreName → Disk → List NamedBytes
disk_outputs image disk = (image, concat disk.sectors) ∷ []

-- ---- a new image

abbrev pub plan_of_new : StoreName → Plan
plan_of_new image = record { inputs = []; outputs = planned image Image ∷ []; naming = New }

-- its file was seen to, and a blank disk was written to it
pub record HasMadeDisk {F : Type 0} (does : F → StoreAccess → F → Type 0) (sees_to : F → Plan → Option HostError → F → Type 0)
    (gives_names : F → Option HostError → F → Type 0) (image : StoreName) (is_large : Bool) (old new : F) : Type 0 where
  pub seen : F
  pub sees : sees_to old (plan_of_new image) None seen
  pub written : AreWritten does gives_names (disk_outputs image (blank_disk (format_for is_large))) seen new

-- how far it came that was refused
pub data IsNewRefused {F : Type 0} (does : F → StoreAccess → F → Type 0) (sees_to : F → Plan → Option HostError → F → Type 0)
    (gives_names : F → Option HostError → F → Type 0) (image : StoreName) (is_large : Bool) (old new : F) (e : HostError) : Type 0 where
  -- memory was refused before anything
  NotBegun : e ≡ OutOfMemory → new ≡ old → IsNewRefused does sees_to gives_names image is_large old new e
  -- its file can't be a new one
  NotSeen : sees_to old (plan_of_new image) (Some e) new → IsNewRefused does sees_to gives_names image is_large old new e
  -- memory was refused for the disk, and nothing was written
  NotMade : sees_to old (plan_of_new image) None new → e ≡ OutOfMemory → IsNewRefused does sees_to gives_names image is_large old new e
  -- it can't be written, or can't have its name
  Unwritten : (seen : F) → sees_to old (plan_of_new image) None seen
      → AreUnwritten does gives_names (disk_outputs image (blank_disk (format_for is_large))) seen new e
      → IsNewRefused does sees_to gives_names image is_large old new e

-- ---- the files of an image

-- the image was read, and its files were printed, or those of one user
pub record HasListedDisk {F : Type 0} (does : F → StoreAccess → F → Type 0) (image : StoreName) (user : Option ℕ) (old new : F)
    (before printed : Option (List ℕ)) : Type 0 where
  pub disk : Disk
  pub listing : DiskListing
  pub read : IsDiskRead does image old new disk
  pub listed : IsListed disk listing
  pub text : Appends before printed (list_text disk.format user listing)

-- how far it came that was refused
pub data IsDiskListRefused {F W : Type 0} (does : F → StoreAccess → F → Type 0) (image : StoreName) (old new : F) (before printed : W) (e : HostError)
    : Type 0 where
  -- the image can't be read, and nothing is printed
  Unread : IsDiskUnread does image old new e → printed ≡ before → IsDiskListRefused does image old new before printed e
  -- it has no list, and nothing is printed
  Unlisted : (disk : Disk) → IsDiskRead does image old new disk → IsDiskRefusal (IsListTold disk image) e → printed ≡ before
      → IsDiskListRefused does image old new before printed e
  -- its list can't be printed
  Unprinted : (disk : Disk) (listing : DiskListing) → IsDiskRead does image old new disk → IsListed disk listing
      → IsDiskRefusal (λ f. IsListWriteRefusal f before printed) e → IsDiskListRefused does image old new before printed e

-- ---- an image that is changed

abbrev pub plan_of_change : StoreName → Plan
plan_of_change image = record { inputs = planned image Image ∷ []; outputs = planned image Image ∷ []; naming = Replaces }

-- its file was seen to, as one that is read and then written, and it was read
pub record IsDiskOpened {F : Type 0} (does : F → StoreAccess → F → Type 0) (sees_to : F → Plan → Option HostError → F → Type 0) (image : StoreName)
    (old new : F) (disk : Disk) : Type 0 where
  pub seen : F
  pub sees : sees_to old (plan_of_change image) None seen
  pub read : IsDiskRead does image seen new disk

-- memory was refused before anything; or the file can't be changed; or the image can't be read
abbrev pub IsDiskUnopened : {F : Type 0} → (F → StoreAccess → F → Type 0) → (F → Plan → Option HostError → F → Type 0) → StoreName → F → F → HostError → Type 0
IsDiskUnopened {F} does sees_to image old new e =
    ((e ≡ OutOfMemory) × (new ≡ old))
    ⊎ sees_to old (plan_of_change image) (Some e) new
    ⊎ ((seen : F) × sees_to old (plan_of_change image) None seen × IsDiskUnread does image seen new e)

-- the image was opened, changed so, and written
pub record HasChanged {F : Type 0} (does : F → StoreAccess → F → Type 0) (sees_to : F → Plan → Option HostError → F → Type 0)
    (gives_names : F → Option HostError → F → Type 0) (image : StoreName) (changes : Disk → Disk → F → F → Type 0) (old new : F) : Type 0 where
  pub disk : Disk
  pub disk_now : Disk
  pub begun : F
  pub done : F
  pub opened : IsDiskOpened does sees_to image old begun disk
  pub changed : changes disk disk_now begun done
  pub written : AreWritten does gives_names (disk_outputs image disk_now) done new

-- how far it came that was refused
pub data IsChangeRefused {F : Type 0} (does : F → StoreAccess → F → Type 0) (sees_to : F → Plan → Option HostError → F → Type 0)
    (gives_names : F → Option HostError → F → Type 0) (image : StoreName) (changes : Disk → Disk → F → F → Type 0)
    (stops : Disk → F → F → HostError → Type 0) (old new : F) (e : HostError) : Type 0 where
  -- it was not opened
  Unopened : IsDiskUnopened does sees_to image old new e → IsChangeRefused does sees_to gives_names image changes stops old new e
  -- it can't be changed so, and nothing was written
  Unchanged : (disk : Disk) (begun : F) → IsDiskOpened does sees_to image old begun disk → stops disk begun new e
      → IsChangeRefused does sees_to gives_names image changes stops old new e
  -- it was, and can't be written, or its file can't have its name
  Unwritten : (disk disk_now : Disk) (begun done : F) → IsDiskOpened does sees_to image old begun disk → changes disk disk_now begun done
      → AreUnwritten does gives_names (disk_outputs image disk_now) done new e → IsChangeRefused does sees_to gives_names image changes stops old new e

-- ---- files that are put

-- the text spells the name of a file, which has this user and these attributes
abbrev pub IsFileName : List ℕ → ℕ → (is_read_only is_system : Bool) → FileName → Type 0
IsFileName text user is_read_only is_system file =
    (name : List ℕ) × (one_name text ≡ Some name) × (file.user ≡ user) × (file.name ≡ with_marks is_read_only is_system name)

-- a word is FILE=NAME.TYP; or FILE, whose last name is that of the disk's file
abbrev pub IsPutWord : (word path text : List ℕ) → Type 0
IsPutWord word path text =
    ((position_or_len (λ c. c == 0x3D) word < length word) × (path ≡ before_first (λ c. c == 0x3D) word) × (text ≡ after_first (λ c. c == 0x3D) word))
    ⊎ ((position_or_len (λ c. c == 0x3D) word ≡ length word) × (path ≡ word) × IsBaseName word text)

-- a word names a file of the host, and one of a disk that is none of those before it
pub record IsPutNamed (word : StoreName) (user : ℕ) (how : PutOptions) (before : List FileName) (path : StoreName) (file : FileName) : Type 0 where
  pub text : List ℕ
  pub word_is : IsPutWord word path text
  pub named : IsFileName text user how.is_read_only how.is_system file
  pub fresh : list_any (is_same_file file) before ≡ false

-- it spells no name; or the one of a file before it
abbrev pub IsPutUnnamed : StoreName → ℕ → PutOptions → List FileName → HostError → Type 0
IsPutUnnamed word user how before e =
    ((path text : List ℕ) × IsPutWord word path text × IsDiskRefusal (IsNotName text) e)
    ⊎ ((path text : List ℕ) × (file : FileName) × IsPutWord word path text × IsFileName text user how.is_read_only how.is_system file
    × IsDiskRefusal (IsPutTwice before file word) e)

-- the file of the host gave its bytes, which were put on the disk
abbrev pub IsFilePut : {F : Type 0} → (F → StoreAccess → F → Type 0) → StoreName → FileName → Bool → Disk → Disk → F → F → Type 0
IsFilePut {F} does path file is_text disk disk_now old new =
    (bytes : List ℕ) × does old (Gave path bytes) new × IsPut disk file.user file.name (stored is_text bytes) disk_now

-- it can't be read; or its bytes can't be put there
abbrev pub IsFileUnput : {F : Type 0} → (F → StoreAccess → F → Type 0) → (image path : StoreName) → FileName → Bool → Disk → F → F → HostError → Type 0
IsFileUnput {F} does image path file is_text disk old new e =
    (IsUnread path e × does old (Missed path) new)
    ⊎ ((bytes : List ℕ) × does old (Gave path bytes) new × IsDiskRefusal (IsPutTold disk image file is_text bytes) e)

-- one word was put
pub record IsWordPut {F : Type 0} (does : F → StoreAccess → F → Type 0) (user : ℕ) (how : PutOptions) (before : List FileName) (word : StoreName)
    (file : FileName) (disk disk_now : Disk) (old new : F) : Type 0 where
  pub path : StoreName
  pub names : IsPutNamed word user how before path file
  pub put : IsFilePut does path file how.is_text disk disk_now old new

-- it names no file that can be put, or memory was refused, and nothing was read; or it names one, which can't be put
abbrev pub IsWordUnput : {F : Type 0} → (F → StoreAccess → F → Type 0) → StoreName → ℕ → PutOptions → List FileName → StoreName → Disk → F → F → HostError
    → Type 0
IsWordUnput {F} does image user how before word disk old new e =
    ((e ≡ OutOfMemory) × (new ≡ old))
    ⊎ (IsPutUnnamed word user how before e × (new ≡ old))
    ⊎ ((path : StoreName) × (file : FileName) × IsPutNamed word user how before path file × IsFileUnput does image path file how.is_text disk old new e)

-- these words were put one after the other, after those of the files before
abbrev pub ArePut : {F : Type 0} → (F → StoreAccess → F → Type 0) → ℕ → PutOptions → List FileName → List StoreName → Disk → Disk → F → F → Type 0
ArePut {F} does user how before [] disk disk_now old new = (disk_now ≡ disk) × (new ≡ old)
ArePut {F} does user how before (word ∷ words) disk disk_now old new =
    (file : FileName) × (between : Disk) × (known : F) × IsWordPut does user how before word file disk between old known
    × ArePut does user how (before ++ file ∷ []) words between disk_now known new

-- the first of them that can't be put, after those before it were
abbrev pub IsPutStopped : {F : Type 0} → (F → StoreAccess → F → Type 0) → StoreName → ℕ → PutOptions → List FileName → List StoreName → Disk → F → F
    → HostError → Type 0
IsPutStopped {F} does image user how before [] disk old new e = ⊥
IsPutStopped {F} does image user how before (word ∷ words) disk old new e =
    IsWordUnput does image user how before word disk old new e
    ⊎ ((file : FileName) × (between : Disk) × (known : F) × IsWordPut does user how before word file disk between old known
    × IsPutStopped does image user how (before ++ file ∷ []) words between known new e)

-- ---- files that patterns name

-- a file is one of these, by its user and all bytes of its name
abbrev pub is_file_among : FileName → List FileName → Bool
is_file_among file files = list_any (λ other. (other.user == file.user) && bytes_eq other.name file.name) files

-- files, and those of others that aren't among them yet
abbrev pub with_new : List FileName → List FileName → List FileName
with_new files [] = files
with_new files (file ∷ others) = with_new (if is_file_among file files then files else files ++ file ∷ []) others

-- the files of a user that the patterns of these texts name, each once, after those that are named before
abbrev pub AreNamed : (texts : List StoreName) → (user : ℕ) → List DiskFile → (before named : List FileName) → Type 0
AreNamed [] user files before named = named ≡ before
AreNamed (text ∷ texts) user files before named =
    (found : List FileName) × AreMeant text user files (map file_named found) × AreNamed texts user files (with_new before found) named

-- the first text that is no pattern or names no file, or memory is refused
abbrev pub IsNamingStopped : (image : StoreName) → (texts : List StoreName) → (user : ℕ) → List DiskFile → HostError → Type 0
IsNamingStopped image [] user files e = ⊥
IsNamingStopped image (text ∷ texts) user files e =
    (e ≡ OutOfMemory) ⊎ IsDiskRefusal (IsMatchRefusal image text user files) e
    ⊎ ((found : List FileName) × AreMeant text user files (map file_named found) × IsNamingStopped image texts user files e)

-- the files of a disk that patterns name
abbrev pub AreNamedOn : Disk → (texts : List StoreName) → (user : ℕ) → List FileName → Type 0
AreNamedOn disk texts user named = (listing : DiskListing) × IsListed disk listing × AreNamed texts user listing.files.items [] named

-- the disk has no list, or a pattern names none of its files
abbrev pub IsUnnamedOn : (image : StoreName) → Disk → (texts : List StoreName) → (user : ℕ) → HostError → Type 0
IsUnnamedOn image disk texts user e =
    IsDiskRefusal (IsListTold disk image) e
    ⊎ ((listing : DiskListing) × IsListed disk listing × IsNamingStopped image texts user listing.files.items e)

-- ---- files that are removed

-- one after the other
abbrev pub AreRemoved : List FileName → Disk → Disk → Type 0
AreRemoved [] disk disk_now = disk_now ≡ disk
AreRemoved (file ∷ files) disk disk_now = (between : Disk) × IsRemoved disk file.user file.name between × AreRemoved files between disk_now

-- the first of them that can't be removed, after those before it were
abbrev pub IsRemovalStopped : (image : StoreName) → List FileName → Disk → HostError → Type 0
IsRemovalStopped image [] disk e = ⊥
IsRemovalStopped image (file ∷ files) disk e =
    IsDiskRefusal (IsToldRefusal disk image (file_named file) (IsRemovalRefusal disk file.user file.name)) e
    ⊎ ((between : Disk) × IsRemoved disk file.user file.name between × IsRemovalStopped image files between e)

-- the files that patterns name were removed, and nothing was read for it
abbrev pub HasRemoved : {F : Type 0} → (texts : List StoreName) → (user : ℕ) → Disk → Disk → F → F → Type 0
HasRemoved {F} texts user disk disk_now old new =
    (named : List FileName) × AreNamedOn disk texts user named × AreRemoved named disk disk_now × (new ≡ old)

abbrev pub IsNotRemoved : {F : Type 0} → (image : StoreName) → (texts : List StoreName) → (user : ℕ) → Disk → F → F → HostError → Type 0
IsNotRemoved {F} image texts user disk old new e =
    (IsUnnamedOn image disk texts user e
    ⊎ ((named : List FileName) × AreNamedOn disk texts user named × IsRemovalStopped image named disk e))
    × (new ≡ old)

-- ---- a file that gets another name

-- the two names that NEW=OLD gives
pub record IsRename (change : List ℕ) (user : ℕ) (file new_file : FileName) : Type 0 where
  pub pair : position_or_len (λ c. c == 0x3D) change < length change
  pub new_named : IsFileName (before_first (λ c. c == 0x3D) change) user false false new_file
  pub old_named : IsFileName (after_first (λ c. c == 0x3D) change) user false false file

-- the text is no pair
abbrev pub IsNotPair : List ℕ → DiskCommandError → Type 0
IsNotPair text (NotPair shown) = (shown.bytes ≡ shown_of (chars text)) × (position_or_len (λ c. c == 0x3D) text ≡ length text)
IsNotPair text _ = ⊥

-- the text is no pair; or it is one whose new name is none; or whose old one is none, and the new one is one
abbrev pub IsNoRename : (change : List ℕ) → (user : ℕ) → HostError → Type 0
IsNoRename change user e =
    IsDiskRefusal (IsNotPair change) e
    ⊎ ((position_or_len (λ c. c == 0x3D) change < length change) × IsDiskRefusal (IsNotName (before_first (λ c. c == 0x3D) change)) e)
    ⊎ ((new_file : FileName) × (position_or_len (λ c. c == 0x3D) change < length change)
    × IsFileName (before_first (λ c. c == 0x3D) change) user false false new_file
    × IsDiskRefusal (IsNotName (after_first (λ c. c == 0x3D) change)) e)

-- the file got the new name, and nothing was read for it
abbrev pub HasRenamed : {F : Type 0} → (file new_file : FileName) → Disk → Disk → F → F → Type 0
HasRenamed {F} file new_file disk disk_now old new = IsRenamed disk file.user file.name new_file.name disk_now × (new ≡ old)

abbrev pub IsNotRenamed : {F : Type 0} → (image : StoreName) → (file new_file : FileName) → Disk → F → F → HostError → Type 0
IsNotRenamed {F} image file new_file disk old new e =
    IsDiskRefusal (IsToldRefusal disk image (file_named file) (IsRenameRefusal disk file.user file.name new_file.name)) e × (new ≡ old)

-- the words gave two names, and the file of the one got the other
abbrev pub HasRenamedOn : {F : Type 0} → (F → StoreAccess → F → Type 0) → (F → Plan → Option HostError → F → Type 0) → (F → Option HostError → F → Type 0)
    → StoreName → (change : List ℕ) → (user : ℕ) → F → F → Type 0
HasRenamedOn {F} does sees_to gives_names image change user old new =
    (file : FileName) × (new_file : FileName) × IsRename change user file new_file
    × HasChanged does sees_to gives_names image (HasRenamed file new_file) old new

-- they gave none, and nothing was done; or how far it came
abbrev pub IsRenameRefused : {F : Type 0} → (F → StoreAccess → F → Type 0) → (F → Plan → Option HostError → F → Type 0) → (F → Option HostError → F → Type 0)
    → StoreName → (change : List ℕ) → (user : ℕ) → F → F → HostError → Type 0
IsRenameRefused {F} does sees_to gives_names image change user old new e =
    (IsNoRename change user e × (new ≡ old))
    ⊎ ((file : FileName) × (new_file : FileName) × IsRename change user file new_file
    × IsChangeRefused does sees_to gives_names image (HasRenamed file new_file) (IsNotRenamed image file new_file) old new e)
