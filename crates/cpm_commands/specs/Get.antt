-- What the command `disk get` does. All of it is own.
use Rattle.std.specs.Prelude.{⊤, ◌≡◌, ◌⊎◌, ◌<◌, ℕ, Bool, true, false, List, [], ◌∷◌, ◌++◌, chars, codes, flat_map, length, map, option_map, string_bytes}
use Rattle.std.specs.Prelude.{Option, Some, None, String, Vec, zip}
use Rattle.std.specs.Io.KnownBytes.{Appends}
use Rattle.std.specs.Path.{path_join}
use Rattle.std.specs.declared.alloc.Global.{Global}
use Rattle.cpm_shown.specs.Shown.{shown_of}
use Rattle.cpm_geom.specs.Disk.{Disk}
use Rattle.cpm_image_files.specs.Taken.{IsGetRefusal}
use Rattle.cpm_image_files.specs.declared.name.FileName.{FileName}
use Rattle.cpm_disk_commands.specs.DiskCommands.{IsTaken}
use Rattle.cpm_disk_commands.specs.HostNames.{host_text, is_host_name, IsNoHostName}
use Rattle.cpm_disk_commands.specs.Refusals.{file_named, IsToldRefusal}
use Rattle.cpm_host.specs.declared.error.HostError.{HostError}
use Rattle.cpm_host.specs.declared.error.HostError.TheVariants.{NotAFolder, OutOfMemory}
use Rattle.cpm_store.specs.Files.{StoreName}
use Rattle.cpm_store.specs.Log.{StoreAccess}
use Rattle.cpm_store.specs.Writes.{NamedBytes}
use Rattle.cpm_commands.specs.Disk.{AreNamedOn, IsDiskRefusal, IsDiskRead, IsDiskUnread, IsUnnamedOn}
use Rattle.cpm_commands.specs.Files.{AreUnwritten, AreWritten}
use Rattle.cpm_commands.specs.Plan.{Plan, all_planned, planned}
use Rattle.cpm_commands.specs.Report.{IsUnprinted}
use Rattle.cpm_commands.specs.declared.get.Destination.{Destination}
use Rattle.cpm_commands.specs.declared.get.Destination.TheVariants.{Current, Folder, OneFile}
use Rattle.cpm_commands.specs.declared.get.GetOptions.{GetOptions}
use Rattle.cpm_commands.specs.declared.plan.FileRole.TheVariants.{Image, Plain}
use Rattle.cpm_commands.specs.declared.plan.OutputNaming.{OutputNaming}
use Rattle.cpm_commands.specs.declared.plan.OutputNaming.TheVariants.{New, ReplacesPlain}

-- ---- where files go

-- into the current folder where nothing is said of it; else into the folder of the name, or to the file of it, as the machine says
abbrev pub IsDestination : (tells_folder : StoreName → Bool → Type 0) → Option StoreName → Destination → Type 0
IsDestination tells_folder None Current = ⊤
IsDestination tells_folder (Some to) (Folder name) = (name.now ≡ to) × tells_folder to true
IsDestination tells_folder (Some to) (OneFile name) = (name.now ≡ to) × tells_folder to false
IsDestination tells_folder _ _ = ⊥

-- the path of a file of a disk: to the one file; or by its own name in small letters into a folder, after a slash, unless the folder is empty or ends in one
abbrev pub path_of : Destination → FileName → StoreName
path_of Current file = host_text file.name
path_of (Folder folder) file = path_join folder.now (host_text file.name)
path_of (OneFile name) file = name.now

-- a file of the host can have its name, if it goes into a folder
abbrev pub HasPath : Destination → FileName → Type 0
HasPath (OneFile name) file = ⊤
HasPath _ file = is_host_name (host_text file.name) file.name ≡ true

-- a file of the host can't have its name, and it was to go into a folder
abbrev pub HasNoPath : (image : StoreName) → Destination → FileName → HostError → Type 0
HasNoPath image (OneFile name) file e = ⊥
HasNoPath image _ file e = IsDiskRefusal (IsNoHostName image file) e

-- several files go to one
abbrev pub IsCrowded : Destination → List FileName → Type 0
IsCrowded (OneFile name) files = 1 < length files
IsCrowded _ files = ⊥

abbrev pub IsNoFolder : Destination → HostError → Type 0
IsNoFolder (OneFile name) (NotAFolder shown) = shown.bytes ≡ shown_of (chars name.now)
IsNoFolder _ _ = ⊥

-- ---- files that are taken out of a disk

-- each path, and its bytes
abbrev pub taken_outputs : List (String Global) → List (Vec ℕ Global) → List NamedBytes
taken_outputs paths contents = map (λ p. (string_bytes p.0, p.1.items)) (zip paths contents)

-- the path of a file, and the bytes that were taken
pub record IsFileTaken (disk : Disk) (to : Destination) (is_text : Bool) (file : FileName) (taken : NamedBytes) : Type 0 where
  pub possible : HasPath to file
  pub path : taken.0 ≡ path_of to file
  pub bytes : IsTaken disk file is_text taken.1

-- each was taken, in its order
abbrev pub AreFilesTaken : Disk → Destination → Bool → List FileName → List NamedBytes → Type 0
AreFilesTaken disk to is_text [] [] = ⊤
AreFilesTaken disk to is_text [] (p ∷ ps) = ⊥
AreFilesTaken disk to is_text (file ∷ files) [] = ⊥
AreFilesTaken disk to is_text (file ∷ files) (p ∷ ps) = IsFileTaken disk to is_text file p × AreFilesTaken disk to is_text files ps

-- memory was refused; or a file can't have its name; or it can, but its bytes can't be taken
abbrev pub IsFileUntaken : (image : StoreName) → Disk → Destination → FileName → HostError → Type 0
IsFileUntaken image disk to file e =
    (e ≡ OutOfMemory) ⊎ HasNoPath image to file e
    ⊎ (HasPath to file × IsDiskRefusal (IsToldRefusal disk image (file_named file) (IsGetRefusal disk file.user file.name)) e)

-- the first that can't be taken, after those before it were
abbrev pub IsTakingStopped : (image : StoreName) → Disk → Destination → Bool → List FileName → HostError → Type 0
IsTakingStopped image disk to is_text [] e = ⊥
IsTakingStopped image disk to is_text (file ∷ files) e =
    IsFileUntaken image disk to file e
    ⊎ ((p : NamedBytes) × IsFileTaken disk to is_text file p × IsTakingStopped image disk to is_text files e)

-- the files that patterns name were taken out of the disk
pub record HasTakenNamed (tells_folder : StoreName → Bool → Type 0) (disk : Disk) (texts : List StoreName) (user : ℕ) (how : GetOptions)
    (taken : List NamedBytes) : Type 0 where
  pub named : List FileName
  pub to : Destination
  pub named_are : AreNamedOn disk texts user named
  pub to_is : IsDestination tells_folder (option_map (λ n. n.now) how.to) to
  pub room : IsCrowded to named → ⊥
  pub each : AreFilesTaken disk to how.is_text named taken

-- the patterns name none; or they are several, and go to one file; or they don't, and one can't be taken
pub data IsTakingRefused (tells_folder : StoreName → Bool → Type 0) (image : StoreName) (disk : Disk) (texts : List StoreName) (user : ℕ) (how : GetOptions)
    (e : HostError) : Type 0 where
  Unnamed : IsUnnamedOn image disk texts user e → IsTakingRefused tells_folder image disk texts user how e
  Crowded : (named : List FileName) (to : Destination) → AreNamedOn disk texts user named
      → IsDestination tells_folder (option_map (λ n. n.now) how.to) to → IsCrowded to named → IsNoFolder to e
      → IsTakingRefused tells_folder image disk texts user how e
  Stopped : (named : List FileName) (to : Destination) → AreNamedOn disk texts user named
      → IsDestination tells_folder (option_map (λ n. n.now) how.to) to → (IsCrowded to named → ⊥)
      → IsTakingStopped image disk to how.is_text named e → IsTakingRefused tells_folder image disk texts user how e

-- ---- what becomes of them

-- only if that is forced they replace what is there, and nobody can execute it then
abbrev pub naming_of : Bool → OutputNaming
naming_of true = ReplacesPlain
naming_of false = New

-- the image, and each path
abbrev pub plan_of_get : (image : StoreName) → List NamedBytes → (is_forced : Bool) → Plan
plan_of_get image taken is_forced = record {
  inputs = planned image Image ∷ [];
  outputs = all_planned Plain (map (λ p. p.0) taken);
  naming = naming_of is_forced;
}

-- characters, each as a message shows it alone
abbrev pub shown_characters : List ℕ → List ℕ
shown_characters characters = flat_map (λ c. shown_of (c ∷ [])) characters

-- a path on a line
abbrev pub path_line : StoreName → List ℕ
path_line path = shown_characters (chars path) ++ codes "\n"

abbrev pub paths_text : List NamedBytes → List ℕ
paths_text taken = flat_map (λ p. path_line p.0) taken

-- ---- the command

-- The image was read, the files were taken out of it, and the image and their paths were seen to: they were refused so, or weren't.
pub record IsPreparedGet {F : Type 0} (does : F → StoreAccess → F → Type 0) (sees_to : F → Plan → Option HostError → F → Type 0)
    (tells_folder : F → StoreName → Bool → Type 0) (image : StoreName) (texts : List StoreName) (user : ℕ) (how : GetOptions) (old new : F)
    (taken : List NamedBytes) (fault : Option HostError) : Type 0 where
  pub known : F
  pub disk : Disk
  pub read : IsDiskRead does image old known disk
  pub took : HasTakenNamed (tells_folder known) disk texts user how taken
  pub sees : sees_to known (plan_of_get image taken how.is_forced) fault new

-- then the paths were printed where that was all that was asked, and nothing was written; else the files were written, and nothing was printed
abbrev pub IsGetEnded : {F W : Type 0} → (F → StoreAccess → F → Type 0) → (F → Option HostError → F → Type 0) → (is_dry : Bool) → List NamedBytes → F → F
    → (before printed : Option (List ℕ)) → W → W → Type 0
IsGetEnded {F} {W} does gives_names true taken old new before printed out out_now = Appends before printed (paths_text taken) × (new ≡ old)
IsGetEnded {F} {W} does gives_names false taken old new before printed out out_now = AreWritten does gives_names taken old new × (out_now ≡ out)

abbrev pub IsGetUnended : {F W : Type 0} → (F → StoreAccess → F → Type 0) → (F → Option HostError → F → Type 0) → (is_dry : Bool) → List NamedBytes → F → F
    → W → W → HostError → Type 0
IsGetUnended {F} {W} does gives_names true taken old new out out_now e = IsUnprinted e × (new ≡ old)
IsGetUnended {F} {W} does gives_names false taken old new out out_now e = AreUnwritten does gives_names taken old new e × (out_now ≡ out)

pub record HasGot {F W : Type 0} (does : F → StoreAccess → F → Type 0) (sees_to : F → Plan → Option HostError → F → Type 0)
    (gives_names : F → Option HostError → F → Type 0) (tells_folder : F → StoreName → Bool → Type 0) (image : StoreName) (texts : List StoreName) (user : ℕ)
    (how : GetOptions) (old new : F) (before printed : Option (List ℕ)) (out out_now : W) : Type 0 where
  pub seen : F
  pub taken : List NamedBytes
  pub prepared : IsPreparedGet does sees_to tells_folder image texts user how old seen taken None
  pub ended : IsGetEnded does gives_names how.is_dry taken seen new before printed out out_now

-- how far it came that was refused
pub data IsGetRefused {F W : Type 0} (does : F → StoreAccess → F → Type 0) (sees_to : F → Plan → Option HostError → F → Type 0)
    (gives_names : F → Option HostError → F → Type 0) (tells_folder : F → StoreName → Bool → Type 0) (image : StoreName) (texts : List StoreName) (user : ℕ)
    (how : GetOptions) (old new : F) (out out_now : W) (e : HostError) : Type 0 where
  -- the image can't be read
  Unread : IsDiskUnread does image old new e → out_now ≡ out → IsGetRefused does sees_to gives_names tells_folder image texts user how old new out out_now e
  -- not all files can be taken out of it, or memory was refused; nothing was written
  Untaken : (disk : Disk) → IsDiskRead does image old new disk
      → (IsTakingRefused (tells_folder new) image disk texts user how e ⊎ (e ≡ OutOfMemory)) → out_now ≡ out
      → IsGetRefused does sees_to gives_names tells_folder image texts user how old new out out_now e
  -- they can't be written where they are to go; nothing was written
  Unseen : (taken : List NamedBytes) → IsPreparedGet does sees_to tells_folder image texts user how old new taken (Some e) → out_now ≡ out
      → IsGetRefused does sees_to gives_names tells_folder image texts user how old new out out_now e
  -- their paths can't be printed, or they can't be written, or can't have their names
  Unended : (taken : List NamedBytes) (seen : F) → IsPreparedGet does sees_to tells_folder image texts user how old seen taken None
      → IsGetUnended does gives_names how.is_dry taken seen new out out_now e
      → IsGetRefused does sees_to gives_names tells_folder image texts user how old new out out_now e
