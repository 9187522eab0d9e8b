-- Where the drives of a machine come from: the images in files, and the files in folders. All of it is own.
use Rattle.std.specs.Prelude.{⊤, ◌≡◌, ◌⊎◌, ℕ, Bool, true, false, List, [], ◌∷◌, ◌++◌, chars, codes, flat_map, map, string_bytes, Contains}
use Rattle.std.specs.Path.{path_join}
use Rattle.cpm_shown.specs.Shown.{shown_of}
use Rattle.cpm_disk_commands.specs.Folder.{host_file, kept_names, left_out_names, IsDiskOfFiles, IsDiskOfFilesRefusal}
use Rattle.cpm_disk_commands.specs.Refusals.{file_named}
use Rattle.cpm_disk_commands.specs.declared.damage.NamedFile.{NamedFile}
use Rattle.cpm_disk_commands.specs.declared.folder.HostFile.{HostFile}
use Rattle.cpm_geom.specs.Disk.{Disk}
use Rattle.cpm_host.specs.Refusals.{IsFileRefusal}
use Rattle.cpm_host.specs.declared.error.HostError.{HostError}
use Rattle.cpm_host.specs.declared.error.HostError.TheVariants.{OutOfMemory}
use Rattle.cpm_store.specs.Files.{StoreName}
use Rattle.cpm_store.specs.Log.{StoreAccess, Gave, Missed}
use Rattle.cpm_commands.specs.Disk.{IsDiskRead, IsDiskRefusal, IsDiskUnread}
use Rattle.cpm_commands.specs.Files.{IsUnread}
use Rattle.cpm_commands.specs.Plan.{PlannedName, planned}
use Rattle.cpm_commands.specs.declared.drives.DrivePlace.{DrivePlace}
use Rattle.cpm_commands.specs.declared.drives.DrivePlace.TheVariants as from
use Rattle.cpm_commands.specs.declared.drives.FolderPlace.{FolderPlace}
use Rattle.cpm_commands.specs.declared.drives.PlacedFile.{PlacedFile}
use Rattle.cpm_commands.specs.declared.plan.FileRole.TheVariants.{Image, Plain}

-- ---- where a drive comes from

-- the paths of these files of a folder, each with the file of the drive that it becomes
abbrev pub placed_in : (folder : StoreName) → List (List ℕ × NamedFile) → List (StoreName × NamedFile)
placed_in folder kept = map (λ k. (path_join folder k.0, k.1)) kept

abbrev pub placed_view : PlacedFile → StoreName × NamedFile
placed_view placed = (string_bytes placed.path, file_named placed.file)

-- of a folder with files of these names: those whose names CP/M can have become files of the drive, in this order, and the others are left out
pub record IsFolderOf (folder : StoreName) (names : List (List ℕ)) (f : FolderPlace) : Type 0 where
  pub place : f.folder.now ≡ folder
  pub files : map placed_view f.files.items ≡ placed_in folder (kept_names names)
  pub left_out : map string_bytes f.left_out.items ≡ left_out_names names

-- from a folder, with the files that the machine lists in it, where the machine tells that a folder has the name; and else from the image in the file of it
abbrev pub IsPlaceFound : {F : Type 0} → (F → StoreName → Bool → Type 0) → (F → StoreName → List StoreName → Type 0) → F → StoreName → DrivePlace → Type 0
IsPlaceFound {F} tells_folder lists files name (from.Image place) = tells_folder files name false × (place.now ≡ name)
IsPlaceFound {F} tells_folder lists files name (from.Folder f) =
    tells_folder files name true × (names : List StoreName) × lists files name names × IsFolderOf name names f

abbrev pub ArePlacesFound : {F : Type 0} → (F → StoreName → Bool → Type 0) → (F → StoreName → List StoreName → Type 0) → F → List StoreName → List DrivePlace
    → Type 0
ArePlacesFound {F} tells_folder lists files [] [] = ⊤
ArePlacesFound {F} tells_folder lists files (name ∷ names) (p ∷ ps) =
    IsPlaceFound tells_folder lists files name p × ArePlacesFound tells_folder lists files names ps
ArePlacesFound {F} tells_folder lists files [] (p ∷ ps) = ⊥
ArePlacesFound {F} tells_folder lists files (name ∷ names) [] = ⊥

-- the files of a folder can't be listed, or memory was refused
abbrev pub IsPlaceUnfound : {F : Type 0} → (F → StoreName → Bool → Type 0) → (F → StoreName → HostError → Type 0) → F → StoreName → HostError → Type 0
IsPlaceUnfound {F} tells_folder unlists files name e =
    (e ≡ OutOfMemory) ⊎ (tells_folder files name true × unlists files name e × IsFileRefusal name e)

-- those of one of them, or memory was refused
abbrev pub ArePlacesUnfound : {F : Type 0} → (F → StoreName → Bool → Type 0) → (F → StoreName → HostError → Type 0) → F → List StoreName → HostError → Type 0
ArePlacesUnfound {F} tells_folder unlists files names e =
    (e ≡ OutOfMemory) ⊎ ((name : StoreName) × Contains names name × IsPlaceUnfound tells_folder unlists files name e)

-- ---- the files that are read for it

abbrev pub files_given : List PlacedFile → List PlannedName
files_given files = map (λ p. planned (string_bytes p.path) Plain) files

abbrev pub inputs_of_place : DrivePlace → List PlannedName
inputs_of_place (from.Image name) = planned name.now Image ∷ []
inputs_of_place (from.Folder f) = files_given f.files.items

abbrev pub inputs_of_places : List DrivePlace → List PlannedName
inputs_of_places places = flat_map inputs_of_place places

-- ---- what is told of it

abbrev pub left_out_line : (folder name : List ℕ) → List ℕ
left_out_line folder name =
    codes "left out: '" ++ (name ++ (codes "' in '" ++ (folder ++ codes "': CP/M can't have the name, or has it already")))

-- for each of these, in their order
abbrev pub AreToldBy : {M A : Type 0} → (A → M → M → Type 0) → List A → M → M → Type 0
AreToldBy {M} {A} told [] old new = new ≡ old
AreToldBy {M} {A} told (x ∷ xs) old new = (next : M) × told x old next × AreToldBy told xs next new

-- a line for each file that is left out
abbrev pub IsNameTold : {M : Type 0} → (M → List ℕ → M → Type 0) → (folder name : StoreName) → M → M → Type 0
IsNameTold {M} tells folder name old new = tells old (left_out_line (shown_of (chars folder)) (shown_of (chars name))) new

abbrev pub AreLeftOutTold : {M : Type 0} → (M → List ℕ → M → Type 0) → (folder : StoreName) → List StoreName → M → M → Type 0
AreLeftOutTold {M} tells folder names old new = AreToldBy (IsNameTold tells folder) names old new

abbrev pub IsPlaceLeftOutTold : {M : Type 0} → (M → List ℕ → M → Type 0) → DrivePlace → M → M → Type 0
IsPlaceLeftOutTold {M} tells (from.Image name) old new = new ≡ old
IsPlaceLeftOutTold {M} tells (from.Folder f) old new = AreLeftOutTold tells f.folder.now (map string_bytes f.left_out.items) old new

abbrev pub AreAllLeftOutTold : {M : Type 0} → (M → List ℕ → M → Type 0) → List DrivePlace → M → M → Type 0
AreAllLeftOutTold {M} tells places old new = AreToldBy (IsPlaceLeftOutTold tells) places old new

-- so it was told at first
abbrev pub HasToldLeftOut : {M : Type 0} → (M → List ℕ → M → Type 0) → M → List DrivePlace → Type 0
HasToldLeftOut {M} tells old places = (next : M) × AreAllLeftOutTold tells places old next

-- ---- what is read, one after another

-- each of these gave what it did, in their order
abbrev pub AreReadBy : {F A B : Type 0} → (A → F → F → B → Type 0) → List A → F → F → List B → Type 0
AreReadBy {F} {A} {B} reads [] old new [] = new ≡ old
AreReadBy {F} {A} {B} reads (x ∷ xs) old new (y ∷ ys) = (next : F) × reads x old next y × AreReadBy reads xs next new ys
AreReadBy {F} {A} {B} reads [] old new (y ∷ ys) = ⊥
AreReadBy {F} {A} {B} reads (x ∷ xs) old new [] = ⊥

-- the next one is refused
abbrev pub IsNextRefused : {F A : Type 0} → (A → F → F → HostError → Type 0) → List A → F → F → HostError → Type 0
IsNextRefused {F} {A} refuses [] old new e = ⊥
IsNextRefused {F} {A} refuses (x ∷ xs) old new e = refuses x old new e

-- those before one of them did, and that one is refused; or memory was
pub record AreRefusedBy {F A B : Type 0} (reads : A → F → F → B → Type 0) (refuses : A → F → F → HostError → Type 0) (xs : List A) (old new : F)
    (e : HostError) : Type 0 where
  pub before : List A
  pub rest : List A
  pub order : xs ≡ before ++ rest
  pub given : List B
  pub last : F
  pub read : AreReadBy reads before old last given
  pub why : ((e ≡ OutOfMemory) × (new ≡ last)) ⊎ IsNextRefused refuses rest last new e

-- ---- a drive

-- a file in a folder gave its bytes
abbrev pub IsFileRead : {F : Type 0} → (F → StoreAccess → F → Type 0) → PlacedFile → F → F → HostFile → Type 0
IsFileRead {F} does placed old new host = does old (Gave (string_bytes placed.path) host.bytes.items) new × (host.file ≡ placed.file)

abbrev pub IsFileRefused : {F : Type 0} → (F → StoreAccess → F → Type 0) → PlacedFile → F → F → HostError → Type 0
IsFileRefused {F} does placed old new e = IsUnread (string_bytes placed.path) e × does old (Missed (string_bytes placed.path)) new

-- the files in a folder did, and are on the disk
abbrev pub IsFolderRead : {F : Type 0} → (F → StoreAccess → F → Type 0) → FolderPlace → F → F → Disk → Type 0
IsFolderRead {F} does f old new disk =
    (hosts : List HostFile) × AreReadBy (IsFileRead does) f.files.items old new hosts × IsDiskOfFiles (map host_file hosts) disk

-- one of them can't be read; or all were, and no disk has them
abbrev pub IsFolderUnread : {F : Type 0} → (F → StoreAccess → F → Type 0) → FolderPlace → F → F → HostError → Type 0
IsFolderUnread {F} does f old new e =
    AreRefusedBy (IsFileRead does) (IsFileRefused does) f.files.items old new e
    ⊎ ((hosts : List HostFile) × AreReadBy (IsFileRead does) f.files.items old new hosts
    × IsDiskRefusal (IsDiskOfFilesRefusal f.folder.now (map host_file hosts)) e)

abbrev pub IsPlaceRead : {F : Type 0} → (F → StoreAccess → F → Type 0) → DrivePlace → F → F → Disk → Type 0
IsPlaceRead {F} does (from.Image name) old new disk = IsDiskRead does name.now old new disk
IsPlaceRead {F} does (from.Folder f) old new disk = IsFolderRead does f old new disk

abbrev pub IsPlaceUnread : {F : Type 0} → (F → StoreAccess → F → Type 0) → DrivePlace → F → F → HostError → Type 0
IsPlaceUnread {F} does (from.Image name) old new e = IsDiskUnread does name.now old new e
IsPlaceUnread {F} does (from.Folder f) old new e = IsFolderUnread does f old new e

-- the drives of these places, in their order
abbrev pub AreDrivesRead : {F : Type 0} → (F → StoreAccess → F → Type 0) → List DrivePlace → F → F → List Disk → Type 0
AreDrivesRead {F} does places old new ds = AreReadBy (IsPlaceRead does) places old new ds

abbrev pub AreDrivesRefused : {F : Type 0} → (F → StoreAccess → F → Type 0) → List DrivePlace → F → F → HostError → Type 0
AreDrivesRefused {F} does places old new e = AreRefusedBy (IsPlaceRead does) (IsPlaceUnread does) places old new e
