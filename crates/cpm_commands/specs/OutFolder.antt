-- The files of drives that go into folders once a machine was played. All of it is own.
use Rattle.std.specs.Prelude.{◌≡◌, ◌⊎◌, ℕ, ◌==◌, if◌then◌else◌, List, [], ◌∷◌, ◌++◌, Option, Some, None, chars, codes, decimal, drop}
use Rattle.std.specs.Prelude.{flat_map, length, map, option_map, slice_get, string_bytes}
use Rattle.std.specs.Path.{path_join}
use Rattle.cpm_shown.specs.Shown.{shown_of}
use Rattle.cpm_disk_commands.specs.Changed.{IsCompareRefusal, IsDiskCompared, name_in_folder}
use Rattle.cpm_disk_commands.specs.HostNames.{host_text}
use Rattle.cpm_disk_commands.specs.declared.changed.ComparedFile.{ComparedFile}
use Rattle.cpm_disk_commands.specs.declared.changed.FileChange.{FileChange}
use Rattle.cpm_disk_commands.specs.declared.changed.FileChange.TheVariants.{Unchanged, Changed, Unnamed}
use Rattle.cpm_disk_commands.specs.declared.damage.NamedFile.{NamedFile}
use Rattle.cpm_geom.specs.Disk.{Disk}
use Rattle.cpm_host.specs.Refusals.{IsFileRefusal}
use Rattle.cpm_host.specs.declared.error.HostError.{HostError}
use Rattle.cpm_host.specs.declared.error.HostError.TheVariants.{OutOfMemory}
use Rattle.cpm_store.specs.Files.{StoreName}
use Rattle.cpm_store.specs.Writes.{NamedBytes}
use Rattle.cpm_commands.specs.Disk.{IsDiskRefusal}
use Rattle.cpm_commands.specs.Get.{taken_outputs}
use Rattle.cpm_commands.specs.declared.out_folder.FolderStart.{FolderStart}
use Rattle.cpm_commands.specs.declared.out_folder.LeftFiles.{LeftFiles}
use Rattle.cpm_commands.specs.declared.out_folder.UnwrittenFile.{UnwrittenFile}

-- ---- the drives at the start

-- the folders, the first of drive A, each with its drive at the start, if there was one
abbrev pub folder_starts_of : (folders : List StoreName) → List Disk → List (StoreName × Option Disk)
folder_starts_of [] drives = []
folder_starts_of (folder ∷ folders) drives = (folder, slice_get drives 0) ∷ folder_starts_of folders (drop 1 drives)

abbrev pub folder_view : FolderStart → StoreName × Option Disk
folder_view s = (string_bytes s.folder, s.start)

-- ---- what becomes of a file

-- the path of a file in a folder with files of these names: one of user 0 has it, by the name that it has there
abbrev pub path_in : (folder : StoreName) → (names : List StoreName) → NamedFile → Option StoreName
path_in folder names file = if file.user == 0 then option_map (path_join folder) (name_in_folder names file.name) else None

-- a file that has changed is written to its path, if it has one
abbrev pub outputs_of_change : Option StoreName → (bytes : List ℕ) → List NamedBytes
outputs_of_change None bytes = []
outputs_of_change (Some path) bytes = (path, bytes) ∷ []

-- and else it is not, which is told of the folder
abbrev pub unwritten_unless : Option StoreName → (folder : StoreName) → NamedFile → List (List ℕ × NamedFile)
unwritten_unless None folder file = (shown_of (chars folder), file) ∷ []
unwritten_unless (Some path) folder file = []

abbrev pub change_outputs : Option StoreName → FileChange → List NamedBytes
change_outputs path Unchanged = []
change_outputs path (Changed bytes) = outputs_of_change path bytes.items
change_outputs path Unnamed = []

abbrev pub unwritten_by : Option StoreName → (folder : StoreName) → NamedFile → FileChange → List (List ℕ × NamedFile)
unwritten_by path folder file Unchanged = []
unwritten_by path folder file (Changed bytes) = unwritten_unless path folder file
unwritten_by path folder file Unnamed = (shown_of (chars folder), file) ∷ []

-- what is written of a file that was compared, and what is not: one that hasn't changed is neither
abbrev pub outputs_of_file : (folder : StoreName) → (names : List StoreName) → ComparedFile → List NamedBytes
outputs_of_file folder names c = change_outputs (path_in folder names c.file) c.change

abbrev pub unwritten_of_file : (folder : StoreName) → (names : List StoreName) → ComparedFile → List (List ℕ × NamedFile)
unwritten_of_file folder names c = unwritten_by (path_in folder names c.file) folder c.file c.change

-- ---- what becomes of a drive

-- The drive that was left was compared with what it was at the start, and the files are listed that its folder has: so its files are written, or are not.
pub record IsDriveLeft {F : Type 0} (lists : F → StoreName → List StoreName → Type 0) (files : F) (start : StoreName × Option Disk) (left : Disk)
    (outputs : List NamedBytes) (unwritten : List (List ℕ × NamedFile)) : Type 0 where
  pub names : List StoreName
  pub listed : lists files start.0 names
  pub compared : List ComparedFile
  pub compared_are : IsDiskCompared start.1 left compared
  pub outputs_are : outputs ≡ flat_map (outputs_of_file start.0 names) compared
  pub unwritten_are : unwritten ≡ flat_map (unwritten_of_file start.0 names) compared

-- where no drive was left its folder gets nothing
abbrev pub IsFolderLeft : {F : Type 0} → (F → StoreName → List StoreName → Type 0) → F → StoreName × Option Disk → (left : Option Disk) → List NamedBytes
    → List (List ℕ × NamedFile) → Type 0
IsFolderLeft {F} lists files start None outputs unwritten = (outputs ≡ []) × (unwritten ≡ [])
IsFolderLeft {F} lists files start (Some left) outputs unwritten = IsDriveLeft lists files start left outputs unwritten

-- a folder and its drive come first, and then the others
pub record IsLeftThen {F : Type 0} (lists : F → StoreName → List StoreName → Type 0) (files : F) (start : StoreName × Option Disk) (left : Option Disk)
    (Rest : List NamedBytes → List (List ℕ × NamedFile) → Type 0) (outputs : List NamedBytes) (unwritten : List (List ℕ × NamedFile)) : Type 0 where
  pub first : List NamedBytes
  pub others : List NamedBytes
  pub told_first : List (List ℕ × NamedFile)
  pub told_others : List (List ℕ × NamedFile)
  pub folder : IsFolderLeft lists files start left first told_first
  pub rest : Rest others told_others
  pub outputs_are : outputs ≡ first ++ others
  pub unwritten_are : unwritten ≡ told_first ++ told_others

-- each folder and the drive that was left for it, in their order, as far as there are both
abbrev pub AreFoldersLeft : {F : Type 0} → (F → StoreName → List StoreName → Type 0) → F → List (StoreName × Option Disk) → (drives : List (Option Disk))
    → List NamedBytes → List (List ℕ × NamedFile) → Type 0
AreFoldersLeft {F} lists files [] drives outputs unwritten = (outputs ≡ []) × (unwritten ≡ [])
AreFoldersLeft {F} lists files (start ∷ starts) [] outputs unwritten = (outputs ≡ []) × (unwritten ≡ [])
AreFoldersLeft {F} lists files (start ∷ starts) (left ∷ drives) outputs unwritten =
    IsLeftThen lists files start left (AreFoldersLeft lists files starts drives) outputs unwritten

-- ---- why it is refused

-- the directory of a drive that was left doesn't agree with itself
abbrev pub IsUncompared : (folder : StoreName) → (left : Option Disk) → HostError → Type 0
IsUncompared folder None e = ⊥
IsUncompared folder (Some left) e = IsDiskRefusal (IsCompareRefusal folder left) e

-- memory was refused, or the folder can't be listed
abbrev pub IsFolderUnleft : {F : Type 0} → (F → StoreName → HostError → Type 0) → F → StoreName × Option Disk → (left : Option Disk) → HostError → Type 0
IsFolderUnleft {F} unlists files start left e =
    (e ≡ OutOfMemory) ⊎ ((unlists files start.0 e × IsFileRefusal start.0 e) ⊎ IsUncompared start.0 left e)

-- of one of them
abbrev pub AreFoldersUnleft : {F : Type 0} → (F → StoreName → HostError → Type 0) → F → List (StoreName × Option Disk) → (drives : List (Option Disk))
    → HostError → Type 0
AreFoldersUnleft {F} unlists files [] drives e = ⊥
AreFoldersUnleft {F} unlists files (start ∷ starts) [] e = ⊥
AreFoldersUnleft {F} unlists files (start ∷ starts) (left ∷ drives) e =
    IsFolderUnleft unlists files start left e ⊎ AreFoldersUnleft unlists files starts drives e

-- ---- as they are gathered

abbrev pub unwritten_view : UnwrittenFile → List ℕ × NamedFile
unwritten_view u = (u.folder.bytes, u.file)

abbrev pub left_outputs : LeftFiles → List NamedBytes
left_outputs l = taken_outputs l.paths.items l.contents.items

abbrev pub left_unwritten : LeftFiles → List (List ℕ × NamedFile)
left_unwritten l = map unwritten_view l.unwritten.items

abbrev pub IsEven : LeftFiles → Type 0
IsEven l = length l.paths.items ≡ length l.contents.items

-- these were added to what is written, and to what is not
pub record HasAddedFiles (old new : LeftFiles) (outputs : List NamedBytes) (unwritten : List (List ℕ × NamedFile)) : Type 0 where
  pub outputs_are : left_outputs new ≡ left_outputs old ++ outputs
  pub unwritten_are : left_unwritten new ≡ left_unwritten old ++ unwritten
  pub even : IsEven new

pub record HasAddedFolder {F : Type 0} (lists : F → StoreName → List StoreName → Type 0) (files : F) (start : StoreName × Option Disk) (left : Option Disk)
    (old new : LeftFiles) : Type 0 where
  pub outputs : List NamedBytes
  pub unwritten : List (List ℕ × NamedFile)
  pub folder : IsFolderLeft lists files start left outputs unwritten
  pub added : HasAddedFiles old new outputs unwritten

-- ---- what is told

abbrev pub unwritten_line : (name : List ℕ) → (user : ℕ) → (folder : List ℕ) → List ℕ
unwritten_line name user folder =
    codes "not written: '" ++ (name ++ (codes "' of user " ++ (decimal user ++ (codes " in '" ++ (folder
    ++ codes "': only a file of user 0 whose name the host can have is; --out-disk writes all")))))

-- a line for a file that is not written: its name in small letters
abbrev pub IsUnwrittenTold : {M : Type 0} → (M → List ℕ → M → Type 0) → List ℕ × NamedFile → M → M → Type 0
IsUnwrittenTold {M} tells unwritten old new =
    tells old (unwritten_line (shown_of (chars (host_text unwritten.1.name))) unwritten.1.user unwritten.0) new
