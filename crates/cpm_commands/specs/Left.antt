-- What is written once a machine was played: what it printed, the machine itself, images of its drives, and files of them into folders. All of it is own.
use Rattle.std.specs.Prelude.{◌≡◌, ◌⊎◌, ℕ, ◌==◌, Bool, true, false, List, [], ◌++◌, length, map, flat_map, zip, option_map, Option, Some, None}
use Rattle.cpm_batch.specs.Outputs.{named_bytes, named_image}
use Rattle.cpm_command_line.specs.declared.task.PlayTask.{PlayTask}
use Rattle.cpm_disk_commands.specs.declared.damage.NamedFile.{NamedFile}
use Rattle.cpm_geom.specs.Disk.{Disk}
use Rattle.cpm_host.specs.declared.error.HostError.{HostError}
use Rattle.cpm_host.specs.declared.error.HostError.TheVariants.{OutOfMemory}
use Rattle.cpm_store.specs.Files.{StoreName}
use Rattle.cpm_store.specs.Log.{StoreAccess}
use Rattle.cpm_store.specs.Writes.{NamedBytes}
use Rattle.cpm_commands.specs.Files.{AreUnwritten, AreWritten}
use Rattle.cpm_commands.specs.OutFolder.{AreFoldersLeft, AreFoldersUnleft, left_outputs, left_unwritten}
use Rattle.cpm_commands.specs.Plan.{Plan, all_planned, planned_if_any}
use Rattle.cpm_commands.specs.declared.left.LeftTexts.{LeftTexts}
use Rattle.cpm_commands.specs.declared.out_folder.LeftFiles.{LeftFiles}
use Rattle.cpm_commands.specs.declared.plan.FileRole.TheVariants.{Plain}
use Rattle.cpm_commands.specs.declared.plan.OutputNaming.TheVariants.{ReplacesPlain}

-- ---- what is written

-- the image of each drive, A first, to the file that is named at its place, as far as there are both
abbrev pub drive_outputs : List StoreName → List (Option Disk) → List NamedBytes
drive_outputs names drives = flat_map (λ p. named_image (Some p.0) p.1) (zip names drives)

-- what is written beside the drives: what was printed, where it was kept, and the bytes of the machine, where it was saved
pub record Texts : Type 0 where
  pub printed : Option (List ℕ)
  pub saved : Option (List ℕ)

abbrev pub left_texts_view : LeftTexts → Texts
left_texts_view t = record {
  printed = option_map (λ v. v.items) t.printed;
  saved = option_map (λ v. v.items) t.saved;
}

-- bytes, where there are any and a file is named for them
abbrev pub named_text : Option StoreName → Option (List ℕ) → List NamedBytes
named_text name None = []
named_text name (Some bytes) = named_bytes name bytes

abbrev pub outs_of : PlayTask → List StoreName
outs_of task = map (λ n. n.now) task.outs.items

abbrev pub list_of_play : PlayTask → Option StoreName
list_of_play task = option_map (λ n. n.now) task.list

abbrev pub save_of_play : PlayTask → Option StoreName
save_of_play task = option_map (λ n. n.now) task.save

abbrev pub record_of_play : PlayTask → Option StoreName
record_of_play task = option_map (λ n. n.now) task.record

-- behind the files of folders, if there are any: what was printed, the machine, and then the images
abbrev pub outputs_with : PlayTask → Texts → (drives : List (Option Disk)) → (left : List NamedBytes) → List NamedBytes
outputs_with task texts drives left =
    left ++ named_text (list_of_play task) texts.printed ++ named_text (save_of_play task) texts.saved ++ drive_outputs (outs_of task) drives

-- all that is written then is seen to, with the record of the keys, which is written by now; nobody can execute it
abbrev pub plan_of_left : List NamedBytes → (to : Option StoreName) → Plan
plan_of_left outputs to = record {
  inputs = [];
  outputs = all_planned Plain (map (λ p. p.0) outputs) ++ planned_if_any Plain to;
  naming = ReplacesPlain;
}

-- it was seen to, and was written, and got its names
pub record IsSeenWritten {F : Type 0} (does : F → StoreAccess → F → Type 0) (sees_to : F → Plan → Option HostError → F → Type 0)
    (gives_names : F → Option HostError → F → Type 0) (outputs : List NamedBytes) (to : Option StoreName) (old new : F) : Type 0 where
  pub seen : F
  pub sees : sees_to old (plan_of_left outputs to) None seen
  pub written : AreWritten does gives_names outputs seen new

pub data IsSeenUnwritten {F : Type 0} (does : F → StoreAccess → F → Type 0) (sees_to : F → Plan → Option HostError → F → Type 0)
    (gives_names : F → Option HostError → F → Type 0) (outputs : List NamedBytes) (to : Option StoreName) (old new : F) (e : HostError) : Type 0 where
  -- memory was refused
  NoPlan : e ≡ OutOfMemory → new ≡ old → IsSeenUnwritten does sees_to gives_names outputs to old new e
  -- it can't be written where it is to go; nothing was written
  NotSeen : sees_to old (plan_of_left outputs to) (Some e) new → IsSeenUnwritten does sees_to gives_names outputs to old new e
  -- it can't be written, or can't have its names
  NotWritten : (seen : F) → sees_to old (plan_of_left outputs to) None seen → AreUnwritten does gives_names outputs seen new e
      → IsSeenUnwritten does sees_to gives_names outputs to old new e

-- How the files of a command go from state to state by being written, and what they tell of folders.
pub record WriteActs (F : Type 0) : Type 1 where
  pub does : F → StoreAccess → F → Type 0
  pub sees_to : F → Plan → Option HostError → F → Type 0
  pub gives_names : F → Option HostError → F → Type 0
  pub lists : F → StoreName → List StoreName → Type 0
  pub unlists : F → StoreName → HostError → Type 0

-- it was found what each folder gets, and what is written are these files, the texts, and the images
pub record HasAllLeft {F : Type 0} (lists : F → StoreName → List StoreName → Type 0) (files : F) (task : PlayTask)
    (starts : List (StoreName × Option Disk)) (texts : Texts) (drives : List (Option Disk)) (l : LeftFiles) : Type 0 where
  pub left : List NamedBytes
  pub found : AreFoldersLeft lists files starts drives left (left_unwritten l)
  pub outputs : left_outputs l ≡ outputs_with task texts drives left

-- Where there are folders: it was found what each gets, all that is written was seen to, and was written, and got its names.
pub record AreFoldersWritten {F : Type 0} (acts : WriteActs F) (task : PlayTask) (starts : List (StoreName × Option Disk))
    (texts : Texts) (drives : List (Option Disk)) (old new : F) (unwritten : List (List ℕ × NamedFile)) : Type 0 where
  pub left : List NamedBytes
  pub found : AreFoldersLeft acts.lists old starts drives left unwritten
  pub written : IsSeenWritten acts.does acts.sees_to acts.gives_names
      (outputs_with task texts drives left) (record_of_play task) old new

pub data AreFoldersUnwritten {F : Type 0} (acts : WriteActs F) (task : PlayTask) (starts : List (StoreName × Option Disk))
    (texts : Texts) (drives : List (Option Disk)) (old new : F) (e : HostError) : Type 0 where
  -- it can't be found what a folder gets, or memory was refused; nothing was written
  NotFound : AreFoldersUnleft acts.unlists old starts drives e ⊎ (e ≡ OutOfMemory) → new ≡ old
      → AreFoldersUnwritten acts task starts texts drives old new e
  -- it can't be written, or can't have its names
  NotWritten : (left : List NamedBytes) (unwritten : List (List ℕ × NamedFile)) → AreFoldersLeft acts.lists old starts drives left unwritten
      → IsSeenUnwritten acts.does acts.sees_to acts.gives_names
      (outputs_with task texts drives left) (record_of_play task) old new e
      → AreFoldersUnwritten acts task starts texts drives old new e

-- Where there is no folder the texts and the images alone are written, and nothing is told.
abbrev pub IsLeftFor : {F : Type 0} → (has_none : Bool) → WriteActs F → PlayTask → List (StoreName × Option Disk) → (texts : Texts)
    → (drives : List (Option Disk)) → F → F → List (List ℕ × NamedFile) → Type 0
IsLeftFor {F} true acts task starts texts drives old new unwritten =
    AreWritten acts.does acts.gives_names (outputs_with task texts drives []) old new × (unwritten ≡ [])
IsLeftFor {F} false acts task starts texts drives old new unwritten = AreFoldersWritten acts task starts texts drives old new unwritten

abbrev pub IsUnleftFor : {F : Type 0} → (has_none : Bool) → WriteActs F → PlayTask → List (StoreName × Option Disk) → (texts : Texts)
    → (drives : List (Option Disk)) → F → F → HostError → Type 0
IsUnleftFor {F} true acts task starts texts drives old new e =
    AreUnwritten acts.does acts.gives_names (outputs_with task texts drives []) old new e
IsUnleftFor {F} false acts task starts texts drives old new e = AreFoldersUnwritten acts task starts texts drives old new e

abbrev pub has_no_folder : PlayTask → Bool
has_no_folder task = length task.out_folders.items == 0

-- what was played is written, and these files aren't; or it can't be
abbrev pub IsPlayLeft : {F : Type 0} → WriteActs F → PlayTask → List (StoreName × Option Disk) → (texts : Texts)
    → (drives : List (Option Disk)) → F → F → List (List ℕ × NamedFile) → Type 0
IsPlayLeft {F} acts task starts texts drives old new unwritten = IsLeftFor (has_no_folder task) acts task starts texts drives old new unwritten

abbrev pub IsPlayUnleft : {F : Type 0} → WriteActs F → PlayTask → List (StoreName × Option Disk) → (texts : Texts)
    → (drives : List (Option Disk)) → F → F → HostError → Type 0
IsPlayUnleft {F} acts task starts texts drives old new e = IsUnleftFor (has_no_folder task) acts task starts texts drives old new e
