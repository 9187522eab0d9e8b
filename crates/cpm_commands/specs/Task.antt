-- What is done of what a command line asks for. All of it is own.
use Rattle.std.specs.Prelude.{◌≡◌, ℕ, Bool, true, false, List, [], map, option_map, Option, Result, Ok, Err}
use Rattle.std.specs.Io.KnownBytes.{Appends}
use Rattle.cpm_checkpoint.specs.declared.checkpoint.Checkpoint.{Checkpoint}
use Rattle.cpm_command_line.specs.HelpWords.{text_of_page}
use Rattle.cpm_command_line.specs.declared.task.DiskTask.{DiskTask}
use Rattle.cpm_command_line.specs.declared.task.DiskTask.TheVariants.{New, List as Listing, Put, Get, Remove, Rename}
use Rattle.cpm_command_line.specs.declared.task.PlayTask.{PlayTask}
use Rattle.cpm_command_line.specs.declared.task.ServeTask.{ServeTask}
use Rattle.cpm_command_line.specs.declared.task.Task.{Task}
use Rattle.cpm_command_line.specs.declared.task.Task.TheVariants.{Com, Boot, Asm, List as Lines, Check, Run, Debug, Saved, Serve, Disk, Help}
use Rattle.cpm_disk_commands.specs.declared.damage.NamedFile.{NamedFile}
use Rattle.cpm_host.specs.declared.error.HostError.{HostError}
use Rattle.cpm_play.specs.declared.live.PlayEnd.{PlayEnd}
use Rattle.cpm_run.specs.Run.{StoreActs}
use Rattle.cpm_run.specs.Settled.{Streams}
use Rattle.cpm_run.specs.declared.ending.Ending.{Ending}
use Rattle.cpm_run.specs.declared.report.SessionReport.{SessionReport}
use Rattle.cpm_serve.specs.declared.talk.TalkError.{TalkError}
use Rattle.cpm_slots.specs.Host.{Host}
use Rattle.cpm_store.specs.Files.{StoreFiles, StoreName}
use Rattle.cpm_store.specs.Log.{StoreAccess}
use Rattle.cpm_commands.specs.Asm.{HasAssembled, IsAsmRefused}
use Rattle.cpm_commands.specs.Check.{HasChecked, IsCheckRefused}
use Rattle.cpm_commands.specs.Debug.{IsDebugTaskDone, IsDebugTaskRefused}
use Rattle.cpm_commands.specs.Disk.{ArePut, HasChanged, HasListedDisk, HasMadeDisk, HasRemoved, HasRenamedOn}
use Rattle.cpm_commands.specs.Disk.{IsChangeRefused, IsDiskListRefused, IsNewRefused, IsNotRemoved, IsPutStopped, IsRenameRefused}
use Rattle.cpm_commands.specs.Get.{HasGot, IsGetRefused}
use Rattle.cpm_commands.specs.List.{HasListed, IsListRefused}
use Rattle.cpm_commands.specs.Plan.{Plan}
use Rattle.cpm_commands.specs.Play.{HasPlayedTask, IsPlayRefused, ReadActs}
use Rattle.cpm_commands.specs.Report.{IsUnprinted}
use Rattle.cpm_commands.specs.Run.{HasRunSessions, IsRunStopped}
use Rattle.cpm_commands.specs.Saved.{HasToldSaved, IsSavedTellingRefused}
use Rattle.cpm_commands.specs.Serve.{HasServed, IsServiceEnded}
use Rattle.cpm_commands.specs.declared.drives.DrivePlace.{DrivePlace}

-- ---- what a command goes through

-- how its files go from state to state, and what they tell
pub record FileActs (F : Type 0) : Type 1 where
  pub does : F → StoreAccess → F → Type 0
  pub files : F → Option StoreFiles
  pub sees_to : F → Plan → Option HostError → F → Type 0
  pub gives_names : F → Option HostError → F → Type 0
  pub tells_name : F → StoreName → Bool → Type 0
  pub tells_folder : F → StoreName → Bool → Type 0
  pub lists : F → StoreName → List StoreName → Type 0
  pub unlists : F → StoreName → HostError → Type 0

-- where the sessions of a run stood; how the record of what is typed ended; what was told: of files that are left out of drives, and at last of a
-- program, and of sessions; and how a host was served
pub record ToldActs : Type 1 where
  pub stood : Option Checkpoint
  pub ended : Option HostError → Type 0
  pub told_left_out : List DrivePlace → Type 0
  pub told_end : PlayTask → List (List ℕ × NamedFile) → Ending → (waits : Bool) → Option PlayEnd → (dropped : Bool) → Type 0
  pub told_illegal : List SessionReport → Type 0
  -- a host that was made so was served all lines of standard input, and is left so; or some of them; and a folder was asked nothing
  pub talked : ServeTask → (made left : Host) → Type 0
  pub talked_partly : ServeTask → TalkError → (made left : Host) → Type 0
  -- or its journal was refused
  pub unbegun : ServeTask → (made : Host) → HostError → Type 0
  pub unasked : Type 0

-- what they do as a store
abbrev pub store_acts : {F : Type 0} → FileActs F → StoreActs F
store_acts {F} acts = record { does = acts.does; files = acts.files }

-- those by which a program is read
abbrev pub reads_of : {F : Type 0} → FileActs F → ToldActs → ReadActs F
reads_of {F} acts told = record {
  does = acts.does;
  sees_to = acts.sees_to;
  tells_folder = acts.tells_folder;
  lists = acts.lists;
  unlists = acts.unlists;
  told_left_out = told.told_left_out;
}

-- the files and standard output before and after, and what the streams held
pub record Passage (F W : Type 0) : Type 0 where
  pub old : F
  pub new : F
  pub out : W
  pub out_now : W
  pub io : Streams
  -- what standard input had
  pub unread : Option (List ℕ)

-- nothing was printed
abbrev pub IsSilent : {F W : Type 0} → Passage F W → Type 0
IsSilent {F} {W} p = p.out_now ≡ p.out

-- the exit status of a command that runs no program of its own
abbrev pub with_status : Result (Unit {0}) HostError → Result ℕ HostError
with_status (Ok done) = Ok 0
with_status (Err e) = Err e

-- ---- what is done

-- a command on disk images
abbrev pub IsDiskTaskDone : {F W : Type 0} → FileActs F → Passage F W → DiskTask → Type 0
IsDiskTaskDone {F} {W} acts p (New image is_large) =
    HasMadeDisk acts.does acts.sees_to acts.gives_names image.now is_large p.old p.new × IsSilent p
IsDiskTaskDone {F} {W} acts p (Listing image user) = HasListedDisk acts.does image.now user p.old p.new p.io.before.console p.io.written.console
IsDiskTaskDone {F} {W} acts p (Put image files user is_text is_read_only is_system) =
    HasChanged acts.does acts.sees_to acts.gives_names image.now
    (ArePut acts.does user (record { is_text = is_text; is_read_only = is_read_only; is_system = is_system }) [] (map (λ w. w.now) files.items)) p.old p.new
    × IsSilent p
IsDiskTaskDone {F} {W} acts p (Get image names user is_text to is_forced is_dry) =
    HasGot acts.does acts.sees_to acts.gives_names acts.tells_folder image.now (map (λ w. w.now) names.items) user
    (record { is_text = is_text; to = to; is_forced = is_forced; is_dry = is_dry }) p.old p.new p.io.before.console p.io.written.console p.out p.out_now
IsDiskTaskDone {F} {W} acts p (Remove image names user) =
    HasChanged acts.does acts.sees_to acts.gives_names image.now (HasRemoved (map (λ w. w.now) names.items) user) p.old p.new × IsSilent p
IsDiskTaskDone {F} {W} acts p (Rename image change user) =
    HasRenamedOn acts.does acts.sees_to acts.gives_names image.now change.now user p.old p.new × IsSilent p

-- a command that runs no program of its own
abbrev pub IsPlainTaskDone : {F W : Type 0} → FileActs F → ToldActs → Passage F W → Task → Type 0
IsPlainTaskDone {F} {W} acts told p (Com task) = ⊥
IsPlainTaskDone {F} {W} acts told p (Boot task) = ⊥
IsPlainTaskDone {F} {W} acts told p (Asm source out list) =
    HasAssembled acts.does acts.sees_to acts.gives_names source.now out.now (option_map (λ n. n.now) list) p.old p.new × IsSilent p
IsPlainTaskDone {F} {W} acts told p (Lines file cpu) = HasListed acts.does file.now cpu p.old p.new p.io.before.console p.io.written.console
IsPlainTaskDone {F} {W} acts told p (Check image) = HasChecked acts.does image.now p.old p.new p.io.before.console p.io.written.console
IsPlainTaskDone {F} {W} acts told p (Run task) =
    HasRunSessions (store_acts acts) acts.sees_to acts.gives_names acts.tells_name told.stood told.ended told.told_illegal task p.old p.new
    p.io.unread p.io.left p.io.before.console p.io.written.console p.io.unrecorded p.io.record_now
IsPlainTaskDone {F} {W} acts told p (Debug task) = IsDebugTaskDone acts.does task p.old p.new p.unread p.io.before.console p.io.written.console
IsPlainTaskDone {F} {W} acts told p (Saved file) = HasToldSaved acts.does file.now p.old p.new p.io.before.console p.io.written.console
IsPlainTaskDone {F} {W} acts told p (Serve task) = HasServed acts.does (told.talked task) task p.old p.new
IsPlainTaskDone {F} {W} acts told p (Disk task) = IsDiskTaskDone acts p task
IsPlainTaskDone {F} {W} acts told p (Help page) = (p.new ≡ p.old) × Appends p.io.before.console p.io.written.console (text_of_page page)

-- it plays programs: one may type at them, and is told of them
abbrev pub plays_programs : Task → Bool
plays_programs (Com task) = true
plays_programs (Boot task) = true
plays_programs (Run task) = true
plays_programs _ = false

-- it takes its orders from standard input
abbrev pub reads_orders : Task → Bool
reads_orders (Debug task) = true
reads_orders (Serve task) = true
reads_orders _ = false

-- it asks a folder for files by their names
abbrev pub asks_folder : Task → Bool
asks_folder (Serve task) = true
asks_folder _ = false

-- The command that the words name, by their values, and no other; and the exit status.
abbrev pub IsTaskDone : {F W : Type 0} → FileActs F → ToldActs → Passage F W → Task → (status : ℕ) → Type 0
IsTaskDone {F} {W} acts told p (Com task) status =
    HasPlayedTask (reads_of acts told) acts.gives_names told.ended (told.told_end task) task p.io p.old p.new status
IsTaskDone {F} {W} acts told p (Boot task) status =
    HasPlayedTask (reads_of acts told) acts.gives_names told.ended (told.told_end task) task p.io p.old p.new status
IsTaskDone {F} {W} acts told p task status = IsPlainTaskDone acts told p task × (status ≡ 0)

-- ---- how far it came that was refused

abbrev pub IsDiskTaskRefused : {F W : Type 0} → FileActs F → Passage F W → DiskTask → HostError → Type 0
IsDiskTaskRefused {F} {W} acts p (New image is_large) e =
    IsNewRefused acts.does acts.sees_to acts.gives_names image.now is_large p.old p.new e × IsSilent p
IsDiskTaskRefused {F} {W} acts p (Listing image user) e = IsDiskListRefused acts.does image.now p.old p.new p.out p.out_now e
IsDiskTaskRefused {F} {W} acts p (Put image files user is_text is_read_only is_system) e =
    IsChangeRefused acts.does acts.sees_to acts.gives_names image.now
    (ArePut acts.does user (record { is_text = is_text; is_read_only = is_read_only; is_system = is_system }) [] (map (λ w. w.now) files.items))
    (IsPutStopped acts.does image.now user (record { is_text = is_text; is_read_only = is_read_only; is_system = is_system }) []
    (map (λ w. w.now) files.items)) p.old p.new e
    × IsSilent p
IsDiskTaskRefused {F} {W} acts p (Get image names user is_text to is_forced is_dry) e =
    IsGetRefused acts.does acts.sees_to acts.gives_names acts.tells_folder image.now (map (λ w. w.now) names.items) user
    (record { is_text = is_text; to = to; is_forced = is_forced; is_dry = is_dry }) p.old p.new p.out p.out_now e
IsDiskTaskRefused {F} {W} acts p (Remove image names user) e =
    IsChangeRefused acts.does acts.sees_to acts.gives_names image.now (HasRemoved (map (λ w. w.now) names.items) user)
    (IsNotRemoved image.now (map (λ w. w.now) names.items) user) p.old p.new e
    × IsSilent p
IsDiskTaskRefused {F} {W} acts p (Rename image change user) e =
    IsRenameRefused acts.does acts.sees_to acts.gives_names image.now change.now user p.old p.new e × IsSilent p

abbrev pub IsTaskRefused : {F W : Type 0} → FileActs F → ToldActs → Passage F W → Task → HostError → Type 0
IsTaskRefused {F} {W} acts told p (Com task) e = IsPlayRefused (reads_of acts told) acts.gives_names told.ended task p.io p.old p.new e
IsTaskRefused {F} {W} acts told p (Boot task) e = IsPlayRefused (reads_of acts told) acts.gives_names told.ended task p.io p.old p.new e
IsTaskRefused {F} {W} acts told p (Asm source out list) e =
    IsAsmRefused acts.does acts.sees_to acts.gives_names source.now out.now (option_map (λ n. n.now) list) p.old p.new e × IsSilent p
IsTaskRefused {F} {W} acts told p (Lines file cpu) e = IsListRefused acts.does file.now p.old p.new p.out p.out_now e
IsTaskRefused {F} {W} acts told p (Check image) e = IsCheckRefused acts.does image.now p.old p.new p.out p.out_now e
IsTaskRefused {F} {W} acts told p (Run task) e =
    IsRunStopped (store_acts acts) acts.sees_to acts.gives_names acts.tells_name told.stood told.ended told.told_illegal task p.old p.new
    p.io.unread p.io.left p.io.before.console p.io.written.console p.io.unrecorded p.io.record_now e
IsTaskRefused {F} {W} acts told p (Debug task) e =
    IsDebugTaskRefused acts.does task p.old p.new p.unread p.io.before.console p.io.written.console p.out p.out_now e
IsTaskRefused {F} {W} acts told p (Saved file) e = IsSavedTellingRefused acts.does file.now p.old p.new p.out p.out_now e
IsTaskRefused {F} {W} acts told p (Serve task) e =
    IsServiceEnded acts.does (told.talked_partly task) (λ made e. told.unbegun task made e × IsSilent p) (told.unasked × IsSilent p) task p.old p.new e
IsTaskRefused {F} {W} acts told p (Disk task) e = IsDiskTaskRefused acts p task e
IsTaskRefused {F} {W} acts told p (Help page) e = (p.new ≡ p.old) × IsUnprinted e
