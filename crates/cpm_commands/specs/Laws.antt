-- Laws of the files that commands name. All of it is own.
use Rattle.std.specs.Prelude.{All, Contains, ℕ, Bool, true, false, List, map, Option, None, String}
use Rattle.std.specs.declared.alloc.Global.{Global}
use Rattle.cpm_batch.specs.declared.source.Replay.{Replay}
use Rattle.cpm_checkpoint.specs.declared.checkpoint.Checkpoint.{Checkpoint}
use Rattle.cpm_command_line.specs.declared.task.PlayTask.{PlayTask}
use Rattle.cpm_command_line.specs.declared.task.RunTask.{RunTask}
use Rattle.cpm_config.specs.declared.config.Config.{Config}
use Rattle.cpm_disk_commands.specs.declared.damage.NamedFile.{NamedFile}
use Rattle.cpm_geom.specs.Disk.{Disk}
use Rattle.cpm_host.specs.declared.error.HostError.{HostError}
use Rattle.cpm_play.specs.Typist.{TypingState}
use Rattle.cpm_play.specs.declared.live.PlayEnd.{PlayEnd}
use Rattle.cpm_run.specs.Run.{StoreActs}
use Rattle.cpm_run.specs.Settled.{Streams}
use Rattle.cpm_run.specs.declared.ending.Ending.{Ending}
use Rattle.cpm_run.specs.declared.report.SessionReport.{SessionReport}
use Rattle.cpm_store.specs.Files.{StoreName}
use Rattle.cpm_store.specs.Log.{StoreAccess, Gave, LogLeadsBy, Missed, Wrote}
use Rattle.cpm_store.specs.Writes.{NamedBytes}
use Rattle.cpm_commands.specs.Drives.{ArePlacesFound}
use Rattle.cpm_commands.specs.Plan.{Plan, PlannedName}
use Rattle.cpm_commands.specs.Left.{Texts, has_no_folder, outputs_with, plan_of_left, record_of_play}
use Rattle.cpm_commands.specs.Play.{HasPlayedTask, ReadActs, plan_of_play}
use Rattle.cpm_commands.specs.Run.{ArePlayedBack, AreScripts, HasRunSessions, IsConfigRead, plan_by}
use Rattle.cpm_commands.specs.declared.drives.DrivePlace.{DrivePlace}

-- one of these files has the name
abbrev pub IsPlanned : List PlannedName → StoreName → Type 0
IsPlanned files name = Contains (map (λ f. f.name) files) name

-- a file gave its bytes that is to be read, or one was written that is to be
abbrev pub IsAsPlanned : Plan → StoreAccess → Type 0
IsAsPlanned plan (Gave name bytes) = IsPlanned plan.inputs name
IsAsPlanned plan (Wrote name bytes) = IsPlanned plan.outputs name
IsAsPlanned plan (Missed name) = ⊥

-- the files of a plan were seen to; then all calls were of its files, as they are planned; and then these got their names
pub record FollowsPlan {F : Type 0} (does : F → StoreAccess → F → Type 0) (sees_to : F → Plan → Option HostError → F → Type 0)
    (gives_names : F → Option HostError → F → Type 0) (plan : Plan) (old new : F) : Type 0 where
  pub seen : F
  pub ended : F
  pub sees : sees_to old plan None seen
  pub calls : LogLeadsBy does (All (IsAsPlanned plan)) seen ended
  pub named : gives_names ended None new

-- once a run has read its configuration, it follows its plan
abbrev pub RunsFollowPlans : {F : Type 0} → StoreActs F → (F → Plan → Option HostError → F → Type 0) → (F → Option HostError → F → Type 0)
    → (F → StoreName → Bool → Type 0) → Option Checkpoint → (Option HostError → Type 0) → (List SessionReport → Type 0) → Type 0
RunsFollowPlans {F} store sees_to gives_names tells_name stood ended told =
    (task : RunTask) (old new : F) (unread left : TypingState) (before printed unrecorded record_now : Option (List ℕ))
    → HasRunSessions store sees_to gives_names tells_name stood ended told task old new unread left before printed unrecorded record_now
    → (config : Config) × (replays : List Replay) × (scripts : List (String Global)) × (known : F) × IsConfigRead store.does task.config.now old known config
    × ArePlayedBack task config replays × AreScripts task config scripts
    × FollowsPlan store.does sees_to gives_names (plan_by task config replays scripts) known new

-- a program that has run has read the files of its plan; and once it was played it has followed the plan of what it writes
pub record FollowsTwoPlans {F : Type 0} (does : F → StoreAccess → F → Type 0) (sees_to : F → Plan → Option HostError → F → Type 0)
    (gives_names : F → Option HostError → F → Type 0) (task : PlayTask) (plan : Plan) (old new : F) : Type 0 where
  pub seen : F
  pub read : F
  pub texts : Texts
  pub drives : List (Option Disk)
  pub left : List NamedBytes
  pub sees : sees_to old plan None seen
  pub calls : LogLeadsBy does (All (IsAsPlanned plan)) seen read
  pub follows : FollowsPlan does sees_to gives_names
      (plan_of_left (outputs_with task texts drives left) (record_of_play task)) read new

-- it follows one plan where no files of its drives go into folders, and else two
abbrev pub FollowsPlans : {F : Type 0} → (has_none : Bool) → ReadActs F → (F → Option HostError → F → Type 0) → PlayTask → Plan → F → F → Type 0
FollowsPlans {F} true acts gives_names task plan old new = FollowsPlan acts.does acts.sees_to gives_names plan old new
FollowsPlans {F} false acts gives_names task plan old new = FollowsTwoPlans acts.does acts.sees_to gives_names task plan old new

-- a program that has run has followed its plans, by where its drives come from
abbrev pub ProgramsFollowPlans : {F : Type 0} → ReadActs F → (F → Option HostError → F → Type 0) → (Option HostError → Type 0)
    → (List (List ℕ × NamedFile) → Ending → (waits : Bool) → Option PlayEnd → (dropped : Bool) → Type 0) → Type 0
ProgramsFollowPlans {F} acts gives_names ended told = (task : PlayTask) (io : Streams) (old new : F) (status : ℕ)
    → HasPlayedTask acts gives_names ended told task io old new status
    → (places : List DrivePlace) × ArePlacesFound acts.tells_folder acts.lists old (map (λ n. n.now) task.drives.items) places
    × FollowsPlans (has_no_folder task) acts gives_names task (plan_of_play task places) old new
