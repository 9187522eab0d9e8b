-- What the command `run` does. All of it is own.
use Rattle.std.specs.Prelude.{◌≡◌, ◌⊎◌, ℕ, Bool, ◌&&◌, List, [], ◌∷◌, ◌++◌, codes, flat_map, is_some, map, option_map, string_bytes, zip}
use Rattle.std.specs.Prelude.{Option, Some, None, Ok, Err, String}
use Rattle.std.specs.declared.alloc.Global.{Global}
use Rattle.cpm_batch.specs.Sources.{key_file, key_source}
use Rattle.cpm_batch.specs.declared.source.Replay.{Replay}
use Rattle.cpm_checkpoint.specs.declared.checkpoint.Checkpoint.{Checkpoint}
use Rattle.cpm_command_line.specs.declared.task.RunTask.{RunTask}
use Rattle.cpm_config.specs.Files.{OutputName, output_files}
use Rattle.cpm_config.specs.Rules.{IsRead, session_view}
use Rattle.cpm_config.specs.declared.config.Config.{Config}
use Rattle.cpm_config.specs.declared.config.Origin.{Origin}
use Rattle.cpm_config.specs.declared.config.Origin.TheVariants.{Opened, Forked, Restored}
use Rattle.cpm_config.specs.declared.config.SessionConfig.{SessionConfig}
use Rattle.cpm_config.specs.declared.fault.ConfigError.{ConfigError}
use Rattle.cpm_config.specs.declared.field.Field.{Field}
use Rattle.cpm_config.specs.declared.field.Field.TheVariants as field
use Rattle.cpm_host.specs.Refusals.{host_error_of_config, host_error_of_run}
use Rattle.cpm_host.specs.declared.error.HostError.{HostError}
use Rattle.cpm_host.specs.declared.error.HostError.TheVariants.{OutOfMemory}
use Rattle.cpm_run.specs.Refusing.{IsRunRefusal}
use Rattle.cpm_run.specs.Run.{HasRun, StoreActs}
use Rattle.cpm_play.specs.Typist.{TypingState}
use Rattle.cpm_run.specs.Settled.{AreUntouched, Streams, streams}
use Rattle.cpm_run.specs.declared.error.RunError.{RunError}
use Rattle.cpm_run.specs.declared.options.RecordFile.{RecordFile}
use Rattle.cpm_run.specs.declared.options.RunOptions.{RunOptions}
use Rattle.cpm_run.specs.declared.report.Report.{Report}
use Rattle.cpm_run.specs.declared.report.SessionReport.{SessionReport}
use Rattle.cpm_store.specs.Files.{StoreName}
use Rattle.cpm_store.specs.Log.{StoreAccess, Gave, Missed}
use Rattle.cpm_commands.specs.Files.{IsUnread}
use Rattle.cpm_commands.specs.Plan.{PlannedName, Plan, all_planned, planned, planned_if_any}
use Rattle.cpm_commands.specs.Record.{IsUnrecorded}
use Rattle.cpm_commands.specs.Replays.{IsReplayRefusal, replay_view, replays_from}
use Rattle.cpm_commands.specs.Report.{IsReported, IsUnprinted, report_text}
use Rattle.cpm_commands.specs.Typed.{IsScriptKept, is_typed_at, typed_script}
use Rattle.cpm_commands.specs.declared.plan.FileRole.{FileRole}
use Rattle.cpm_commands.specs.declared.plan.FileRole.TheVariants.{Configuration, Image, Plain, Saving, Script}
use Rattle.cpm_commands.specs.declared.plan.OutputNaming.TheVariants.{Replaces}

-- ---- the configuration

-- the file gave the text of this configuration
abbrev pub IsConfigRead : {F : Type 0} → (F → StoreAccess → F → Type 0) → StoreName → F → F → Config → Type 0
IsConfigRead {F} does name old new config = (text : List ℕ) × does old (Gave name text) new × IsRead text (Ok config)

-- it can't be read, or it gave a text that is no configuration
abbrev pub IsConfigRefused : {F : Type 0} → (F → StoreAccess → F → Type 0) → StoreName → F → F → HostError → Type 0
IsConfigRefused {F} does name old new e =
    (IsUnread name e × does old (Missed name) new)
    ⊎ ((text : List ℕ) × (error : ConfigError) × does old (Gave name text) new × IsRead text (Err error) × (e ≡ host_error_of_config error))

-- ---- its files

-- what a session begins with: its drives where it is opened, and the saving that it goes on from
abbrev pub beginning_named : Origin → List PlannedName
beginning_named (Opened cpu quota drives) = all_planned Image (map string_bytes drives.items)
beginning_named (Forked parent at) = []
beginning_named (Restored saving) = planned (string_bytes saving) Saving ∷ []

-- what a session reads: what it begins with, and its script, or the recording in place of that
abbrev pub session_inputs : List Replay → SessionConfig → List PlannedName
session_inputs replays s = beginning_named s.origin ++ planned_if_any Plain (key_file (key_source replays s))

-- what a file is that a session names by this key: its drives are images, and `save` names a saving
abbrev pub role_of : Field → FileRole
role_of field.Out = Image
role_of field.Save = Saving
role_of key = Plain

abbrev pub planned_file : OutputName → PlannedName
planned_file f = planned f.name (role_of f.key)

-- what it writes
abbrev pub session_outputs : SessionConfig → List PlannedName
session_outputs s = map planned_file (output_files (session_view s))

-- what a run reads, in this order: the configuration, the system drive, and what each session does
abbrev pub run_inputs : StoreName → Config → List Replay → List PlannedName
run_inputs file config replays =
    planned file Configuration ∷ planned (string_bytes config.system) Image ∷ flat_map (session_inputs replays) config.sessions.items

-- what it writes, in this order: what each session leaves, the record of what is typed, and the script of each session
abbrev pub run_outputs : Config → Option StoreName → (scripts : List StoreName) → List PlannedName
run_outputs config record_name scripts =
    flat_map session_outputs config.sessions.items ++ (planned_if_any Plain record_name ++ all_planned Script scripts)

abbrev pub plan_of_run : StoreName → Config → List Replay → Option StoreName → (scripts : List StoreName) → Plan
plan_of_run file config replays record_name scripts = record {
  inputs = run_inputs file config replays;
  outputs = run_outputs config record_name scripts;
  naming = Replaces;
}

-- the script of each session in a folder, if there is one
abbrev pub script_names : Option StoreName → List SessionConfig → List StoreName
script_names None sessions = []
script_names (Some folder) sessions = map (λ s. folder ++ codes "/" ++ string_bytes s.name ++ codes ".keys") sessions

-- ---- what is asked of the run

-- the script of each session; that of the one that is typed at wants a key, if what has its name is kept
abbrev pub record_mark : RecordFile → StoreName × Bool
record_mark r = (r.name.now, r.needs_key)

abbrev pub record_marks : (is_kept : Bool) → Option StoreName → List (SessionConfig × String Global) → List (StoreName × Bool)
record_marks is_kept typed sessions = map (λ p. (string_bytes p.1, is_typed_at typed p.0 && is_kept)) sessions

-- the options of a run are those of the command line; and where its sessions stood, if it is to go on from there
pub record IsAsked (tells_name : StoreName → Bool → Type 0) (stood : Option Checkpoint) (task : RunTask) (sessions : List SessionConfig) (replays : List Replay)
    (scripts : List (String Global)) (options : RunOptions) : Type 0 where
  pub typed : option_map (λ n. n.now) options.typed ≡ option_map (λ n. n.now) task.keyboard
  pub idle : options.stops_idle ≡ task.stops_idle
  pub played_back : options.replays.now ≡ replays
  pub goes_on : option_map (λ c. c.now) options.kept ≡ stood
  -- the script of the session that is typed at, if something has its name
  pub kept : Option StoreName
  pub kept_is : IsScriptKept tells_name (typed_script (option_map (λ n. n.now) task.keyboard) (zip sessions scripts)) kept
  pub records : map record_mark options.records.now ≡ record_marks (is_some kept) (option_map (λ n. n.now) task.keyboard) (zip sessions scripts)

-- ---- the run

-- its sessions ran so
pub record HasRunAll {F : Type 0} (store : StoreActs F) (tells_name : F → StoreName → Bool → Type 0) (stood : Option Checkpoint)
    (task : RunTask) (config : Config) (replays : List Replay) (scripts : List (String Global)) (report : Report) (io : Streams) (old new : F) : Type 0 where
  pub options : RunOptions
  pub asked : IsAsked (tells_name old) stood task config.sessions.items replays scripts options
  pub ran : HasRun store config options report io old new

-- the run was refused, and has come so far
pub record IsRunRefused {F : Type 0} (store : StoreActs F) (tells_name : F → StoreName → Bool → Type 0) (stood : Option Checkpoint)
    (task : RunTask) (config : Config) (replays : List Replay) (scripts : List (String Global)) (io : Streams) (old new : F) (e : HostError) : Type 0 where
  pub options : RunOptions
  pub asked : IsAsked (tells_name old) stood task config.sessions.items replays scripts options
  pub error : RunError
  pub told : e ≡ host_error_of_run error
  pub stopped : IsRunRefusal store config options io old new error

-- or memory was refused before it, and nothing was read or written
abbrev pub IsRunAllStopped : {F : Type 0} → StoreActs F → (F → StoreName → Bool → Type 0) → Option Checkpoint → RunTask → Config → List Replay
    → List (String Global) → Streams → F → F → HostError → Type 0
IsRunAllStopped {F} store tells_name stood task config replays scripts io old new e =
    ((e ≡ OutOfMemory) × (new ≡ old) × AreUntouched io) ⊎ IsRunRefused store tells_name stood task config replays scripts io old new e

-- what was written can't have its names; or it has them, but what is told of it can't be printed
abbrev pub IsEndStopped : {F : Type 0} → (F → Option HostError → F → Type 0) → F → F → HostError → Type 0
IsEndStopped {F} gives_names old new e = gives_names old (Some e) new ⊎ (gives_names old None new × IsUnprinted e)

-- the scripts of the sessions have these names
abbrev pub AreScripts : RunTask → Config → List (String Global) → Type 0
AreScripts task config scripts = map string_bytes scripts ≡ script_names (option_map (λ n. n.now) task.scripts) config.sessions.items

-- the sessions that are played by recordings are those that its words name
abbrev pub ArePlayedBack : RunTask → Config → List Replay → Type 0
ArePlayedBack task config replays = replays_from config.sessions.items [] (map (λ w. w.now) task.replays.items) ≡ Ok (map replay_view replays)

abbrev pub plan_by : RunTask → Config → List Replay → List (String Global) → Plan
plan_by task config replays scripts = plan_of_run task.config.now config replays (option_map (λ n. n.now) task.record) (map string_bytes scripts)

-- its files can't be what they are to be, or memory was refused before
abbrev pub IsRunUnseen : {F : Type 0} → (F → Plan → Option HostError → F → Type 0) → RunTask → Config → List Replay → List (String Global) → F → F → HostError
    → Type 0
IsRunUnseen {F} sees_to task config replays scripts old new e =
    ((e ≡ OutOfMemory) × (new ≡ old)) ⊎ sees_to old (plan_by task config replays scripts) (Some e) new

-- the configuration was read, and its files were seen to
pub record IsRunPrepared {F : Type 0} (does : F → StoreAccess → F → Type 0) (sees_to : F → Plan → Option HostError → F → Type 0) (task : RunTask)
    (old new : F) (config : Config) (replays : List Replay) (scripts : List (String Global)) (fault : Option HostError) : Type 0 where
  pub known : F
  pub read : IsConfigRead does task.config.now old known config
  pub played_back : ArePlayedBack task config replays
  pub named : AreScripts task config scripts
  pub sees : sees_to known (plan_by task config replays scripts) fault new

-- And then its sessions ran, what they left got its names, and each is reported; the bytes at which one ended that are no instruction were told; and the
-- record of what was typed was ended.
pub record HasRunSessions {F : Type 0} (store : StoreActs F) (sees_to : F → Plan → Option HostError → F → Type 0)
    (gives_names : F → Option HostError → F → Type 0) (tells_name : F → StoreName → Bool → Type 0) (stood : Option Checkpoint)
    (ended : Option HostError → Type 0) (told : List SessionReport → Type 0) (task : RunTask) (old new : F) (unread left : TypingState)
    (before printed unrecorded record_now : Option (List ℕ)) : Type 0 where
  pub config : Config
  pub replays : List Replay
  pub scripts : List (String Global)
  pub seen : F
  pub ran : F
  pub report : Report
  pub shown : Option (List ℕ)
  pub prepared : IsRunPrepared store.does sees_to task old seen config replays scripts None
  pub played : HasRunAll store tells_name stood task config replays scripts report (streams unread left before shown unrecorded record_now) seen ran
  pub named : gives_names ran None new
  pub printed_so : IsReported shown printed (report_text (zip report.sessions.items report.stops.items))
  pub tells : told report.sessions.items
  pub recorded : ended None

-- How far it came that was refused. Before its sessions ran no stream was read or written. Once they ran the record of what was typed was ended.
pub data IsRunStopped {F : Type 0} (store : StoreActs F) (sees_to : F → Plan → Option HostError → F → Type 0)
    (gives_names : F → Option HostError → F → Type 0) (tells_name : F → StoreName → Bool → Type 0) (stood : Option Checkpoint)
    (ended : Option HostError → Type 0) (told : List SessionReport → Type 0) (task : RunTask) (old new : F) (unread left : TypingState)
    (before printed unrecorded record_now : Option (List ℕ)) (e : HostError) : Type 0 where
  -- it has no configuration
  NoConfig : IsConfigRefused store.does task.config.now old new e → AreUntouched (streams unread left before printed unrecorded record_now)
      → IsRunStopped store sees_to gives_names tells_name stood ended told task old new unread left before printed unrecorded record_now e
  -- memory was refused before its files were seen to
  NotBegun : (config : Config) → IsConfigRead store.does task.config.now old new config → e ≡ OutOfMemory
      → AreUntouched (streams unread left before printed unrecorded record_now)
      → IsRunStopped store sees_to gives_names tells_name stood ended told task old new unread left before printed unrecorded record_now e
  -- a recording is named wrongly
  NoReplays : (config : Config) → IsConfigRead store.does task.config.now old new config
      → IsReplayRefusal config.sessions.items (map (λ w. w.now) task.replays.items) e
      → AreUntouched (streams unread left before printed unrecorded record_now)
      → IsRunStopped store sees_to gives_names tells_name stood ended told task old new unread left before printed unrecorded record_now e
  -- its files can't be what they are to be
  NotSeen : (config : Config) (replays : List Replay) (scripts : List (String Global))
      → IsRunPrepared store.does sees_to task old new config replays scripts (Some e)
      → AreUntouched (streams unread left before printed unrecorded record_now)
      → IsRunStopped store sees_to gives_names tells_name stood ended told task old new unread left before printed unrecorded record_now e
  -- its sessions can't run, or can't be written
  NotRun : (config : Config) (replays : List Replay) (scripts : List (String Global)) (seen : F)
      → IsRunPrepared store.does sees_to task old seen config replays scripts None
      → IsRunAllStopped store tells_name stood task config replays scripts (streams unread left before printed unrecorded record_now) seen new e
      → IsRunStopped store sees_to gives_names tells_name stood ended told task old new unread left before printed unrecorded record_now e
  -- what they left can't have its names, or can't be told
  NotEnded : (config : Config) (replays : List Replay) (scripts : List (String Global)) (seen ran : F) (report : Report) (shown : Option (List ℕ))
      (fault : Option HostError)
      → IsRunPrepared store.does sees_to task old seen config replays scripts None
      → HasRunAll store tells_name stood task config replays scripts report (streams unread left before shown unrecorded record_now) seen ran
      → IsEndStopped gives_names ran new e → told report.sessions.items → ended fault
      → IsRunStopped store sees_to gives_names tells_name stood ended told task old new unread left before printed unrecorded record_now e
  -- it has its names and is told, but the record of what was typed can't have its own
  NotRecorded : (config : Config) (replays : List Replay) (scripts : List (String Global)) (seen ran : F) (report : Report) (shown : Option (List ℕ))
      → IsRunPrepared store.does sees_to task old seen config replays scripts None
      → HasRunAll store tells_name stood task config replays scripts report (streams unread left before shown unrecorded record_now) seen ran
      → gives_names ran None new → IsReported shown printed (report_text (zip report.sessions.items report.stops.items)) → told report.sessions.items
      → ended (Some e) → IsUnrecorded e
      → IsRunStopped store sees_to gives_names tells_name stood ended told task old new unread left before printed unrecorded record_now e
