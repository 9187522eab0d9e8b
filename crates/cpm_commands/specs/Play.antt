-- What the commands `com` and `boot` do. All of it is own.
use Rattle.std.specs.Prelude.{◌≡◌, ◌⊎◌, ◌^◌, ◌-◌, ◌==◌, ◌&&◌, ◌||◌, not, is_some, unwrap_or, if◌then◌else◌, ℕ, Bool, true, false, List, []}
use Rattle.std.specs.Prelude.{◌++◌, ◌+◌, min, length, map, option_map, Option, Some, None, Ok}
use Rattle.cpm_command_line.specs.declared.task.PlayTask.{PlayTask}
use Rattle.cpm_disk_commands.specs.declared.damage.NamedFile.{NamedFile}
use Rattle.cpm_geom.specs.Disk.{Disk}
use Rattle.cpm_host.specs.Program.{AreRecorded, IsCueRefusal, IsRecordingRefusal, IsPlayedBy, IsProgramPlayRefusal, IsProgramRefusal, ProgramInput}
use Rattle.cpm_host.specs.Program.{HasSaved, machine_of, system_disk}
use Rattle.cpm_host.specs.Saved.{IsSavingRefusal}
use Rattle.cpm_machine.specs.Saving.{Saving, restored}
use Rattle.cpm_host.specs.Tails.{IsTailRefusal, tail_from}
use Rattle.cpm_host.specs.declared.error.HostError.{HostError}
use Rattle.cpm_host.specs.declared.error.HostError.TheVariants.{CutOff, OutOfMemory}
use Rattle.cpm_host.specs.declared.program.ProgramPlay.{ProgramPlay}
use Rattle.cpm_host.specs.declared.program.Source.{Source}
use Rattle.cpm_host.specs.declared.program.Source.TheVariants.{Cues, Typed}
use Rattle.cpm_machine.specs.Step.{is_running}
use Rattle.cpm_machine.specs.declared.reply.End.{End}
use Rattle.cpm_machine.specs.declared.reply.End.TheVariants.{Running, Halted, Illegal, Quota, CountEnd, Exited}
use Rattle.cpm_play.specs.Output.{output_state}
use Rattle.cpm_play.specs.declared.live.PlayEnd.{PlayEnd}
use Rattle.cpm_play.specs.declared.live.PlayEnd.TheVariants.{Steps}
use Rattle.cpm_run.specs.Settled.{AreUntouched, Streams, play_streams}
use Rattle.cpm_run.specs.declared.ending.Ending.{Ending}
use Rattle.cpm_script.specs.Cues.{cue_text, cues, last_cue_count}
use Rattle.cpm_script.specs.declared.cue.Cue.{Cue}
use Rattle.cpm_store.specs.Files.{StoreName}
use Rattle.cpm_store.specs.Log.{StoreAccess, Gave, Missed}
use Rattle.cpm_commands.specs.Disk.{IsDiskRead, IsDiskUnread}
use Rattle.cpm_commands.specs.Drives.{AreDrivesRead, AreDrivesRefused, ArePlacesFound, ArePlacesUnfound, inputs_of_places}
use Rattle.cpm_commands.specs.Files.{IsUnread}
use Rattle.cpm_commands.specs.Left.{IsPlayLeft, IsPlayUnleft, Texts, WriteActs}
use Rattle.cpm_commands.specs.ListText.{MayBeDropped, kept_if}
use Rattle.cpm_commands.specs.OutFolder.{folder_view, folder_starts_of}
use Rattle.cpm_commands.specs.Plan.{Plan, all_planned, planned_if_any}
use Rattle.cpm_commands.specs.Record.{IsUnrecorded}
use Rattle.cpm_commands.specs.declared.drives.DrivePlace.{DrivePlace}
use Rattle.cpm_commands.specs.declared.plan.FileRole.TheVariants.{Folder, Image, Plain, Saving as SavingFile}
use Rattle.cpm_commands.specs.declared.plan.OutputNaming.TheVariants.{Replaces}
use Rattle.cpm_commands.specs.declared.play.StartedPlay.{StartedPlay}

-- ---- what is asked

-- a saved machine is read, or the program and what its drives come from, the system drive, a script and a recording; its drives are written, files of them
-- into folders, the record of its keys, what it prints, and the machine
abbrev pub plan_of_play : PlayTask → List DrivePlace → Plan
plan_of_play task places = record {
  inputs = planned_if_any SavingFile (option_map (λ n. n.now) task.from) ++ planned_if_any Plain (option_map (λ n. n.now) task.file) ++ inputs_of_places places
      ++ planned_if_any Image (option_map (λ n. n.now) task.system)
      ++ planned_if_any Plain (option_map (λ n. n.now) task.keys) ++ planned_if_any Plain (option_map (λ n. n.now) task.replay);
  outputs = all_planned Image (map (λ n. n.now) task.outs.items) ++ all_planned Folder (map (λ n. n.now) task.out_folders.items)
      ++ planned_if_any Plain (option_map (λ n. n.now) task.record) ++ planned_if_any Plain (option_map (λ n. n.now) task.list)
      ++ planned_if_any SavingFile (option_map (λ n. n.now) task.save);
  naming = Replaces;
}

-- files are named for its drives, or folders
abbrev pub writes_disks : PlayTask → Bool
writes_disks task = not (length task.outs.items == 0) || not (length task.out_folders.items == 0)

-- files are named for what comes of it: for its drives, for what it prints, for its keys, or for the machine
abbrev pub writes_files : PlayTask → Bool
writes_files task = writes_disks task || is_some task.list || is_some task.record || is_some task.save

-- how many steps it has at most where nobody says: there is no limit where a person ends it, and where files are written; else they count from the last key
-- with a count, so that all such keys come
abbrev pub unasked_steps : (is_live writes : Bool) → (last : ℕ) → ℕ
unasked_steps is_live writes last = if is_live || writes then 2 ^ 64 - 1 else min (last + 1000000) (2 ^ 64 - 1)

abbrev pub steps_asked : PlayTask → List Cue → ℕ
steps_asked task said = unwrap_or task.steps (unasked_steps task.is_live (writes_files task) (last_cue_count 0 (map cue_text said)))

-- its keys are those of its script, and then those that are typed where that is asked
abbrev pub source_of : PlayTask → List Cue → Source → Type 0
source_of task said (Typed cues) = (task.is_live ≡ true) × (cues.now ≡ said)
source_of task said (Cues c) = (task.is_live ≡ false) × (c.cues.now ≡ said) × (c.waits_from ≡ 0) × (c.stops_idle ≡ task.stops_idle)

-- the tail that is left in the memory: none where there is no program, or neither a word of it nor a disk
abbrev pub IsTailOf : PlayTask → Option (List ℕ) → Type 0
IsTailOf task None = (is_some task.file ≡ false) ⊎ ((task.tail.items ≡ []) × (task.drives.items ≡ []))
IsTailOf task (Some tail) = (is_some task.file ≡ true) × (tail_from [] (map (λ w. w.now) task.tail.items) ≡ Ok tail)

-- ---- what is read

-- the file of a program gave its bytes, if one is named; else there is no program
abbrev pub IsProgramRead : {F : Type 0} → (F → StoreAccess → F → Type 0) → Option StoreName → F → F → Option (List ℕ) → Type 0
IsProgramRead {F} does None old new None = new ≡ old
IsProgramRead {F} does (Some name) old new (Some program) = does old (Gave name program) new
IsProgramRead {F} does _ old new _ = ⊥

abbrev pub IsProgramUnread : {F : Type 0} → (F → StoreAccess → F → Type 0) → Option StoreName → F → F → HostError → Type 0
IsProgramUnread {F} does None old new e = ⊥
IsProgramUnread {F} does (Some name) old new e = IsUnread name e × does old (Missed name) new

-- the file of the system drive gave its image, if one is named
abbrev pub IsSystemRead : {F : Type 0} → (F → StoreAccess → F → Type 0) → Option StoreName → F → F → Option Disk → Type 0
IsSystemRead {F} does None old new None = new ≡ old
IsSystemRead {F} does (Some name) old new (Some disk) = IsDiskRead does name old new disk
IsSystemRead {F} does _ old new _ = ⊥

abbrev pub IsSystemUnread : {F : Type 0} → (F → StoreAccess → F → Type 0) → Option StoreName → F → F → HostError → Type 0
IsSystemUnread {F} does None old new e = ⊥
IsSystemUnread {F} does (Some name) old new e = IsDiskUnread does name old new e

-- the file of a saved machine gave it, if one is named
abbrev pub IsSavedRead : {F : Type 0} → (F → StoreAccess → F → Type 0) → Option StoreName → F → F → Option Saving → Type 0
IsSavedRead {F} does None old new None = new ≡ old
IsSavedRead {F} does (Some name) old new (Some x) = (bytes : List ℕ) × does old (Gave name bytes) new × (restored bytes ≡ Ok x)
IsSavedRead {F} does _ old new _ = ⊥

-- the file can't be read, or is no saved machine; or memory was refused
abbrev pub IsSavedUnread : {F : Type 0} → (F → StoreAccess → F → Type 0) → Option StoreName → F → F → HostError → Type 0
IsSavedUnread {F} does None old new e = ⊥
IsSavedUnread {F} does (Some name) old new e =
    (IsUnread name e × does old (Missed name) new) ⊎ ((bytes : List ℕ) × does old (Gave name bytes) new × IsSavingRefusal name bytes e)

-- a saved machine, or the program and its drives, and then the system drive were read, with which it runs
pub record IsStartRead {F : Type 0} (does : F → StoreAccess → F → Type 0) (task : PlayTask) (places : List DrivePlace) (tail : Option (List ℕ)) (old new : F)
    (g : ProgramInput) : Type 0 where
  pub given : F
  pub begun : F
  pub between : F
  pub saved : IsSavedRead does (option_map (λ n. n.now) task.from) old given g.saved
  pub read : IsProgramRead does (option_map (λ n. n.now) task.file) given begun g.program
  pub drives : AreDrivesRead does places begun between g.drives
  pub system : IsSystemRead does (option_map (λ n. n.now) task.system) between new g.system
  pub cpu : g.cpu ≡ task.cpu
  pub tail_left : g.tail ≡ tail

-- the saved machine can't be read, or is none; or the program can't be read, or is too long; or a drive can't be read, or is none; or there are too many;
-- or the system drive can't be read
pub data IsStartRefused {F : Type 0} (does : F → StoreAccess → F → Type 0) (task : PlayTask) (places : List DrivePlace) (old new : F) (e : HostError)
    : Type 0 where
  NoSaved : IsSavedUnread does (option_map (λ n. n.now) task.from) old new e → IsStartRefused does task places old new e
  Unread : (saved : Option Saving) (given : F) → IsSavedRead does (option_map (λ n. n.now) task.from) old given saved
      → IsProgramUnread does (option_map (λ n. n.now) task.file) given new e → IsStartRefused does task places old new e
  TooLong : (g : ProgramInput) (given : F) → IsSavedRead does (option_map (λ n. n.now) task.from) old given g.saved
      → IsProgramRead does (option_map (λ n. n.now) task.file) given new g.program → g.drives ≡ [] → IsProgramRefusal g e
      → IsStartRefused does task places old new e
  NoDrives : (saved : Option Saving) (program : Option (List ℕ)) (given begun : F) → IsSavedRead does (option_map (λ n. n.now) task.from) old given saved
      → IsProgramRead does (option_map (λ n. n.now) task.file) given begun program
      → AreDrivesRefused does places begun new e → IsStartRefused does task places old new e
  TooMany : (g : ProgramInput) (given begun : F) → IsSavedRead does (option_map (λ n. n.now) task.from) old given g.saved
      → IsProgramRead does (option_map (λ n. n.now) task.file) given begun g.program
      → AreDrivesRead does places begun new g.drives → IsProgramRefusal g e → IsStartRefused does task places old new e
  NoSystem : (saved : Option Saving) (program : Option (List ℕ)) (drives : List Disk) (given begun between : F)
      → IsSavedRead does (option_map (λ n. n.now) task.from) old given saved
      → IsProgramRead does (option_map (λ n. n.now) task.file) given begun program
      → AreDrivesRead does places begun between drives → IsSystemUnread does (option_map (λ n. n.now) task.system) between new e
      → IsStartRefused does task places old new e

-- a script says this
abbrev pub AreSaid : List ℕ → List Cue → Type 0
AreSaid text said = cues text ≡ Ok (map cue_text said)

-- the file of a script gave what it says, if one is named; else nothing is said
abbrev pub AreCuesRead : {F : Type 0} → (F → StoreAccess → F → Type 0) → Option StoreName → F → F → List Cue → Type 0
AreCuesRead {F} does None old new said = (said ≡ []) × (new ≡ old)
AreCuesRead {F} does (Some name) old new said = (text : List ℕ) × does old (Gave name text) new × AreSaid text said

-- the file can't be read, or a line of it has a fault; or memory was refused
abbrev pub AreCuesRefused : {F : Type 0} → (F → StoreAccess → F → Type 0) → Option StoreName → F → F → HostError → Type 0
AreCuesRefused {F} does None old new e = ⊥
AreCuesRefused {F} does (Some name) old new e =
    (IsUnread name e × does old (Missed name) new) ⊎ ((text : List ℕ) × does old (Gave name text) new × IsCueRefusal name text e)

-- the file of a recording gave its keys, each at its count, if one is named; else nothing is said
abbrev pub AreRecordedRead : {F : Type 0} → (F → StoreAccess → F → Type 0) → Option StoreName → F → F → List Cue → Type 0
AreRecordedRead {F} does None old new said = (said ≡ []) × (new ≡ old)
AreRecordedRead {F} does (Some name) old new said = (text : List ℕ) × does old (Gave name text) new × AreRecorded text said

abbrev pub AreRecordedRefused : {F : Type 0} → (F → StoreAccess → F → Type 0) → Option StoreName → F → F → HostError → Type 0
AreRecordedRefused {F} does None old new e = ⊥
AreRecordedRefused {F} does (Some name) old new e =
    (IsUnread name e × does old (Missed name) new) ⊎ ((text : List ℕ) × does old (Gave name text) new × IsRecordingRefusal name text e)

-- what the program is played by before anybody types: its script, if one is named, and else the recording
abbrev pub AreKeysReadBy : {F : Type 0} → (F → StoreAccess → F → Type 0) → (keys replay : Option StoreName) → F → F → List Cue → Type 0
AreKeysReadBy {F} does (Some name) replay old new said = AreCuesRead does (Some name) old new said
AreKeysReadBy {F} does None replay old new said = AreRecordedRead does replay old new said

abbrev pub AreKeysRead : {F : Type 0} → (F → StoreAccess → F → Type 0) → PlayTask → F → F → List Cue → Type 0
AreKeysRead {F} does task old new said = AreKeysReadBy does (option_map (λ n. n.now) task.keys) (option_map (λ n. n.now) task.replay) old new said

abbrev pub AreKeysRefusedBy : {F : Type 0} → (F → StoreAccess → F → Type 0) → (keys replay : Option StoreName) → F → F → HostError → Type 0
AreKeysRefusedBy {F} does (Some name) replay old new e = AreCuesRefused does (Some name) old new e
AreKeysRefusedBy {F} does None replay old new e = AreRecordedRefused does replay old new e

abbrev pub AreKeysRefused : {F : Type 0} → (F → StoreAccess → F → Type 0) → PlayTask → F → F → HostError → Type 0
AreKeysRefused {F} does task old new e = AreKeysRefusedBy does (option_map (λ n. n.now) task.keys) (option_map (λ n. n.now) task.replay) old new e

-- ---- how it ended

-- who typed, if anybody did, has not ended it
abbrev pub by_steps : Option PlayEnd → Bool
by_steps None = true
by_steps (Some Steps) = true
by_steps (Some end) = false

-- its limit of steps has cut it off: it still runs, doesn't wait for a key, and nobody has ended it
abbrev pub is_cut_off : PlayTask → ProgramPlay → Bool
is_cut_off task play = is_some task.steps && is_running play.ending.ended && not play.waits && by_steps play.end

-- its disks were to be written, but not in part; where the machine is saved, which can go on, they are written all the same
abbrev pub is_kept_back : PlayTask → ProgramPlay → Bool
is_kept_back task play = writes_disks task && not task.is_partial && not (is_some task.save) && is_cut_off task play

-- the exit status that tells how a program ended
abbrev pub status_of_end : End → ℕ
status_of_end Exited = 0
status_of_end Halted = 0
status_of_end Running = 11
status_of_end Illegal = 12
status_of_end Quota = 13
status_of_end CountEnd = 14

-- which is given where it is asked for
abbrev pub status_of : PlayTask → Ending → ℕ
status_of task e = if task.has_status then status_of_end e.ended else 0

-- ---- the command

-- How the files of a command go from state to state by being read, and what they tell of folders; and what was told of the files that are left out of these
-- places.
pub record ReadActs (F : Type 0) : Type 1 where
  pub does : F → StoreAccess → F → Type 0
  pub sees_to : F → Plan → Option HostError → F → Type 0
  pub tells_folder : F → StoreName → Bool → Type 0
  pub lists : F → StoreName → List StoreName → Type 0
  pub unlists : F → StoreName → HostError → Type 0
  pub told_left_out : List DrivePlace → Type 0

-- it was found where its drives come from, its files were seen to, and it was told what is left out
pub record IsPlayPrepared {F : Type 0} (acts : ReadActs F) (task : PlayTask) (places : List DrivePlace) (old seen : F) : Type 0 where
  pub found : ArePlacesFound acts.tells_folder acts.lists old (map (λ n. n.now) task.drives.items) places
  pub sees : acts.sees_to old (plan_of_play task places) None seen
  pub told : acts.told_left_out places

-- and what the program runs with and its keys were read
pub record IsPlayRead {F : Type 0} (acts : ReadActs F) (task : PlayTask) (places : List DrivePlace) (old new : F) (g : ProgramInput) (said : List Cue)
    : Type 0 where
  pub seen : F
  pub started : F
  pub tail : Option (List ℕ)
  pub tail_of : IsTailOf task tail
  pub prepared : IsPlayPrepared acts task places old seen
  pub start : IsStartRead acts.does task places tail seen started g
  pub keys : AreKeysRead acts.does task started new said

-- and it was played by these, and as it was typed at
pub record HasPlayedMachine {F : Type 0} (acts : ReadActs F) (task : PlayTask) (io : Streams) (old new : F) (play : ProgramPlay) : Type 0 where
  pub places : List DrivePlace
  pub g : ProgramInput
  pub said : List Cue
  pub reads : IsPlayRead acts task places old new g said
  pub source : Source
  pub source_is : source_of task said source
  pub played : IsPlayedBy source (system_disk g) (machine_of g) (steps_asked task said) play io
  pub saves : HasSaved (is_some task.save) (system_disk g) (machine_of g) play

-- how far it came that was not played
pub data IsPlayStopped {F : Type 0} (acts : ReadActs F) (task : PlayTask) (io : Streams) (old new : F) (e : HostError) : Type 0 where
  -- the words of its tail make none, or memory was refused
  NotBegun : (IsTailRefusal (map (λ w. w.now) task.tail.items) e ⊎ (e ≡ OutOfMemory)) → new ≡ old → AreUntouched io → IsPlayStopped acts task io old new e
  -- the files of a folder can't be listed
  NotFound : ArePlacesUnfound acts.tells_folder acts.unlists old (map (λ n. n.now) task.drives.items) e → new ≡ old → AreUntouched io
      → IsPlayStopped acts task io old new e
  -- its files can't be what they are to be
  NotSeen : (places : List DrivePlace) → ArePlacesFound acts.tells_folder acts.lists old (map (λ n. n.now) task.drives.items) places
      → acts.sees_to old (plan_of_play task places) (Some e) new → AreUntouched io → IsPlayStopped acts task io old new e
  -- the program or a drive can't be read, or no machine runs it
  NoStart : (places : List DrivePlace) (seen : F) → IsPlayPrepared acts task places old seen → IsStartRefused acts.does task places seen new e
      → AreUntouched io → IsPlayStopped acts task io old new e
  -- the script or the recording can't be read, or has a fault
  NoKeys : (places : List DrivePlace) (seen started : F) (tail : Option (List ℕ)) (g : ProgramInput) → IsPlayPrepared acts task places old seen
      → IsStartRead acts.does task places tail seen started g → AreKeysRefused acts.does task started new e → AreUntouched io
      → IsPlayStopped acts task io old new e
  -- memory was refused for its drives as it begins with them
  NoRoom : (places : List DrivePlace) (g : ProgramInput) (said : List Cue) → IsPlayRead acts task places old new g said → e ≡ OutOfMemory → AreUntouched io
      → IsPlayStopped acts task io old new e
  -- it was not played to its end
  NotPlayed : (places : List DrivePlace) (g : ProgramInput) (said : List Cue) (source : Source) → IsPlayRead acts task places old new g said
      → source_of task said source → IsProgramPlayRefusal (is_some task.save) source g (steps_asked task said) io e → IsPlayStopped acts task io old new e

-- the folders, each with its drive as the machine began with it
abbrev pub task_starts : PlayTask → ProgramInput → List (StoreName × Option Disk)
task_starts task g = folder_starts_of (map (λ n. n.now) task.out_folders.items) g.drives

abbrev pub write_acts : {F : Type 0} → ReadActs F → (F → Option HostError → F → Type 0) → WriteActs F
write_acts {F} acts gives_names = record {
  does = acts.does;
  sees_to = acts.sees_to;
  gives_names = gives_names;
  lists = acts.lists;
  unlists = acts.unlists;
}

-- what it printed, and the machine as it was left, if it is saved
abbrev pub texts_left : (printed : Option (List ℕ)) → ProgramPlay → Texts
texts_left printed play = record {
  printed = printed;
  saved = option_map (λ v. v.items) play.saved;
}

-- with what it printed: that is known from nothing on where a file is named for it
abbrev pub with_printed : PlayTask → Streams → (printed : Option (List ℕ)) → Streams
with_printed task io printed =
    play_streams io.unread io.left (output_state io.before.console (kept_if (is_some task.list) [])) (output_state io.written.console printed)
    io.unrecorded io.record_now

-- it was played so, and the drives at the start of it are these, as far as there are folders
pub record HasPlayedWith {F : Type 0} (acts : ReadActs F) (task : PlayTask) (io : Streams) (old new : F) (p : StartedPlay) : Type 0 where
  pub played : HasPlayedMachine acts task io old new p.play
  pub starts : map folder_view p.starts.items ≡ task_starts task played.g

-- A program was played, and then the record of its keys was ended, and what it printed was written where a file is named for it, and the machine, and its
-- drives, or files of them, and got their names: it was not cut off, or they are written in part. It was told which files were not written, how it ended,
-- whether it was to stop where it waits, and did, and whether what it printed was dropped; and the status is given.
pub record HasPlayedTask {F : Type 0} (acts : ReadActs F) (gives_names : F → Option HostError → F → Type 0) (ended : Option HostError → Type 0)
    (told : List (List ℕ × NamedFile) → Ending → (waits : Bool) → Option PlayEnd → (dropped : Bool) → Type 0) (task : PlayTask) (io : Streams)
    (old new : F) (status : ℕ) : Type 0 where
  pub read : F
  pub play : ProgramPlay
  pub printed : Option (List ℕ)
  pub dropped : Bool
  pub unwritten : List (List ℕ × NamedFile)
  pub played : HasPlayedMachine acts task (with_printed task io printed) old read play
  pub drops : MayBeDropped printed dropped
  pub recorded : ended None
  pub whole : is_kept_back task play ≡ false
  pub left : IsPlayLeft (write_acts acts gives_names) task (task_starts task played.g) (texts_left printed play) play.drives read new unwritten
  pub tells : told unwritten play.ending (play.waits && task.stops_idle) play.end dropped
  pub gives : status ≡ status_of task play.ending

-- how far it came that was refused
pub data IsPlayRefused {F : Type 0} (acts : ReadActs F) (gives_names : F → Option HostError → F → Type 0) (ended : Option HostError → Type 0)
    (task : PlayTask) (io : Streams) (old new : F) (e : HostError) : Type 0 where
  -- it was not played, and nothing was written
  NotPlayed : (printed : Option (List ℕ)) → IsPlayStopped acts task (with_printed task io printed) old new e
      → IsPlayRefused acts gives_names ended task io old new e
  -- the record of its keys can't have its name, and nothing was written
  NotRecorded : (play : ProgramPlay) (printed : Option (List ℕ)) → HasPlayedMachine acts task (with_printed task io printed) old new play
      → ended (Some e) → IsUnrecorded e
      → IsPlayRefused acts gives_names ended task io old new e
  -- it was cut off, so that nothing was written but that record
  KeptBack : (play : ProgramPlay) (printed : Option (List ℕ)) → HasPlayedMachine acts task (with_printed task io printed) old new play → ended None
      → is_kept_back task play ≡ true → e ≡ CutOff play.steps
      → IsPlayRefused acts gives_names ended task io old new e
  -- what was played can't be written, or can't have its names
  NotLeft : (play : ProgramPlay) (printed : Option (List ℕ)) (read : F)
      → (played : HasPlayedMachine acts task (with_printed task io printed) old read play) → ended None → is_kept_back task play ≡ false
      → IsPlayUnleft (write_acts acts gives_names) task (task_starts task played.g) (texts_left printed play) play.drives read new e
      → IsPlayRefused acts gives_names ended task io old new e
