-- What the command `serve` does. All of it is own.
use Rattle.std.specs.Prelude.{◌≡◌, ◌⊎◌, ℕ, nat_lt, if◌then◌else◌, Option, Some, None, option_map}
use Rattle.std.specs.Option.{option_or}
use Rattle.cpm_command_line.specs.declared.task.ServeTask.{ServeTask}
use Rattle.cpm_geom.specs.Disk.{Disk}
use Rattle.cpm_host.specs.Program.{disk_or_blank}
use Rattle.cpm_host.specs.Refusals.{IsOutRefusal}
use Rattle.cpm_host.specs.declared.error.HostError.{HostError}
use Rattle.cpm_host.specs.declared.error.HostError.TheVariants.{InputUnreadable, JournalUnwritable, OutputUnwritable, OutOfMemory}
use Rattle.cpm_serve.specs.declared.talk.TalkError.{TalkError}
use Rattle.cpm_serve.specs.declared.talk.TalkError.TheVariants as talk
use Rattle.cpm_slots.specs.Host.{Host, new_host}
use Rattle.cpm_store.specs.Files.{StoreName}
use Rattle.cpm_store.specs.Log.{StoreAccess}
use Rattle.cpm_commands.specs.Play.{IsSystemRead, IsSystemUnread}

-- how many frames its host has: as many as there are, unless fewer are asked for
abbrev pub frames_asked : Option ℕ → ℕ
frames_asked None = 16384
frames_asked (Some n) = if nat_lt n 16 then 16 else if nat_lt 16384 n then 16384 else n

-- the file of its system drive, if one is named
abbrev pub system_named : ServeTask → Option StoreName
system_named task = option_map (λ n. n.now) task.system

-- a new host, over the system drive that was read, or over a blank one
pub record IsHostBegun {F : Type 0} (does : F → StoreAccess → F → Type 0) (task : ServeTask) (old new : F) (host : Host) : Type 0 where
  pub disk : Option Disk
  pub read : IsSystemRead does (system_named task) old new disk
  pub made : host ≡ new_host (disk_or_blank disk) (frames_asked task.frames)

-- the system drive can't be read, or is none; or memory was refused
abbrev pub IsHostUnbegun : {F : Type 0} → (F → StoreAccess → F → Type 0) → ServeTask → F → F → HostError → Type 0
IsHostUnbegun {F} does task old new e =
    IsSystemUnread does (system_named task) old new e
    ⊎ ((disk : Option Disk) × IsSystemRead does (system_named task) old new disk × (e ≡ OutOfMemory))

-- A host goes on from a journal, or keeps one from now on, and is served then: `begins` says what became of it by the journal.
abbrev pub HasTalkedFrom : {D : Type 0} → (begins : (resumed : Host) → Option HostError → D → Type 0) → (talked : D → Host → Type 0) → Type 0
HasTalkedFrom {D} begins talked = (from : D) × (resumed : Host) × begins resumed None from × talked from resumed

-- the file of the journal that a task asks for, a new one or one that is gone on with, if it does
abbrev pub journal_named : ServeTask → Option StoreName
journal_named task = option_map (λ n. n.now) (option_or task.journal task.resume)

-- what it comes to that a journal can't be written: the file is named, with the machine's reason
abbrev pub IsUnkeptRefusal : Option StoreName → HostError → Type 0
IsUnkeptRefusal None e = e ≡ JournalUnwritable
IsUnkeptRefusal (Some name) e = IsOutRefusal name e

-- what a talk comes to that ended early; `unkept` is what it comes to that the journal can't be written
abbrev pub host_error_of_talk : (unkept : HostError) → TalkError → HostError
host_error_of_talk unkept (talk.Unreadable reason) = InputUnreadable reason
host_error_of_talk unkept (talk.Unwritable reason) = OutputUnwritable reason
host_error_of_talk unkept talk.OutOfMemory = OutOfMemory
host_error_of_talk unkept talk.Unkept = unkept

-- the host was made, and all lines were served, so
pub record HasServed {F : Type 0} (does : F → StoreAccess → F → Type 0) (talked : Host → Host → Type 0) (task : ServeTask) (old new : F) : Type 0 where
  pub made : Host
  pub left : Host
  pub begun : IsHostBegun does task old new made
  pub lines : talked made left

-- it was not made, or its journal was refused, and nothing was served; or some lines were, so
pub data IsServiceEnded {F : Type 0} (does : F → StoreAccess → F → Type 0) (talked_partly : TalkError → Host → Host → Type 0)
    (unbegun : Host → HostError → Type 0) (idle : Type 0) (task : ServeTask) (old new : F) (e : HostError) : Type 0 where
  NotMade : IsHostUnbegun does task old new e → idle → IsServiceEnded does talked_partly unbegun idle task old new e
  NotBegun : (made : Host) → IsHostBegun does task old new made → unbegun made e → IsServiceEnded does talked_partly unbegun idle task old new e
  CutOff : (made left : Host) (error : TalkError) (unkept : HostError) → IsUnkeptRefusal (journal_named task) unkept → e ≡ host_error_of_talk unkept error
      → IsHostBegun does task old new made → talked_partly error made left → IsServiceEnded does talked_partly unbegun idle task old new e
