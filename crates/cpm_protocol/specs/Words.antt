-- The words of replies. All of it is own: docs/PROTOCOL.md. Words that the library has too are its own.
use Rattle.std.specs.Prelude.{ℕ, List, [], ◌∷◌, codes, if◌then◌else◌, Option, Some, None}
use Rattle.std.specs.Str.{bytes_eq}
use Rattle.cpm_protocol.specs.declared.word.GrantStop.{GrantStop}
use Rattle.cpm_protocol.specs.declared.word.GrantStop.TheVariants as stop
use Rattle.cpm_protocol.specs.declared.word.WireEnd.{WireEnd}
use Rattle.cpm_protocol.specs.declared.word.WireEnd.TheVariants as ending
use Rattle.cpm_protocol.specs.declared.word.WireRefusal.{WireRefusal}
use Rattle.cpm_protocol.specs.declared.word.WireRefusal.TheVariants as refusal
use Rattle.cpm_protocol.specs.declared.field.RequestField.{RequestField}
use Rattle.cpm_protocol.specs.declared.field.RequestField.TheVariants as field

-- the first value whose word this is
abbrev pub with_word : {A : Type 0} → (A → List ℕ) → List ℕ → List A → Option A
with_word word_of word [] = None
with_word word_of word (x ∷ xs) = if bytes_eq word (word_of x) then Some x else with_word word_of word xs

-- why a grant ended
abbrev pub stop_word : GrantStop → List ℕ
stop_word stop.All = codes "All"
stop_word stop.Stopped = codes "Stopped"
stop_word stop.Break = codes "Break"
stop_word stop.Blocked = codes "Blocked"
stop_word stop.Waiting = codes "Waiting"

abbrev pub all_stops : List GrantStop
all_stops =
    stop.All ∷ stop.Stopped ∷ stop.Break ∷ stop.Blocked ∷ stop.Waiting ∷ []

-- how a session ended
abbrev pub ending_word : WireEnd → List ℕ
ending_word ending.Running = codes "Running"
ending_word ending.Halted = codes "Halted"
ending_word ending.Illegal = codes "Illegal"
ending_word ending.Quota = codes "Quota"
ending_word ending.CountEnd = codes "CountEnd"
ending_word ending.Exited = codes "Exited"

abbrev pub all_endings : List WireEnd
all_endings =
    ending.Running ∷ ending.Halted ∷ ending.Illegal ∷ ending.Quota ∷ ending.CountEnd ∷ ending.Exited ∷ []

-- why a request is refused
abbrev pub refusal_word : WireRefusal → List ℕ
refusal_word refusal.NoSuchSlot = codes "NoSuchSlot"
refusal_word refusal.NoSlot = codes "NoSlot"
refusal_word refusal.NoFrames = codes "NoFrames"
refusal_word refusal.BadQuota = codes "BadQuota"
refusal_word refusal.BadDrives = codes "BadDrives"
refusal_word refusal.Damaged = codes "Damaged"
refusal_word refusal.OtherSystem = codes "OtherSystem"
refusal_word refusal.OutOfMemory = codes "OutOfMemory"
refusal_word refusal.ReadOnly = codes "ReadOnly"
refusal_word refusal.DirectoryFull = codes "DirectoryFull"
refusal_word refusal.DiskFull = codes "DiskFull"
refusal_word refusal.NoFile = codes "NoFile"
refusal_word refusal.Exists = codes "Exists"
refusal_word refusal.BadName = codes "BadName"
refusal_word refusal.AbsentFile = codes "AbsentFile"
refusal_word refusal.BusyFile = codes "BusyFile"
refusal_word refusal.DamagedDisk = codes "DamagedDisk"
refusal_word refusal.FileFault = codes "FileFault"

abbrev pub all_refusals : List WireRefusal
all_refusals =
    refusal.NoSuchSlot ∷ refusal.NoSlot ∷ refusal.NoFrames ∷ refusal.BadQuota ∷ refusal.BadDrives ∷ refusal.Damaged ∷ refusal.OtherSystem
    ∷ refusal.OutOfMemory ∷ refusal.ReadOnly ∷ refusal.DirectoryFull ∷ refusal.DiskFull ∷ refusal.NoFile ∷ refusal.Exists ∷ refusal.BadName
    ∷ refusal.AbsentFile ∷ refusal.BusyFile ∷ refusal.DamagedDisk ∷ refusal.FileFault ∷ []

-- what a person is told
abbrev pub refusal_why : WireRefusal → List ℕ
refusal_why refusal.NoSuchSlot = codes "no slot of that number is open"
refusal_why refusal.NoSlot = codes "no slot is free"
refusal_why refusal.NoFrames = codes "the quotas of all open slots exceed the frames"
refusal_why refusal.BadQuota = codes "the quota is not 16 to 256 pages"
refusal_why refusal.BadDrives = codes "the session has no drive, or more than 4"
refusal_why refusal.Damaged = codes "the bytes are no saving"
refusal_why refusal.OtherSystem = codes "it was saved over another system drive"
refusal_why refusal.OutOfMemory = codes "out of memory"
refusal_why refusal.ReadOnly = codes "the file is read-only"
refusal_why refusal.DirectoryFull = codes "the directory is full"
refusal_why refusal.DiskFull = codes "the disk is full"
refusal_why refusal.NoFile = codes "no such file"
refusal_why refusal.Exists = codes "a file of that name is there"
refusal_why refusal.BadName = codes "no file of a disk has such a name"
refusal_why refusal.AbsentFile = codes "the folder has no such file"
refusal_why refusal.BusyFile = codes "another command has the file"
refusal_why refusal.DamagedDisk = codes "the file is no image of a sound disk"
refusal_why refusal.FileFault = codes "the file can't be read or written"

-- all fields of requests
abbrev pub all_request_fields : List RequestField
all_request_fields =
    field.Do ∷ field.Tag ∷ field.Slot ∷ field.Cpu ∷ field.Quota ∷ field.Drives ∷ field.From ∷ field.Keys ∷ field.Steps ∷ field.Until
    ∷ field.To ∷ field.Most ∷ field.Address ∷ field.Length ∷ field.File ∷ field.Out ∷ field.Drive ∷ field.Name ∷ field.Text ∷ field.Requests
    ∷ []
