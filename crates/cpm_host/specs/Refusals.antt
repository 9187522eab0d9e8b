-- The codes of refusals, and what a refused command line becomes.
use Rattle.std.specs.Prelude.{⊤, ◌≡◌, ℕ, List, chars}
use Rattle.cpm_shown.specs.Shown.{shown_of}
use Rattle.cpm_command_line.specs.declared.fault.UsageError.{UsageError}
use Rattle.cpm_command_line.specs.declared.fault.UsageError.TheVariants as usage
use Rattle.cpm_host.specs.declared.error.HostError.{HostError}
use Rattle.cpm_host.specs.declared.error.HostError.TheVariants.{Usage, NotText, CheckRefused, DiskRefused, FileUnreadable}
use Rattle.cpm_host.specs.declared.error.HostError.TheVariants.{FileUnwritable, InputUnreadable, ListUnwritable, NotAFolder}
use Rattle.cpm_host.specs.declared.error.HostError.TheVariants.{OutputUnwritable, SourceRefused, OutOfMemory, OpeningRefused}
use Rattle.cpm_host.specs.declared.error.HostError.TheVariants.{CutOff, NoReplay, ProgramTooLong, RecordUnwritable, ReplayedTwice, RunRefused}
use Rattle.cpm_host.specs.declared.error.HostError.TheVariants.{JournalRefused, JournalUnwritable, SavedElsewhere, SavingRefused, TailRefused}
use Rattle.cpm_check.specs.Check.{code_of_check}
use Rattle.cpm_check.specs.declared.error.CheckError.{CheckError}
use Rattle.cpm_check.specs.declared.error.CheckError.TheVariants as check
use Rattle.cpm_config.specs.declared.fault.ConfigError.{ConfigError}
use Rattle.cpm_config.specs.declared.fault.ConfigError.TheVariants as config
use Rattle.cpm_debug.specs.declared.error.DebugError.{DebugError}
use Rattle.cpm_debug.specs.declared.error.DebugError.TheVariants as debug
use Rattle.cpm_disk_commands.specs.Refusals.{code_of_disk_command}
use Rattle.cpm_disk_commands.specs.declared.error.DiskCommandError.{DiskCommandError}
use Rattle.cpm_disk_commands.specs.declared.error.DiskCommandError.TheVariants as disk_error
use Rattle.cpm_run.specs.Refusals.{code_of_run}
use Rattle.cpm_run.specs.declared.error.RunError.{RunError}
use Rattle.cpm_run.specs.declared.error.RunError.TheVariants as run
use Rattle.cpm_refusals.specs.declared.code.RefusalCode.{RefusalCode}
use Rattle.cpm_refusals.specs.declared.code.RefusalCode.TheVariants as code
use Rattle.cpm_machine.specs.declared.opening.OpenError.{OpenError}
use Rattle.cpm_machine.specs.declared.opening.OpenError.TheVariants as opening
use Rattle.cpm_play.specs.declared.live.LiveError.{LiveError}
use Rattle.cpm_play.specs.declared.live.LiveError.TheVariants as live

-- the code of each
abbrev pub code_of_command : HostError → RefusalCode
code_of_command (Usage refusal) = code.Usage
code_of_command NotText = code.Usage
code_of_command (TailRefused word) = code.Usage
code_of_command (NoReplay word) = code.Usage
code_of_command (ReplayedTwice name) = code.Usage
code_of_command (RunRefused e) = code_of_run e
code_of_command (DiskRefused e) = code_of_disk_command e
code_of_command (CheckRefused e) = code_of_check e
code_of_command (FileUnreadable name reason) = code.Unreadable
code_of_command (InputUnreadable reason) = code.Unreadable
code_of_command (OutputUnwritable reason) = code.Unwritable
code_of_command (ListUnwritable reason) = code.Unwritable
code_of_command (FileUnwritable name reason) = code.Unwritable
code_of_command (RecordUnwritable reason) = code.Unwritable
code_of_command JournalUnwritable = code.Unwritable
code_of_command (JournalRefused refusal) = code.Machine
code_of_command (NotAFolder name) = code.Unwritable
code_of_command (SourceRefused line kind found) = code.Source
code_of_command OutOfMemory = code.OutOfMemory
code_of_command (OpeningRefused fault) = code.Machine
code_of_command (ProgramTooLong count) = code.Machine
code_of_command (SavingRefused refusal) = code.Machine
code_of_command SavedElsewhere = code.Machine
code_of_command (CutOff steps) = code.CutOff

-- what a file of this name that is not read comes to
abbrev pub IsFileRefusal : (name : List ℕ) → HostError → Type 0
IsFileRefusal name (FileUnreadable shown reason) = shown.bytes ≡ shown_of (chars name)
IsFileRefusal name OutOfMemory = ⊤
IsFileRefusal name _ = ⊥

-- what a file of this name that is not written comes to
abbrev pub IsOutRefusal : (name : List ℕ) → HostError → Type 0
IsOutRefusal name (FileUnwritable shown reason) = shown.bytes ≡ shown_of (chars name)
IsOutRefusal name OutOfMemory = ⊤
IsOutRefusal name _ = ⊥

-- what words that can't be read come to
abbrev pub IsWordRefusal : HostError → Type 0
IsWordRefusal NotText = ⊤
IsWordRefusal OutOfMemory = ⊤
IsWordRefusal _ = ⊥

-- what a refused command line comes to
abbrev pub host_error_of : UsageError → HostError
host_error_of (usage.Usage refusal) = Usage refusal
host_error_of usage.OutOfMemory = OutOfMemory

-- what a refused configuration comes to
abbrev pub host_error_of_config : ConfigError → HostError
host_error_of_config (config.Text line fault) = RunRefused (run.ConfigRefused (config.Text line fault))
host_error_of_config (config.Key fault) = RunRefused (run.ConfigRefused (config.Key fault))
host_error_of_config (config.Range place) = RunRefused (run.ConfigRefused (config.Range place))
host_error_of_config (config.Twice place) = RunRefused (run.ConfigRefused (config.Twice place))
host_error_of_config config.OutOfMemory = OutOfMemory

-- what a refused command on disk images comes to
abbrev pub host_error_of_disk_command : DiskCommandError → HostError
host_error_of_disk_command (disk_error.NotName text) = DiskRefused (disk_error.NotName text)
host_error_of_disk_command (disk_error.NotPattern text) = DiskRefused (disk_error.NotPattern text)
host_error_of_disk_command (disk_error.NotPair text) = DiskRefused (disk_error.NotPair text)
host_error_of_disk_command (disk_error.PutTwice text file) = DiskRefused (disk_error.PutTwice text file)
host_error_of_disk_command (disk_error.NotImage image count) = DiskRefused (disk_error.NotImage image count)
host_error_of_disk_command (disk_error.Damaged image damage) = DiskRefused (disk_error.Damaged image damage)
host_error_of_disk_command (disk_error.LeftDamaged folder damage) = DiskRefused (disk_error.LeftDamaged folder damage)
host_error_of_disk_command (disk_error.NoFile image pattern user) = DiskRefused (disk_error.NoFile image pattern user)
host_error_of_disk_command (disk_error.Refused image file reason) = DiskRefused (disk_error.Refused image file reason)
host_error_of_disk_command (disk_error.NoHostName image file) = DiskRefused (disk_error.NoHostName image file)
host_error_of_disk_command (disk_error.OutputUnwritable reason) = OutputUnwritable reason
host_error_of_disk_command disk_error.OutOfMemory = OutOfMemory

-- what a refused run comes to
abbrev pub host_error_of_run : RunError → HostError
host_error_of_run (run.ConfigRefused fault) = RunRefused (run.ConfigRefused fault)
host_error_of_run (run.NoSession name) = RunRefused (run.NoSession name)
host_error_of_run (run.NotOpened name) = RunRefused (run.NotOpened name)
host_error_of_run (run.FileRefused e) = RunRefused (run.FileRefused e)
host_error_of_run (run.TooManyKeys name) = RunRefused (run.TooManyKeys name)
host_error_of_run (run.InputUnreadable reason) = RunRefused (run.InputUnreadable reason)
host_error_of_run (run.OutputUnwritable reason) = RunRefused (run.OutputUnwritable reason)
host_error_of_run (run.ListUnwritable reason) = RunRefused (run.ListUnwritable reason)
host_error_of_run (run.RecordUnwritable reason) = RunRefused (run.RecordUnwritable reason)
host_error_of_run (run.WriteFault name) = RunRefused (run.WriteFault name)
host_error_of_run run.OutOfMemory = OutOfMemory
host_error_of_run (run.SessionRefused name fault) = RunRefused (run.SessionRefused name fault)
host_error_of_run (run.SavedElsewhere name) = RunRefused (run.SavedElsewhere name)
host_error_of_run (run.FramesExceeded name quotas frames) = RunRefused (run.FramesExceeded name quotas frames)

-- what a refused check of an image comes to
abbrev pub host_error_of_check : CheckError → HostError
host_error_of_check (check.FileRefused e) = CheckRefused (check.FileRefused e)
host_error_of_check (check.ImageDamaged name damage) = CheckRefused (check.ImageDamaged name damage)
host_error_of_check (check.OutputUnwritable reason) = OutputUnwritable reason

-- what a refused dialog comes to
abbrev pub host_error_of_debug : DebugError → HostError
host_error_of_debug (debug.ProgramTooLong count) = ProgramTooLong count
host_error_of_debug (debug.Unreadable reason) = InputUnreadable reason
host_error_of_debug (debug.Unwritable reason) = OutputUnwritable reason
host_error_of_debug debug.OutOfMemory = OutOfMemory

-- what a live session that was not played to its end comes to
abbrev pub host_error_of_live : LiveError → HostError
host_error_of_live (live.Unreadable reason) = InputUnreadable reason
host_error_of_live (live.Unwritable reason) = OutputUnwritable reason
host_error_of_live (live.Unprinted reason) = ListUnwritable reason
host_error_of_live (live.Unrecorded reason) = RecordUnwritable reason
host_error_of_live live.OutOfMemory = OutOfMemory

-- what a refused opening comes to
abbrev pub host_error_of_opening : OpenError → HostError
host_error_of_opening opening.BadQuota = OpeningRefused opening.BadQuota
host_error_of_opening opening.BadDrives = OpeningRefused opening.BadDrives
host_error_of_opening opening.ProgramTooLong = OpeningRefused opening.ProgramTooLong
host_error_of_opening opening.NoSlot = OpeningRefused opening.NoSlot
host_error_of_opening opening.NoFrames = OpeningRefused opening.NoFrames
host_error_of_opening opening.OutOfMemory = OutOfMemory
