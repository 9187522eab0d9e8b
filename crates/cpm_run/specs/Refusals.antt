-- The codes of a run that is refused, and what refused files and configurations become. All of it is own.
use Rattle.cpm_batch.specs.Inputs.{code_of_reading}
use Rattle.cpm_batch.specs.declared.error.ReadError.{ReadError}
use Rattle.cpm_batch.specs.declared.error.ReadError.TheVariants as read
use Rattle.cpm_refusals.specs.declared.code.RefusalCode.{RefusalCode}
use Rattle.cpm_refusals.specs.declared.code.RefusalCode.TheVariants as code
use Rattle.cpm_run.specs.declared.error.RunError.{RunError}
use Rattle.cpm_run.specs.declared.error.RunError.TheVariants.{ConfigRefused, FileRefused, FramesExceeded, InputUnreadable, NoSession, NotOpened, OutOfMemory}
use Rattle.cpm_run.specs.declared.error.RunError.TheVariants.{ListUnwritable, OutputUnwritable, RecordUnwritable, SavedElsewhere, SessionRefused}
use Rattle.cpm_run.specs.declared.error.RunError.TheVariants.{TooManyKeys, WriteFault}
use Rattle.cpm_play.specs.declared.live.LiveError.{LiveError}
use Rattle.cpm_play.specs.declared.live.LiveError.TheVariants as live

-- the code of each
abbrev pub code_of_run : RunError → RefusalCode
code_of_run (NoSession name) = code.Usage
code_of_run (NotOpened name) = code.Usage
code_of_run (ConfigRefused fault) = code.Configuration
code_of_run (TooManyKeys name) = code.Script
code_of_run (FileRefused e) = code_of_reading e
code_of_run (InputUnreadable reason) = code.Unreadable
code_of_run (OutputUnwritable reason) = code.Unwritable
code_of_run (ListUnwritable reason) = code.Unwritable
code_of_run (RecordUnwritable reason) = code.Unwritable
code_of_run (WriteFault name) = code.Unwritable
code_of_run OutOfMemory = code.OutOfMemory
code_of_run (SessionRefused name fault) = code.Machine
code_of_run (SavedElsewhere name) = code.Machine
code_of_run (FramesExceeded name quotas frames) = code.Machine

-- what a refused file of a run comes to
abbrev pub run_error_of_reading : ReadError → RunError
run_error_of_reading (read.File name) = FileRefused (read.File name)
run_error_of_reading (read.Image name count) = FileRefused (read.Image name count)
run_error_of_reading (read.Script name line fault) = FileRefused (read.Script name line fault)
run_error_of_reading (read.Saving refused) = FileRefused (read.Saving refused)
run_error_of_reading (read.SavedDrives session drives names) = FileRefused (read.SavedDrives session drives names)
run_error_of_reading (read.ForkedEarly session at count) = FileRefused (read.ForkedEarly session at count)
run_error_of_reading read.OutOfMemory = OutOfMemory

-- what a session comes to that was cut short while one typed
abbrev pub run_error_of_live : LiveError → RunError
run_error_of_live (live.Unreadable reason) = InputUnreadable reason
run_error_of_live (live.Unwritable reason) = OutputUnwritable reason
run_error_of_live (live.Unprinted reason) = ListUnwritable reason
run_error_of_live (live.Unrecorded reason) = RecordUnwritable reason
run_error_of_live live.OutOfMemory = OutOfMemory
