-- Options that don't go together. Clap's rules take them; what is wrong with them comes after what clap finds.
use Rattle.std.specs.Prelude.{◌&&◌, ◌||◌, ◌==◌, Bool, ℕ, false, if◌then◌else◌, max, nat_lt, not, true, Option, Some, None, is_some, length}
use Rattle.cpm_flags.specs.declared.regs.Cpu.{Cpu}
use Rattle.cpm_flags.specs.declared.regs.Cpu.TheVariants.{I8080, Z80}
use Rattle.cpm_command_line.specs.declared.fault.UsageFault.{UsageFault}
use Rattle.cpm_command_line.specs.declared.fault.UsageFault.TheVariants.{FolderWithoutDisk, FolderWithoutDrive, FromWithPlace, FromWithProgram, FromWithStart}
use Rattle.cpm_command_line.specs.declared.fault.UsageFault.TheVariants.{CheckpointZero, CompactWithoutResume, FramesOutside, TwoJournals}
use Rattle.cpm_command_line.specs.declared.fault.UsageFault.TheVariants.{NoProgram, OutWithoutDisk, OutWithoutDrive}
use Rattle.cpm_command_line.specs.declared.fault.UsageFault.TheVariants.{PaceUntyped, PaceZero, PartialWithoutOut}
use Rattle.cpm_command_line.specs.declared.fault.UsageFault.TheVariants.{ProgressAtKeyboard, ProgressAtPrompt, RecordAlone, RecordUntyped}
use Rattle.cpm_command_line.specs.declared.fault.UsageFault.TheVariants.{SystemWithoutFrom, TooManyDisks, TooManyPlaces, TwoScripts}
use Rattle.cpm_command_line.specs.declared.task.DebugTask.{DebugTask}
use Rattle.cpm_command_line.specs.declared.task.PlayTask.{PlayTask}
use Rattle.cpm_command_line.specs.declared.task.RunTask.{RunTask}
use Rattle.cpm_command_line.specs.declared.task.ServeTask.{ServeTask}
use Rattle.cpm_command_line.specs.declared.task.Task.{Task}
use Rattle.cpm_command_line.specs.declared.task.Task.TheVariants.{Boot, Com, Debug, Run, Serve}

-- own: a number was given, and is 0
abbrev pub is_zero_count : Option ℕ → Bool
is_zero_count None = false
is_zero_count (Some n) = n == 0

-- own: the processor is the Z80
abbrev pub is_z80 : Cpu → Bool
is_z80 I8080 = false
is_z80 Z80 = true

-- own: something is given that a saved machine has of its own: a program, the Z80 or drives
abbrev pub has_start : PlayTask → Bool
has_start task = is_some task.file || (is_z80 task.cpu || not (length task.drives.items == 0))

-- own: how many drives can be written at most, where a machine that begins anew has this many: four, where it goes on from a saved one
abbrev pub written_at_most : PlayTask → ℕ → ℕ
written_at_most task drives = if is_some task.from then 4 else drives

-- own: what is wrong first with the options that `com` and `boot` have in common, where this is wrong with `--progress` of one that is typed at
abbrev pub fault_of_play : UsageFault → PlayTask → Option UsageFault
fault_of_play progress task =
    if task.is_partial && ((length task.outs.items == 0) && (length task.out_folders.items == 0)) then Some PartialWithoutOut
    else (if task.has_progress && task.is_live then Some progress
    else (if is_zero_count task.pace then Some PaceZero
    else None))

-- own: what is wrong with too many of `--out-disk` and of `--out-folder` in `com`: each wants a `--disk`, unless it goes on from a saved machine
abbrev pub fault_of_outs : (goes_on : Bool) → UsageFault
fault_of_outs true = OutWithoutDrive
fault_of_outs false = OutWithoutDisk

abbrev pub fault_of_folders : (goes_on : Bool) → UsageFault
fault_of_folders true = FolderWithoutDrive
fault_of_folders false = FolderWithoutDisk

-- own: what is wrong first with the words and the options of `com`. It has a program, or goes on from a saved machine, and then has no start
-- of its own. Four drives, A to D, can have an image
abbrev pub fault_of_com : PlayTask → Option UsageFault
fault_of_com task =
    if not (is_some task.file || is_some task.from) then Some NoProgram
    else (if is_some task.from && has_start task then Some FromWithStart
    else (if is_some task.«record» && not (task.is_live || (is_some task.keys || is_some task.replay)) then Some RecordAlone
    else (if is_some task.keys && is_some task.replay then Some TwoScripts
    else (if nat_lt 4 (length task.drives.items) then Some TooManyDisks
    else (if nat_lt (written_at_most task (length task.drives.items)) (length task.outs.items) then Some (fault_of_outs (is_some task.from))
    else (if nat_lt (written_at_most task (length task.drives.items)) (length task.out_folders.items) then Some (fault_of_folders (is_some task.from))
    else fault_of_play ProgressAtKeyboard task))))))

-- own: what is wrong first with the places and the options of `boot`. Where it goes on from a saved machine, it has no start of its own.
-- Where no place is given, drive A is there all the same
abbrev pub fault_of_boot : PlayTask → Option UsageFault
fault_of_boot task =
    if is_some task.from && has_start task then Some FromWithPlace
    else (if is_some task.keys && is_some task.replay then Some TwoScripts
    else (if nat_lt 4 (length task.drives.items) then Some TooManyPlaces
    else (if nat_lt (written_at_most task (max 1 (length task.drives.items))) (length task.outs.items) then Some OutWithoutDrive
    else (if nat_lt (written_at_most task (max 1 (length task.drives.items))) (length task.out_folders.items) then Some FolderWithoutDrive
    else fault_of_play ProgressAtPrompt task))))

-- own: what is wrong first with the options of `run`
abbrev pub fault_of_run : RunTask → Option UsageFault
fault_of_run task =
    if is_some task.«record» && not (is_some task.keyboard) then Some RecordUntyped
    else (if task.has_progress && is_some task.keyboard then Some ProgressAtKeyboard
    else (if is_zero_count task.pace then Some PaceZero
    else (if is_some task.pace && not (is_some task.keyboard) then Some PaceUntyped
    else (if is_zero_count task.checkpoint then Some CheckpointZero
    else None))))

-- own: what is wrong first with the words and the options of `debug`. It has a program, or a saved machine, which has a program and a processor
-- of its own; and only a saved machine has another system drive than a blank one
abbrev pub fault_of_debug : DebugTask → Option UsageFault
fault_of_debug task =
    if not (is_some task.file || is_some task.from) then Some NoProgram
    else (if is_some task.from && (is_some task.file || is_z80 task.cpu) then Some FromWithProgram
    else (if is_some task.system && not (is_some task.from) then Some SystemWithoutFrom
    else None))

-- own: a number of frames was given that no host has
abbrev pub is_outside_frames : Option ℕ → Bool
is_outside_frames None = false
is_outside_frames (Some n) = nat_lt n 16 || nat_lt 16384 n

-- own: what is wrong first with the options of `serve`
abbrev pub fault_of_serve : ServeTask → Option UsageFault
fault_of_serve task =
    if is_outside_frames task.frames then Some FramesOutside
    else (if is_some task.journal && is_some task.resume then Some TwoJournals
    else (if task.is_compact && not (is_some task.resume) then Some CompactWithoutResume
    else None))

-- own: what is wrong first with the options of a task
abbrev pub task_fault : Task → Option UsageFault
task_fault (Com task) = fault_of_com task
task_fault (Boot task) = fault_of_boot task
task_fault (Run task) = fault_of_run task
task_fault (Debug task) = fault_of_debug task
task_fault (Serve task) = fault_of_serve task
task_fault _ = None
