-- The prompt, the line after it, and the commands that leave it another drive or user.
-- CP/M 2.2 Operating System Manual, section 1.4, Built-in Commands; own: the user and the drive lie at 0004h, each in four bits.
use Rattle.std.specs.Prelude.{ℕ, ◌+◌, ◌*◌, ◌/◌, ◌%◌, List, [], ◌∷◌, if◌then◌else◌}
use Rattle.cpm_geom.specs.Disk.{Disk}
use Rattle.cpm_volume.specs.declared.answer.Fault.TheVariants.{Select}
use Rattle.cpm_console.specs.declared.line.LineState.{LineState}
use Rattle.cpm_console.specs.declared.line.LineState.TheVariants as line
use Rattle.cpm_memory.specs.Contents.{Contents, byte_at, after_change}
use Rattle.cpm_memory.specs.Layout.{default_buffer_address, user_and_drive_address}
use Rattle.cpm_drives.specs.declared.disks.Disks.{Disks}
use Rattle.cpm_drives.specs.Disks.{is_there}
use Rattle.cpm_drives.specs.Selecting.{drive_in_use}
use Rattle.cpm_bdos.specs.StepResult.{StepResult, did, rebooted}
use Rattle.cpm_bdos.specs.Faults.{faulted}
use Rattle.cpm_bdos.specs.ReadLine.{line_step}
use Rattle.cpm_bdos.specs.declared.session.Session.{Session}
use Rattle.cpm_bdos.specs.declared.session.CommandPart.{CommandPart}
use Rattle.cpm_bdos.specs.declared.session.CommandPart.TheVariants as part
use Rattle.cpm_bdos.specs.declared.session.Went.TheVariants.{Returned, GoesOn}
use Rattle.cpm_ccp.specs.Parts.{at_part, finished, says_below, reads_line}

-- ---- the prompt

-- own: drive A where the one at 0004h is not there
abbrev pub drive_asked : Disks → ℕ → ℕ
drive_asked disks byte = if is_there disks (byte % 16) then byte % 16 else 0

-- the drives once that is the current one, which logs it in, and the user
abbrev pub drives_chosen : Disks → Disk → ℕ → Disks
drives_chosen disks system byte =
    record (drive_in_use disks system (drive_asked disks byte)) { current = drive_asked disks byte; user = byte / 16 }

-- a fresh line, the drive's letter and >; own: the buffer is again at 0080h
abbrev pub prompt_text : ℕ → List ℕ
prompt_text drive = (0x41 + drive) ∷ 0x3E ∷ []

unfoldable pub prompted : Disk → ℕ → Session → Session
prompted system byte s =
    reads_line (says_below (record s { disks = drives_chosen s.disks system byte; buffer = default_buffer_address })
    (prompt_text (drive_asked s.disks byte))) part.Line

-- ---- a line, and the part that comes after it

abbrev pub prompt_after_key : CommandPart → LineState → Session → Contents → StepResult
prompt_after_key next line.GoesOn s m = did s m GoesOn
prompt_after_key next line.Ended s m = did (at_part s next) m GoesOn
prompt_after_key next line.Interrupted s m = rebooted s m

-- a step of the line, as by function 10 of the BDOS
abbrev pub edit_command_line : CommandPart → Session → Contents → StepResult
edit_command_line next s m = line_step (prompt_after_key next) s.line s m

-- ---- a drive's letter, and USER

-- the byte at 0004h with another drive in its low four bits, and with another user in its high four
abbrev pub with_drive_and_user : ℕ → ℕ → ℕ
with_drive_and_user drive byte = 16 * (byte / 16) + drive

abbrev pub with_user : ℕ → ℕ → ℕ
with_user user byte = 16 * user + byte % 16

-- section 1, d: a drive that is not there is a fault
abbrev pub drive_selected : ℕ → Session → Contents → StepResult
drive_selected drive s m =
    if is_there s.disks drive
    then did (finished s) (after_change m user_and_drive_address (with_drive_and_user drive (byte_at m user_and_drive_address))) Returned
    else faulted s m Select drive

-- section 1, USER
abbrev pub user_selected : ℕ → Session → Contents → StepResult
user_selected user s m =
    did (finished s) (after_change m user_and_drive_address (with_user user (byte_at m user_and_drive_address))) Returned
