-- What the parts of the command processor leave.
-- CP/M 2.2 Operating System Manual, section 1.4, Built-in Commands; own: the steps, and that each message follows a fresh line.
use Rattle.std.specs.Prelude.{ℕ, Bool, List, ◌∷◌, map, replicate, take}
use Rattle.cpm_volume.specs.declared.fcb.Fcb.{Fcb}
use Rattle.cpm_volume.specs.declared.answer.Fault.{Fault}
use Rattle.cpm_console.specs.Terminal.{said}
use Rattle.cpm_console.specs.Editing.{begun_line}
use Rattle.cpm_memory.specs.Contents.{Contents}
use Rattle.cpm_drives.specs.declared.disks.Disks.{Disks}
use Rattle.cpm_drives.specs.Calls.{FileCall, drive_named}
use Rattle.cpm_bdos.specs.StepResult.{StepResult, did}
use Rattle.cpm_bdos.specs.Keys.{first_key}
use Rattle.cpm_bdos.specs.Faults.{in_fault}
use Rattle.cpm_bdos.specs.Hold.{is_stop, stopped}
use Rattle.cpm_bdos.specs.declared.session.Session.{Session}
use Rattle.cpm_bdos.specs.declared.session.CommandPart.{CommandPart}
use Rattle.cpm_bdos.specs.declared.session.HeldOutput.TheVariants as held
use Rattle.cpm_bdos.specs.declared.session.Mode.{Mode}
use Rattle.cpm_bdos.specs.declared.session.Mode.TheVariants.{Program, Command}
use Rattle.cpm_bdos.specs.declared.session.Went.{Went}
use Rattle.cpm_bdos.specs.declared.session.Went.TheVariants.{Returned, GoesOn}
use Rattle.cpm_ccp.specs.declared.message.Message.{Message}
use Rattle.cpm_ccp.specs.Capitals.{capital}
use Rattle.cpm_ccp.specs.Message.{message_text}

-- a part comes next
abbrev pub at_part : Session → CommandPart → Session
at_part s part = record s { mode = Command part }

-- the command is done, and the prompt comes next
abbrev pub finished : Session → Session
finished s = record s { mode = Program }

-- how a part ended that left this mode: the command is done, or goes on
abbrev pub went_of : Mode → Went
went_of Program = Returned
went_of _ = GoesOn

-- a part that stored nothing in memory
abbrev pub stepped : Session → Contents → StepResult
stepped s m = did s m (went_of s.mode)

-- own: what the command processor shows goes to the list device too while it echoes
abbrev pub says : Session → List ℕ → Session
says s text = record s { console = said s.console text }

-- a text on a fresh line, and what ends a command by one
abbrev pub says_below : Session → List ℕ → Session
says_below s text = says s (0x0D ∷ 0x0A ∷ text)

abbrev pub message_told : Session → Message → Session
message_told s message = finished (says_below s (message_text message))

-- own: DIR and TYPE show nothing where ^S is the next key; the part then begins anew after another key
abbrev pub is_stopped : Session → Bool
is_stopped s = is_stop (first_key s)

abbrev pub held_at_part : Session → CommandPart → Session
held_at_part s part = stopped s (held.Command part)

-- own: a line of up to 127 characters is read from the cursor on, a part for each key
abbrev pub reads_line : Session → CommandPart → Session
reads_line s part = record s { line = begun_line s.console.column 127; mode = Command part }

-- the line that was typed, its small letters made capital
abbrev pub typed_line : Session → List ℕ
typed_line s = map capital s.line.characters

-- own: the file control block and the record are the command processor's own
abbrev pub on_file : Session → Fcb → Session
on_file s file = record s { file = file }

abbrev pub own_record : List ℕ
own_record = replicate 128 0

-- a record that was read has 128 bytes
abbrev pub record_read : FileCall → List ℕ
record_read c = take 128 c.buffer

-- the drive of that file
abbrev pub command_drive : Session → ℕ
command_drive s = drive_named s.disks s.file.drive

-- a fault of that drive ends the command
abbrev pub failed : Fault → Session → Session
failed which s = in_fault s which (command_drive s)

-- the session after a call on that file
abbrev pub with_call_disks : Session → Disks → Session
with_call_disks s disks = record s { disks = disks }

abbrev pub with_call : Session → FileCall → Session
with_call s c = record s { disks = c.disks; file = c.fcb }
