-- When a step of the command processor waits for a key, what it keeps, and where ^S holds it.
use Rattle.std.specs.Prelude.{◌≡◌, ◌≢◌, Bool, true, false, ⊤, None}
use Rattle.cpm_geom.specs.Disk.{Disk, IsDisk}
use Rattle.cpm_memory.specs.Contents.{Contents}
use Rattle.cpm_drives.specs.Disks.{own_drive, drive_at}
use Rattle.cpm_bdos.specs.StepResult.{did}
use Rattle.cpm_bdos.specs.Waiting.{is_command, is_waiting}
use Rattle.cpm_bdos.specs.Laws.{without_keys, did_with_keys, is_hold}
use Rattle.cpm_bdos.specs.declared.session.Session.{Session}
use Rattle.cpm_bdos.specs.declared.session.CommandPart.{CommandPart}
use Rattle.cpm_bdos.specs.declared.session.CommandPart.TheVariants as part
use Rattle.cpm_bdos.specs.declared.session.Mode.{Mode}
use Rattle.cpm_bdos.specs.declared.session.Mode.TheVariants.{Program, Command as in_part}
use Rattle.cpm_bdos.specs.declared.session.Went.TheVariants.{Waits}
use Rattle.cpm_volume.specs.declared.fcb.Fcb.{Fcb}
use Rattle.cpm_ccp.specs.declared.command.Command.{Command}
use Rattle.cpm_ccp.specs.declared.command.Command.TheVariants.{TypeFile}
use Rattle.cpm_ccp.specs.Command.{command_of}
use Rattle.cpm_ccp.specs.Parts.{stepped, is_stopped, held_at_part, typed_line, command_drive}
use Rattle.cpm_ccp.specs.Step.{looks_first, ccp}

-- a part waits exactly where the session does: where it reads a line and finds no key; it then changes nothing. The prompt never waits.
pub record WaitsForKeys (system : Disk) (s : Session) (m : Contents) : Type 0 where
  pub changes_nothing : is_command s.mode ≡ true → is_waiting s m ≡ true → ccp system s m ≡ did s m Waits
  pub elsewhere : is_command s.mode ≡ true → is_waiting s m ≡ false → (ccp system s m).went ≡ Waits → ⊥
  pub prompt : s.mode ≡ Program → (ccp system s m).went ≡ Waits → ⊥

abbrev pub WaitingLaw : Type 0
WaitingLaw = (system : Disk) (s : Session) (m : Contents) → WaitsForKeys system s m

-- how many pages may be written stays
abbrev pub LimitLaw : Type 0
LimitLaw = (system : Disk) (s : Session) (m : Contents) → (ccp system s m).memory.limit ≡ m.limit

-- own: the command on the line
abbrev pub command_now : Session → Command
command_now s = command_of s.disks.current (typed_line s)

-- own: the parts that look for ^S: the first step of DIR and of TYPE, each file of DIR, and each record of TYPE
abbrev pub looks_for_stop : CommandPart → Command → Bool
looks_for_stop part.Begin command = looks_first command
looks_for_stop (part.Directory next column) command = true
looks_for_stop part.Show command = true
looks_for_stop _ command = false

abbrev pub looks_in : Mode → Command → Bool
looks_in (in_part part) command = looks_for_stop part command
looks_in _ command = false

-- own: the drive of the file is one of the session's own, or the system drive is marked as protected, which a call that uses it does
abbrev pub IsMarked : Session → Type 0
IsMarked s = own_drive s.disks (command_drive s) ≡ None → s.disks.system.is_protected ≡ true

-- own: a record of TYPE is read from an image that is a disk of its format, on a drive that was used before
pub record IsInUse (system : Disk) (s : Session) : Type 0 where
  pub whole : IsDisk (drive_at s.disks system (command_drive s)).image
  pub protected : IsMarked s

abbrev pub IsReadyFor : CommandPart → Disk → Session → Type 0
IsReadyFor part.Show system s = IsInUse system s
IsReadyFor _ system s = ⊤

-- where ^S is read next, a part that looks for it is held if with no key pending its step would show a byte,
-- and else does what it would do with no key pending, and takes none
pub record CommandHoldsOutput (part : CommandPart) (system : Disk) (s : Session) (m : Contents) : Type 0 where
  pub shows : (ccp system (without_keys s) m).session.console.screen ≢ s.console.screen → ccp system s m ≡ stepped (held_at_part s part) m
  pub silent : (ccp system (without_keys s) m).session.console.screen ≡ s.console.screen
      → ccp system s m ≡ did_with_keys s.console.keys (ccp system (without_keys s) m)

-- every other step, and each with another key or none, is never held
pub record IsHeldRight (system : Disk) (s : Session) (m : Contents) : Type 0 where
  pub looking : (part : CommandPart) → s.mode ≡ in_part part → looks_for_stop part (command_now s) ≡ true
      → is_stopped s ≡ true → IsReadyFor part system s → CommandHoldsOutput part system s m
  pub others : is_hold s.mode ≡ false → looks_in s.mode (command_now s) ≡ false → is_hold (ccp system s m).session.mode ≡ false
  pub other_keys : is_hold s.mode ≡ false → is_stopped s ≡ false → is_hold (ccp system s m).session.mode ≡ false

abbrev pub CommandHoldingLaw : Type 0
CommandHoldingLaw = (system : Disk) (s : Session) (m : Contents) → IsHeldRight system s m

-- TYPE uses the drive with its first step, and goes on with it: its records come from a drive that was used
pub record KeepsMarks (system : Disk) (s : Session) (m : Contents) : Type 0 where
  pub opened : (file : Fcb) → s.mode ≡ in_part part.Begin → command_now s ≡ TypeFile file
      → is_stopped s ≡ false → (ccp system s m).session.mode ≡ in_part part.Show → IsMarked (ccp system s m).session
  pub shown : s.mode ≡ in_part part.Show → IsMarked s → IsMarked (ccp system s m).session

abbrev pub MarksLaw : Type 0
MarksLaw = (system : Disk) (s : Session) (m : Contents) → KeepsMarks system s m
