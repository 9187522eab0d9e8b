-- Faults of the disk system.
use Rattle.std.specs.Prelude.{ℕ, ◌+◌, ◌%◌, List, ◌∷◌, ◌++◌, codes, Option, Some, None}
use Rattle.cpm_console.specs.Terminal.{shown}
use Rattle.cpm_memory.specs.Contents.{Contents}
use Rattle.cpm_bdos.specs.StepResult.{StepResult, did, rebooted}
use Rattle.cpm_bdos.specs.Keys.{took_key}
use Rattle.cpm_volume.specs.declared.answer.Fault.{Fault}
use Rattle.cpm_volume.specs.declared.answer.Fault.TheVariants.{BadSector, Select, FileReadOnly, ReadOnly}
use Rattle.cpm_bdos.specs.declared.session.Session.{Session}
use Rattle.cpm_bdos.specs.declared.session.Mode.TheVariants as mode
use Rattle.cpm_bdos.specs.declared.session.Went.TheVariants.{Waits, GoesOn}

-- CP/M 2.2 Operating System Manual, section 1.7, BDOS Error Messages; own: the words as they stand here
abbrev pub fault_name : Fault → List ℕ
fault_name BadSector = codes "Bad Sector"
fault_name Select = codes "Select"
fault_name FileReadOnly = codes "File R/O"
fault_name ReadOnly = codes "R/O"

-- own: the message, with the letter of the drive, whose number is taken modulo 16
abbrev pub fault_text : Fault → ℕ → List ℕ
fault_text fault drive =
    0x0D ∷ 0x0A ∷ (codes "Bdos Err On " ++ ((0x41 + drive % 16) ∷ (codes ": " ++ fault_name fault)))

-- own: the message goes to the console alone, and the session then waits for a key
abbrev pub in_fault : Session → Fault → ℕ → Session
in_fault s fault drive = record s { console = shown s.console (fault_text fault drive); mode = mode.Fault }

abbrev pub faulted : Session → Contents → Fault → ℕ → StepResult
faulted s m fault drive = did (in_fault s fault drive) m GoesOn

-- own: the key that is then read, whichever it is, boots the session anew
abbrev pub after_fault : Option ℕ → Session → Contents → StepResult
after_fault None s m = did s m Waits
after_fault (Some key) s m = rebooted (took_key s) m
