-- When a session waits for a key.
use Rattle.std.specs.Prelude.{◌≡◌, ◌-◌, Bool, true, false, ◌==◌, ◌&&◌, not, nat_le, is_some, if◌then◌else◌, Option, Some, None}
use Rattle.cpm_geom.specs.Disk.{Disk}
use Rattle.cpm_memory.specs.Contents.{Contents, byte_at}
use Rattle.cpm_memory.specs.Layout.{bdos_address, first_bios_address, console_input_address, last_bios_address}
use Rattle.cpm_bdos.specs.Registers.{pair_de}
use Rattle.cpm_bdos.specs.Function.{function_of}
use Rattle.cpm_bdos.specs.StepResult.{StepResult, did}
use Rattle.cpm_bdos.specs.Keys.{first_key}
use Rattle.cpm_bdos.specs.ReadLine.{is_open}
use Rattle.cpm_bdos.specs.Step.{bdos, bios}
use Rattle.cpm_bdos.specs.declared.function.Function.{Function}
use Rattle.cpm_bdos.specs.declared.function.Function.TheVariants.{ReadKey, ReadLine}
use Rattle.cpm_bdos.specs.declared.session.Session.{Session}
use Rattle.cpm_bdos.specs.declared.session.CommandPart.{CommandPart}
use Rattle.cpm_bdos.specs.declared.session.CommandPart.TheVariants as part
use Rattle.cpm_bdos.specs.declared.session.Mode.{Mode}
use Rattle.cpm_bdos.specs.declared.session.Mode.TheVariants.{Program, Text, Line, Hold, Fault, Command}
use Rattle.cpm_bdos.specs.declared.session.Went.TheVariants.{Waits}

-- the first step of a function needs a key: function 1 does, and function 10 for a line that may have characters
abbrev pub function_needs_key : Function → Session → Contents → Bool
function_needs_key ReadKey s m = true
function_needs_key ReadLine s m = not (byte_at m (pair_de s.regs) == 0)
function_needs_key _ s m = false

-- the parts of the command processor that read a line
abbrev pub part_needs_key : CommandPart → Session → Bool
part_needs_key part.Line s = is_open s.line
part_needs_key part.Answer s = is_open s.line
part_needs_key _ s = false

-- the next step needs a key: in a program where PC is at the BDOS (EC06h) with such a function, or at CONIN (FB03h),
-- in a line that may have a character more, in a hold and after a fault
abbrev pub needs_key : Mode → Session → Contents → Bool
needs_key Program s m =
    if s.regs.pc == bdos_address then function_needs_key (function_of s.regs.c) s m else s.regs.pc == console_input_address
needs_key (Text address) s m = false
needs_key Line s m = is_open s.line
needs_key (Hold held) s m = true
needs_key Fault s m = true
needs_key (Command part) s m = part_needs_key part s

-- a step now would be a wait
abbrev pub is_waiting : Session → Contents → Bool
is_waiting s m = needs_key s.mode s m && not (is_some (first_key s))

-- the step of a call that the mode asks for, or PC in a program: at EC06h the BDOS, from FB00h to FB10h the BIOS;
-- the parts of the command processor are not among them
abbrev pub call_in : Mode → Disk → Session → Contents → Option StepResult
call_in Program system s m =
    if s.regs.pc == bdos_address then Some (bdos system s m)
    else if nat_le first_bios_address s.regs.pc && nat_le s.regs.pc last_bios_address then Some (bios (s.regs.pc - first_bios_address) system s m)
    else None
call_in (Command part) system s m = None
call_in _ system s m = Some (bdos system s m)

abbrev pub call_now : Disk → Session → Contents → Option StepResult
call_now system s m = call_in s.mode system s m

-- the mode is a part of the command processor
abbrev pub is_command : Mode → Bool
is_command (Command part) = true
is_command _ = false

-- where a step of a call now would be a wait, it changes nothing; where not, it is none
pub record IsWaiting (waits : Bool) (s : Session) (m : Contents) : Type 0 where
  pub changes_nothing : waits ≡ true → is_command s.mode ≡ false → (system : Disk) → call_now system s m ≡ Some (did s m Waits)
  pub elsewhere : waits ≡ false → (system : Disk) (d : StepResult) → call_now system s m ≡ Some d → d.went ≡ Waits → ⊥
