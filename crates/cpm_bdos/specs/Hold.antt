-- Output that was stopped, and goes on after a key: CP/M 2.2 Operating System Manual, section 5.2, function 2 (start/stop scroll by ^S).
use Rattle.std.specs.Prelude.{ℕ, Bool, false, ◌==◌, if◌then◌else◌, Option, Some, None}
use Rattle.cpm_console.specs.Terminal.{key_read}
use Rattle.cpm_memory.specs.Contents.{Contents}
use Rattle.cpm_bdos.specs.StepResult.{StepResult, did, rebooted}
use Rattle.cpm_bdos.specs.Keys.{took_key}
use Rattle.cpm_bdos.specs.declared.session.Session.{Session}
use Rattle.cpm_bdos.specs.declared.session.HeldOutput.{HeldOutput}
use Rattle.cpm_bdos.specs.declared.session.HeldOutput.TheVariants as held
use Rattle.cpm_bdos.specs.declared.session.Mode.{Mode}
use Rattle.cpm_bdos.specs.declared.session.Mode.TheVariants.{Program, Text, Hold, Command}
use Rattle.cpm_bdos.specs.declared.session.Went.TheVariants.{Waits, GoesOn}

-- ^S is the key that is read next
abbrev pub is_stop : Option ℕ → Bool
is_stop None = false
is_stop (Some key) = key == 0x13

-- own: the step that finds ^S takes it, and outputs nothing
abbrev pub stopped : Session → HeldOutput → Session
stopped s held = record s { console = key_read s.console; mode = Hold held }

abbrev pub held_at : HeldOutput → Session → Contents → StepResult
held_at held s m = did (stopped s held) m GoesOn

-- own: what was held begins anew, its look for ^S included: the call from its registers, the text from its address, or the part of the command processor
abbrev pub resumed : HeldOutput → Mode
resumed held.Call = Program
resumed (held.Text next) = Text next
resumed (held.Command part) = Command part

-- own: the next key ends the hold, ^C with a warm boot
abbrev pub release : HeldOutput → Option ℕ → Session → Contents → StepResult
release held None s m = did s m Waits
release held (Some key) s m =
    if key == 0x03 then rebooted (took_key s) m else did (record (took_key s) { mode = resumed held }) m GoesOn
