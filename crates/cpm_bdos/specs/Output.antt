-- Output to the console and the list device.
use Rattle.std.specs.Prelude.{ℕ, ◌==◌, if◌then◌else◌, [], ◌∷◌}
use Rattle.cpm_console.specs.Terminal.{said, shown, printed, expanded}
use Rattle.cpm_memory.specs.Contents.{Contents, byte_at, next}
use Rattle.cpm_bdos.specs.StepResult.{StepResult, did, answered}
use Rattle.cpm_bdos.specs.Keys.{first_key}
use Rattle.cpm_bdos.specs.Hold.{is_stop, held_at}
use Rattle.cpm_bdos.specs.declared.session.Session.{Session}
use Rattle.cpm_bdos.specs.declared.session.HeldOutput.{HeldOutput}
use Rattle.cpm_bdos.specs.declared.session.HeldOutput.TheVariants as held
use Rattle.cpm_bdos.specs.declared.session.Mode.TheVariants.{Text}
use Rattle.cpm_bdos.specs.declared.session.Went.TheVariants.{GoesOn}

-- a byte said, a tab as spaces
abbrev pub wrote : Session → ℕ → Session
wrote s byte = record s { console = said s.console (expanded s.console.column byte) }

-- a byte shown on the console alone, and one sent to the list device alone, each as it is
abbrev pub showed : Session → ℕ → Session
showed s byte = record s { console = shown s.console (byte ∷ []) }

abbrev pub list_byte : Session → ℕ → Session
list_byte s byte = record s { console = printed s.console (byte ∷ []) }

-- function 2: the byte in E is said, unless ^S holds it; own: it doesn't look for ^P
abbrev pub write_byte : Session → Contents → StepResult
write_byte s m = if is_stop (first_key s) then held_at held.Call s m else answered (wrote s s.regs.e) m 0

-- function 9: the text from an address on is said up to `$`, a character a step unless ^S holds it, and one step for the `$`, which looks for no key
abbrev pub write_text : HeldOutput → Session → Contents → ℕ → StepResult
write_text held s m address =
    if byte_at m address == 0x24 then answered s m 0
    else if is_stop (first_key s) then held_at held s m
    else did (record (wrote s (byte_at m address)) { mode = Text (next address) }) m GoesOn
