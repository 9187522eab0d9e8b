-- Input from the console, and the console without echo.
use Rattle.std.specs.Prelude.{ℕ, Bool, ◌==◌, ◌||◌, nat_le, if◌then◌else◌, Option, Some, None, unwrap_or}
use Rattle.cpm_memory.specs.Contents.{Contents}
use Rattle.cpm_bdos.specs.StepResult.{StepResult, did, answered}
use Rattle.cpm_bdos.specs.Keys.{first_key, took_key, console_status}
use Rattle.cpm_bdos.specs.Output.{wrote, showed}
use Rattle.cpm_bdos.specs.declared.session.Session.{Session}
use Rattle.cpm_bdos.specs.declared.session.Went.TheVariants.{Waits}

-- CP/M 2.2 Operating System Manual, section 5.2, function 1: graphic characters are echoed, with backspace, tab, line feed and carriage return;
-- own: all from 20h on are
abbrev pub is_echoed : ℕ → Bool
is_echoed key = (key == 0x08) || (key == 0x09) || (key == 0x0A) || (key == 0x0D) || nat_le 0x20 key

-- function 1: a key, echoed or not, is the result; own: ^S and ^P are keys as others to it
abbrev pub read_key : Option ℕ → Session → Contents → StepResult
read_key None s m = did s m Waits
read_key (Some key) s m = answered (if is_echoed key then wrote (took_key s) key else took_key s) m key

-- function 6: for FFh a key, or 0 where none is pending; for FEh whether one is (own); else the byte is shown as it is
abbrev pub direct_console : ℕ → Session → Contents → StepResult
direct_console e s m =
    if e == 0xFF then answered (took_key s) m (unwrap_or (first_key s) 0)
    else if e == 0xFE then answered s m (console_status (first_key s))
    else answered (showed s e) m 0
