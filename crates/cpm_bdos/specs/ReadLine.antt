-- Function 10: CP/M 2.2 Operating System Manual, section 5.2, Operating System Call Conventions, function 10, Read Console Buffer.
use Rattle.std.specs.Prelude.{ℕ, Bool, nat_lt, if◌then◌else◌, [], ◌∷◌, length, Option, Some, None}
use Rattle.cpm_console.specs.Terminal.{said, key_read}
use Rattle.cpm_console.specs.EditedLine.{EditedLine}
use Rattle.cpm_console.specs.Editing.{EditResult, begun_line, key_into_line}
use Rattle.cpm_console.specs.declared.line.LineState.{LineState}
use Rattle.cpm_console.specs.declared.line.LineState.TheVariants as line
use Rattle.cpm_memory.specs.Contents.{Contents, byte_at, next, after_run}
use Rattle.cpm_bdos.specs.Registers.{pair_de}
use Rattle.cpm_bdos.specs.StepResult.{StepResult, did, answered, rebooted}
use Rattle.cpm_bdos.specs.Keys.{first_key}
use Rattle.cpm_bdos.specs.declared.session.Session.{Session}
use Rattle.cpm_bdos.specs.declared.session.Mode.TheVariants.{Line}
use Rattle.cpm_bdos.specs.declared.session.Went.TheVariants.{Waits, GoesOn}

-- a line may have a character more
abbrev pub is_open : EditedLine → Bool
is_open draft = nat_lt (length draft.characters) draft.limit

-- the end: the number of characters goes to DE + 1, and they from DE + 2 on
abbrev pub line_ended : Session → Contents → StepResult
line_ended s m =
    let at = next (pair_de s.regs) in
    answered s (after_run (after_run m at (length s.line.characters ∷ [])) (next at) s.line.characters) 0

-- how function 10 goes on after a key
abbrev pub after_key : LineState → Session → Contents → StepResult
after_key line.GoesOn s m = did (record s { mode = Line }) m GoesOn
after_key line.Ended s m = line_ended s m
after_key line.Interrupted s m = rebooted s m

-- own: what the reader of a line, function 10 or the command processor, makes of how the line goes on
abbrev pub LineReader : Type 0
LineReader = LineState → Session → Contents → StepResult

abbrev pub with_edited : Session → EditResult → Session
with_edited s e = record s { console = e.terminal; line = e.line }

abbrev pub edited_with : LineReader → Session → Contents → EditResult → StepResult
edited_with goes_on s m e = goes_on e.progress (with_edited s e) m

-- a key goes into the line, one a step
abbrev pub take_key : LineReader → Option ℕ → EditedLine → Session → Contents → StepResult
take_key goes_on None draft s m = did s m Waits
take_key goes_on (Some key) draft s m =
    edited_with goes_on s m (key_into_line (key_read s.console) draft key)

-- own: a line that may have no character more ends without a key, with a carriage return
abbrev pub no_more : LineReader → EditedLine → Session → Contents → StepResult
no_more goes_on draft s m =
    goes_on line.Ended (record s { console = said s.console (0x0D ∷ []); line = draft }) m

-- a step of a line
abbrev pub line_step : LineReader → EditedLine → Session → Contents → StepResult
line_step goes_on draft s m =
    if is_open draft then take_key goes_on (first_key s) draft s m else no_more goes_on draft s m

-- a step of function 10's line
abbrev pub edit_line : EditedLine → Session → Contents → StepResult
edit_line draft s m = line_step after_key draft s m

-- the first step: the byte at DE is the greatest number of characters, and the line begins where the cursor is
abbrev pub read_line : Session → Contents → StepResult
read_line s m = edit_line (begun_line s.console.column (byte_at m (pair_de s.regs))) s m
