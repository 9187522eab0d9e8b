-- The keys of a session's console.
use Rattle.std.specs.Prelude.{ℕ, Option, Some, None, slice_get}
use Rattle.cpm_console.specs.Terminal.{key_read}
use Rattle.cpm_bdos.specs.declared.session.Session.{Session}

-- the key that is read next, if one is pending
abbrev pub first_key : Session → Option ℕ
first_key s = slice_get s.console.keys 0

-- the session after it was read
abbrev pub took_key : Session → Session
took_key s = record s { console = key_read s.console }

-- CP/M 2.2 Operating System Manual, section 5.2, function 11, and section 6.6, The BIOS Entry Points, CONST: FFh where a key is pending, else 00h
abbrev pub console_status : Option ℕ → ℕ
console_status None = 0
console_status (Some key) = 0xFF
