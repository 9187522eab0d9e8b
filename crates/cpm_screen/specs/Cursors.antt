-- The cursor, and what a terminal is when it is turned on.
use Rattle.std.specs.Prelude.{ℕ, if◌then◌else◌, List, Option, Some, None, codes}
use Rattle.std.specs.Str.{bytes_eq}
use Rattle.cpm_screen.specs.declared.terminal.TerminalKind.{TerminalKind}
use Rattle.cpm_screen.specs.declared.terminal.TerminalKind.TheVariants.{Adm3a, Kaypro, Televideo, Vt52, Vt100}
use Rattle.cpm_screen.specs.declared.terminal.Wrap.{Wrap}
use Rattle.cpm_screen.specs.declared.terminal.Wrap.TheVariants.{Now, Later, Never}

-- What follows on a character in the last column. ADM-3A operator's manual, Kaypro user's guide, TeleVideo 950 operator's manual: the next
-- line begins at once. VT52 user guide: the cursor stays there. VT100 user guide, DECAWM: the next character begins the next line; own: it
-- is set when the terminal is turned on.
unfoldable pub wrap_of : TerminalKind → Wrap
wrap_of Adm3a = Now
wrap_of Kaypro = Now
wrap_of Televideo = Now
wrap_of Vt52 = Never
wrap_of Vt100 = Later

-- own: the terminals by their names
abbrev pub terminal_named : List ℕ → Option TerminalKind
terminal_named name =
    if bytes_eq name (codes "adm3a") then Some Adm3a
    else (if bytes_eq name (codes "kaypro") then Some Kaypro
    else (if bytes_eq name (codes "televideo") then Some Televideo
    else (if bytes_eq name (codes "vt52") then Some Vt52
    else (if bytes_eq name (codes "vt100") then Some Vt100 else None))))
