-- A small ANSI terminal: all that the person's terminal is told. A byte of no sequence of these leads it astray, and it stays so.
use Rattle.std.specs.Prelude.{ℕ, ◌+◌, ◌-◌, ◌*◌, ◌==◌, ◌&&◌, ◌||◌, not, Bool, true, nat_le, nat_lt, if◌then◌else◌, List, [], ◌∷◌, ◌++◌, length, fold}
use Rattle.std.specs.Prelude.{Option, Some, None}
use Rattle.cpm_screen.specs.declared.cell.Attributes.{Attributes}
use Rattle.cpm_screen.specs.declared.cell.CharacterSet.TheVariants.{Ascii}
use Rattle.cpm_screen.specs.declared.cell.ScreenCell.{ScreenCell}
use Rattle.cpm_screen.specs.declared.cell.TheConstants.{PLAIN}
use Rattle.cpm_screen.specs.Rows.{with_row, with_cell, cells_erased}

-- what was read of a sequence: nothing, ESC, the numbers before the one that is being read and that one; or it has gone astray
pub data AnsiReading : Type 0 where
  ground : AnsiReading
  escape : AnsiReading
  numbers : List ℕ → ℕ → AnsiReading
  astray : AnsiReading

pub record AnsiScreen : Type 0 where
  pub columns : ℕ
  -- its rows, of so many cells each
  pub lines : List (List ScreenCell)
  pub row : ℕ
  -- own: so many columns after a character in the last one, where nothing but a move is of the language
  pub column : ℕ
  pub look : Attributes
  pub reading : AnsiReading

abbrev pub strayed : AnsiScreen → AnsiScreen
strayed t = record t { reading = astray }

-- a character, 20h to 7Eh
abbrev pub ansi_printed : ℕ → AnsiScreen → AnsiScreen
ansi_printed byte t =
    if nat_lt t.column t.columns
    then record t { lines = with_row t.row (with_cell t.column (record { character = byte; set = Ascii; attributes = t.look })) t.lines; column = t.column + 1 }
    else strayed t

-- ECMA-48, section 8.3.21, CUP: ESC [ row ; column H, counted from 1
abbrev pub ansi_moved : List ℕ → AnsiScreen → AnsiScreen
ansi_moved (row ∷ column ∷ []) t =
    if (nat_le 1 row && nat_le row (length t.lines)) && (nat_le 1 column && nat_le column t.columns)
    then record t { row = row - 1; column = column - 1 }
    else strayed t
ansi_moved _ t = strayed t

-- no attribute
abbrev pub is_plain_look : Attributes → Bool
is_plain_look a = not (a.bold || a.underline || a.blink || a.reverse)

-- ECMA-48, section 8.3.41, EL: ESC [ K, from the cursor to the end of the line; own: only without attributes, with which terminals differ
abbrev pub ansi_erased : List ℕ → AnsiScreen → AnsiScreen
ansi_erased (n ∷ []) t =
    if (n == 0) && nat_lt t.column t.columns && is_plain_look t.look then record t { lines = cells_erased t.row t.column t.columns t.lines } else strayed t
ansi_erased _ t = strayed t

-- ECMA-48, section 8.3.117, SGR: ESC [ number ; .. m, with 0 none, 1 bold, 4 underlined, 5 blinking, 7 reverse
abbrev pub look_numbered : Option Attributes → ℕ → Option Attributes
look_numbered None n = None
look_numbered (Some a) n =
    if n == 0 then Some PLAIN
    else (if n == 1 then Some (record a { bold = true })
    else (if n == 4 then Some (record a { underline = true })
    else (if n == 5 then Some (record a { blink = true })
    else (if n == 7 then Some (record a { reverse = true }) else None))))

abbrev pub with_look : Option Attributes → AnsiScreen → AnsiScreen
with_look None t = strayed t
with_look (Some a) t = record t { look = a }

-- the final byte of a sequence
abbrev pub ansi_ordered : ℕ → List ℕ → AnsiScreen → AnsiScreen
ansi_ordered byte ns t =
    if byte == 0x48 then ansi_moved ns t
    else (if byte == 0x4B then ansi_erased ns t
    else (if byte == 0x6D then with_look (fold look_numbered (Some t.look) ns) t else strayed t))

abbrev pub ansi_read : AnsiReading → ℕ → AnsiScreen → AnsiScreen
ansi_read ground byte t =
    if byte == 0x1B then record t { reading = escape }
    else (if nat_le 0x20 byte && nat_le byte 0x7E then ansi_printed byte t else strayed t)
ansi_read escape byte t = if byte == 0x5B then record t { reading = numbers [] 0 } else strayed t
ansi_read (numbers before n) byte t =
    if nat_le 0x30 byte && nat_le byte 0x39 then record t { reading = numbers before (10 * n + (byte - 0x30)) }
    else (if byte == 0x3B then record t { reading = numbers (before ++ n ∷ []) 0 }
    else ansi_ordered byte (before ++ n ∷ []) (record t { reading = ground }))
ansi_read astray byte t = t

abbrev pub ansi_byte : AnsiScreen → ℕ → AnsiScreen
ansi_byte t byte = ansi_read t.reading byte t

-- after bytes, one after the other
unfoldable pub ansi_after : List ℕ → AnsiScreen → AnsiScreen
ansi_after bytes t = fold ansi_byte t bytes
