-- What a person sees of a screen, and the bytes that paint it.
use Rattle.std.specs.Prelude.{◌≡◌, ◌≢◌, ℕ, ◌+◌, ◌/◌, ◌%◌, ◌==◌, ◌&&◌, not, Bool, true, false, nat_le, nat_lt, if◌then◌else◌, List, [], ◌∷◌, ◌++◌, map}
use Rattle.std.specs.Prelude.{take, drop, slice_index_or}
use Rattle.cpm_screen.specs.declared.cell.Attributes.{Attributes}
use Rattle.cpm_screen.specs.declared.cell.CharacterSet.{CharacterSet}
use Rattle.cpm_screen.specs.declared.cell.CharacterSet.TheVariants.{Ascii, Drawing}
use Rattle.cpm_screen.specs.declared.cell.ScreenCell.{ScreenCell}
use Rattle.cpm_screen.specs.declared.cell.TheConstants.{PLAIN}
use Rattle.cpm_screen.specs.declared.painter.Painter.{Painter}
use Rattle.cpm_screen.specs.State.{ScreenState}
use Rattle.cpm_screen.specs.Ansi.{AnsiScreen, ground, astray, ansi_after}

-- own: what stands for a drawn character, as curses has it where a terminal can't draw
unfoldable pub drawn_stand_in : ℕ → ℕ
drawn_stand_in character =
    if character == 0x5F then 0x20  -- blank
    else (if character == 0x61 then 0x23  -- checkerboard, #
    else (if character == 0x78 then 0x7C  -- vertical line, |
    else (if character == 0x7E then 0x2E  -- centered dot, .
    else (if nat_le 0x6F character && nat_le character 0x73 then 0x2D  -- horizontal lines, -
    else (if nat_le 0x6A character && nat_le character 0x77 then 0x2B  -- corners and crossings, +
    else 0x2A)))))  -- signs, *

-- own: what stands for a character; those of the terminal's own, 80h to FFh, are question marks
abbrev pub stand_in_of : CharacterSet → ℕ → ℕ
stand_in_of Drawing character = drawn_stand_in character
stand_in_of Ascii character = if nat_le 0x20 character && nat_le character 0x7E then character else 0x3F

-- what a person sees of a cell, of a row and of a screen
unfoldable pub seen : ScreenCell → ScreenCell
seen c = record { character = stand_in_of c.set c.character; set = Ascii; attributes = c.attributes }

abbrev pub seen_row : ScreenState → List ScreenCell → List ScreenCell
seen_row s row = map seen (take s.columns row)

unfoldable pub seen_rows : ScreenState → List (List ScreenCell)
seen_rows s = map (seen_row s) s.lines

unfoldable pub seen_screen : ScreenState → AnsiScreen
seen_screen s =
    record { columns = s.columns; lines = seen_rows s; row = s.cursor.row; column = s.cursor.column; look = PLAIN; reading = ground }

-- own: these bytes turn the one into the other, and none of them leads the terminal astray
pub record Paints (bytes : List ℕ) (from to : ScreenState) : Type 0 where
  pub shown : ansi_after bytes (seen_screen from) ≡ seen_screen to
  pub in_language : (n : ℕ) → (ansi_after (take n bytes) (seen_screen from)).reading ≢ astray

-- ECMA-48: a number in decimal digits, below 1000
unfoldable pub digits : ℕ → List ℕ
digits n =
    if nat_lt n 10 then (0x30 + n) ∷ []
    else (if nat_lt n 100 then (0x30 + n / 10) ∷ (0x30 + n % 10) ∷ []
    else (0x30 + n / 100) ∷ (0x30 + n / 10 % 10) ∷ (0x30 + n % 10) ∷ [])

-- the bytes of a move, of erasing to the end of the line, and of attributes
unfoldable pub move_bytes : ℕ → ℕ → List ℕ
move_bytes row column = 0x1B ∷ 0x5B ∷ [] ++ digits (row + 1) ++ 0x3B ∷ [] ++ digits (column + 1) ++ 0x48 ∷ []

abbrev pub erase_bytes : List ℕ
erase_bytes = 0x1B ∷ 0x5B ∷ 0x4B ∷ []

abbrev pub number_if : Bool → ℕ → List ℕ
number_if on digit = if on then 0x3B ∷ digit ∷ [] else []

unfoldable pub look_bytes : Attributes → List ℕ
look_bytes a = 0x1B ∷ 0x5B ∷ 0x30 ∷ [] ++ number_if a.bold 0x31 ++ number_if a.underline 0x34 ++ number_if a.blink 0x35 ++ number_if a.reverse 0x37 ++ 0x6D ∷ []

-- whether two looks are one
abbrev pub same_bool : Bool → Bool → Bool
same_bool true b = b
same_bool false b = not b

abbrev pub same_look : Attributes → Attributes → Bool
same_look a b = same_bool a.bold b.bold && same_bool a.underline b.underline && same_bool a.blink b.blink && same_bool a.reverse b.reverse

-- the bytes of a move and of attributes where they are needed, from the row, the column and the attributes that are
unfoldable pub move_change : ℕ → ℕ → ℕ → ℕ → List ℕ
move_change from_row from_column row column = if (from_row == row) && (from_column == column) then [] else move_bytes row column

unfoldable pub look_change : Attributes → Attributes → List ℕ
look_change from to = if same_look from to then [] else look_bytes to

-- the bytes of a cell, and of a row that is erased from a column on
abbrev pub cell_bytes : ℕ → ℕ → Attributes → ℕ → ℕ → ScreenCell → List ℕ
cell_bytes from_row from_column from row column cell =
    move_change from_row from_column row column ++ look_change from cell.attributes ++ cell.character ∷ []

abbrev pub tail_bytes : ℕ → ℕ → Attributes → ℕ → ℕ → List ℕ
tail_bytes from_row from_column from row column = move_change from_row from_column row column ++ look_change from PLAIN ++ erase_bytes

-- the first elements of the one list, and the others of another
abbrev pub painted_first : {A : Type 0} → ℕ → List A → List A → List A
painted_first n from to = take n to ++ drop n from

-- a terminal that reads nothing
abbrev pub at_rest : ℕ → List (List ScreenCell) → ℕ → ℕ → Attributes → AnsiScreen
at_rest columns lines row column look =
    record { columns = columns; lines = lines; row = row; column = column; look = look; reading = ground }

-- the terminal when the first rows are painted
unfoldable pub rows_painted : ℕ → ScreenState → ScreenState → ℕ → ℕ → Attributes → AnsiScreen
rows_painted count from to row column look = at_rest from.columns (painted_first count (seen_rows from) (seen_rows to)) row column look

-- the terminal when the rows before one are painted, and the first cells of that one
unfoldable pub half_rows : ℕ → ℕ → List (List ScreenCell) → List (List ScreenCell) → List (List ScreenCell)
half_rows row column from to =
    take row to ++ painted_first column (slice_index_or from row []) (slice_index_or to row []) ∷ drop (row + 1) from

unfoldable pub cells_painted : ℕ → ℕ → ScreenState → ScreenState → ℕ → ℕ → Attributes → AnsiScreen
cells_painted row column from to at_row at_column look = at_rest from.columns (half_rows row column (seen_rows from) (seen_rows to)) at_row at_column look

-- the bytes so far paint the first rows
abbrev pub HasPainted : ℕ → ScreenState → ScreenState → Painter → Type 0
HasPainted count from to p = ansi_after p.bytes.items (seen_screen from) ≡ rows_painted count from to p.row p.column p.look
