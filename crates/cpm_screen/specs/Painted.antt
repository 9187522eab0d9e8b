-- A screen that is painted on a person's terminal as it changes.
use Rattle.std.specs.Prelude.{◌≢◌, ℕ, ◌-◌, ◌==◌, ◌&&◌, min, if◌then◌else◌, List, [], ◌∷◌, ◌++◌, codes, length, map, replicate, take}
use Rattle.cpm_screen.specs.declared.cell.ScreenCell.{ScreenCell}
use Rattle.cpm_screen.specs.declared.cell.CharacterSet.TheVariants.{Ascii}
use Rattle.cpm_screen.specs.declared.cell.TheConstants.{BLANK, PLAIN}
use Rattle.cpm_screen.specs.declared.cursor.Cursor.{Cursor}
use Rattle.cpm_screen.specs.State.{ScreenState}
use Rattle.cpm_screen.specs.Ansi.{AnsiScreen, astray, ansi_after}
use Rattle.cpm_screen.specs.Painting.{move_bytes, seen_screen}
use Rattle.cpm_screen.specs.Pictures.{IsAtRest}

-- own: the line of a terminal that is too small
unfoldable pub notice : List ℕ
notice = codes "cpmhost: this terminal shows a part of a screen of 24 rows by 80 columns"

abbrev pub plain_cell : ℕ → ScreenCell
plain_cell character = record { character = character; set = Ascii; attributes = PLAIN }

unfoldable pub text_row : List ℕ → List ScreenCell
text_row text = map plain_cell text ++ replicate (132 - length text) BLANK

-- own: where a cursor is shown that may be beyond the end
abbrev pub cursor_within : ℕ → ℕ → Cursor → Cursor
cursor_within rows columns c = record c { row = min c.row (rows - 1); column = min c.column (columns - 1) }

-- own: the first rows and columns of a screen, with that line in the last of them
unfoldable pub cut_screen : ℕ → ℕ → ScreenState → ScreenState
cut_screen rows columns s = record s {
  columns = columns;
  lines = take (rows - 1) s.lines ++ text_row notice ∷ [];
  cursor = cursor_within rows columns s.cursor;
}

-- own: what a terminal of so many rows and columns shows of a screen
unfoldable pub fitted : ℕ → ℕ → ScreenState → AnsiScreen
fitted rows columns s =
    if (length s.lines == rows) && (s.columns == columns) then seen_screen s else seen_screen (cut_screen rows columns s)

-- own: what a terminal of this size has got, and shows after it
pub record PainterState : Type 0 where
  pub rows : ℕ
  pub columns : ℕ
  pub given : List ℕ
  pub shown : AnsiScreen

-- own: the bytes so far have led no such terminal astray
abbrev pub IsSafe : List ℕ → (rows columns : ℕ) → Type 0
IsSafe bytes rows columns = (t : AnsiScreen) (n : ℕ) → IsAtRest rows columns t → (ansi_after (take n bytes) t).reading ≢ astray

-- own: what leaves the cursor below the rows: it goes to the last one, and on to a new line
abbrev pub end_bytes : ℕ → List ℕ
end_bytes rows = move_bytes (rows - 1) 0 ++ 0x0D ∷ 0x0A ∷ []
