-- What is erased, inserted and deleted, and the characters that are shown.
use Rattle.std.specs.Prelude.{ℕ, ◌+◌, ◌-◌, ◌&&◌, Bool, true, min, nat_le, nat_lt, if◌then◌else◌, List, length}
use Rattle.cpm_screen.specs.declared.cell.ScreenCell.{ScreenCell}
use Rattle.cpm_screen.specs.declared.terminal.Wrap.{Wrap}
use Rattle.cpm_screen.specs.declared.terminal.Wrap.TheVariants.{Now, Later, Never}
use Rattle.cpm_screen.specs.declared.action.Span.{Span}
use Rattle.cpm_screen.specs.declared.action.Span.TheVariants.{ToEnd, FromStart, Whole}
use Rattle.cpm_screen.specs.Rows.{with_row, with_cell, cells_erased, cells_opened, cells_closed, erased_rows, rows_up, rows_down}
use Rattle.cpm_screen.specs.State.{ScreenState, cell_shown}
use Rattle.cpm_screen.specs.Motions.{moved_to, on_next_line}

-- VT100 user guide, EL: the cursor's place is erased too
abbrev pub span_of_line : Span → ScreenState → List (List ScreenCell)
span_of_line ToEnd s = cells_erased s.cursor.row s.cursor.column s.columns s.lines
span_of_line FromStart s = cells_erased s.cursor.row 0 (s.cursor.column + 1) s.lines
span_of_line Whole s = cells_erased s.cursor.row 0 s.columns s.lines

unfoldable pub line_erased : Span → ScreenState → ScreenState
line_erased span s = record s { lines = span_of_line span s }

-- VT100 user guide, ED: the rest of the cursor's line, and the lines below or above it
abbrev pub span_of_screen : Span → ScreenState → List (List ScreenCell)
span_of_screen ToEnd s = erased_rows (s.cursor.row + 1) (length s.lines) s.lines
span_of_screen FromStart s = erased_rows 0 s.cursor.row s.lines
span_of_screen Whole s = erased_rows 0 (length s.lines) s.lines

unfoldable pub rows_erased : Span → ScreenState → ScreenState
rows_erased span s = record s { lines = span_of_screen span s }

unfoldable pub screen_erased_by : Span → ScreenState → ScreenState
screen_erased_by span s = line_erased span (rows_erased span s)

-- ADM-3A operator's manual, Clear screen: all is blank, and the cursor at home
unfoldable pub cleared : ScreenState → ScreenState
cleared s = moved_to 0 0 (rows_erased Whole s)

-- VT102 user guide, IL and DL: only within the scrolling region, down to its bottom; own: the cursor stays, on all terminals
abbrev pub is_in_region : ScreenState → Bool
is_in_region s = nat_le s.top s.cursor.row && nat_le s.cursor.row s.bottom

unfoldable pub lines_inserted : ℕ → ScreenState → ScreenState
lines_inserted n s =
    if is_in_region s then record s { lines = rows_down s.cursor.row s.bottom (min n (s.bottom + 1 - s.cursor.row)) s.lines } else s

unfoldable pub lines_deleted : ℕ → ScreenState → ScreenState
lines_deleted n s =
    if is_in_region s then record s { lines = rows_up s.cursor.row s.bottom (min n (s.bottom + 1 - s.cursor.row)) s.lines } else s

-- TeleVideo 950 operator's manual, Character insert and delete; VT102 user guide, DCH: up to the end of the line
unfoldable pub characters_inserted : ℕ → ScreenState → ScreenState
characters_inserted n s =
    record s { lines = cells_opened s.cursor.row s.cursor.column s.columns (min n (s.columns - s.cursor.column)) s.lines }

unfoldable pub characters_deleted : ℕ → ScreenState → ScreenState
characters_deleted n s =
    record s { lines = cells_closed s.cursor.row s.cursor.column s.columns (min n (s.columns - s.cursor.column)) s.lines }

-- VT100 user guide, DECAWM: a character after one in the last column is shown at the start of the next line
unfoldable pub wrapped : ScreenState → ScreenState
wrapped s = if s.cursor.is_past then on_next_line s else s

-- VT102 user guide, IRM: a character moves those after it to the right
unfoldable pub opened_for_one : ScreenState → ScreenState
opened_for_one s = if s.inserts then characters_inserted 1 s else s

unfoldable pub with_shown : ScreenCell → ScreenState → ScreenState
with_shown cell s = record s { lines = with_row s.cursor.row (with_cell s.cursor.column cell) s.lines }

-- after a character in the last column
abbrev pub after_last_column : Wrap → ScreenState → ScreenState
after_last_column Now s = on_next_line s
after_last_column Later s = record s { cursor = record s.cursor { is_past = true } }
after_last_column Never s = s

unfoldable pub advanced : ScreenState → ScreenState
advanced s = if nat_lt (s.cursor.column + 1) s.columns then moved_to s.cursor.row (s.cursor.column + 1) s else after_last_column s.wrap s

-- a character that is shown at the cursor
unfoldable pub character_shown : ℕ → ScreenState → ScreenState
character_shown character s = advanced (with_shown (cell_shown s.cursor character) (opened_for_one (wrapped s)))
