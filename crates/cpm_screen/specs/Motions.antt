-- Where the cursor goes, and how lines move up and down under it.
use Rattle.std.specs.Prelude.{ℕ, ◌+◌, ◌-◌, ◌*◌, ◌/◌, ◌==◌, ◌&&◌, false, min, max, nat_le, nat_lt, if◌then◌else◌, length, Option, Some, None, slice_range}
use Rattle.std.specs.List.{position}
use Rattle.cpm_screen.specs.declared.terminal.TerminalKind.{TerminalKind}
use Rattle.cpm_screen.specs.declared.terminal.TerminalKind.TheVariants.{Vt52}
use Rattle.cpm_screen.specs.Rows.{rows_up, rows_down}
use Rattle.cpm_screen.specs.State.{ScreenState}

-- the last row, and the last column
abbrev pub last_row : ScreenState → ℕ
last_row s = length s.lines - 1

abbrev pub last_column : ScreenState → ℕ
last_column s = s.columns - 1

-- the cursor at a row and a column
unfoldable pub moved_to : ℕ → ℕ → ScreenState → ScreenState
moved_to row column s = record s { cursor = record s.cursor { row = row; column = column; is_past = false } }

-- VT100 user guide, CUU and CUD: up and down to the margins of the scrolling region, or to the edges outside it; own: on the others, to the edges
unfoldable pub moved_up : ℕ → ScreenState → ScreenState
moved_up n s = moved_to (max (if nat_lt s.cursor.row s.top then 0 else s.top) (s.cursor.row - n)) s.cursor.column s

unfoldable pub moved_down : ℕ → ScreenState → ScreenState
moved_down n s = moved_to (min (if nat_lt s.bottom s.cursor.row then last_row s else s.bottom) (s.cursor.row + n)) s.cursor.column s

-- VT100 user guide, CUB and CUF: to the edges; own: so too on the others
unfoldable pub moved_left : ℕ → ScreenState → ScreenState
moved_left n s = moved_to s.cursor.row (s.cursor.column - n) s

unfoldable pub moved_right : ℕ → ScreenState → ScreenState
moved_right n s = moved_to s.cursor.row (min (last_column s) (s.cursor.column + n)) s

-- the manuals' carriage return
unfoldable pub at_line_start : ScreenState → ScreenState
at_line_start s = moved_to s.cursor.row 0 s

-- VT100 user guide, IND, and the manuals' line feed: a row down; at the bottom of the scrolling region its lines move up
unfoldable pub line_fed : ScreenState → ScreenState
line_fed s =
    if s.cursor.row == s.bottom then record s { lines = rows_up s.top s.bottom 1 s.lines; cursor = record s.cursor { is_past = false } }
    else moved_to (min (last_row s) (s.cursor.row + 1)) s.cursor.column s

-- VT100 user guide, RI, and the manuals' reverse line feed: a row up; at the top of the scrolling region its lines move down
unfoldable pub line_fed_back : ScreenState → ScreenState
line_fed_back s =
    if s.cursor.row == s.top then record s { lines = rows_down s.top s.bottom 1 s.lines; cursor = record s.cursor { is_past = false } }
    else moved_to (s.cursor.row - 1) s.cursor.column s

-- VT100 user guide, NEL
abbrev pub on_next_line : ScreenState → ScreenState
on_next_line s = line_fed (at_line_start s)

-- VT100 user guide, CUP: a row and a column past the edges are the last ones; in origin mode rows count from the top of the scrolling region
unfoldable pub placed : ℕ → ℕ → ScreenState → ScreenState
placed row column s =
    moved_to (if s.cursor.is_origin then min s.bottom (s.top + row) else min (last_row s) row) (min (last_column s) column) s

-- VT52 user guide, Direct cursor address: a number is its byte less 20h; a row that the screen has not leaves the row, and such a column is the
-- last one. ADM-3A, Kaypro and TeleVideo, own: such a column leaves the column.
abbrev pub addressed_row : ℕ → ScreenState → ℕ
addressed_row byte s = if nat_le 0x20 byte && nat_lt (byte - 0x20) (length s.lines) then byte - 0x20 else s.cursor.row

abbrev pub column_past_edge : TerminalKind → ScreenState → ℕ
column_past_edge Vt52 s = last_column s
column_past_edge _ s = s.cursor.column

abbrev pub addressed_column : ℕ → ScreenState → ℕ
addressed_column byte s = if nat_le 0x20 byte && nat_lt (byte - 0x20) s.columns then byte - 0x20 else column_past_edge s.terminal s

unfoldable pub addressed : ℕ → ℕ → ScreenState → ScreenState
addressed row column s = moved_to (addressed_row row s) (addressed_column column s) s

-- VT100 user guide, HT: to the next tab stop, or to the last column
abbrev pub stop_found : Option ℕ → ScreenState → ℕ
stop_found None s = last_column s
stop_found (Some distance) s = s.cursor.column + 1 + distance

unfoldable pub tabbed : ScreenState → ScreenState
tabbed s = moved_to s.cursor.row (stop_found (position (λ stop. stop) (slice_range s.tabs (s.cursor.column + 1) s.columns)) s) s

-- VT52 user guide, Tab: to the next column that is a multiple of 8; from column 72 on by one column, to the last one
unfoldable pub tabbed_by_eight : ScreenState → ScreenState
tabbed_by_eight s =
    let next = s.cursor.column / 8 * 8 + 8 in
    moved_to s.cursor.row (if nat_lt next s.columns then next else min (last_column s) (s.cursor.column + 1)) s
