-- Rows of cells as lists: what is put, erased, moved up and down.
use Rattle.std.specs.Prelude.{ℕ, ◌+◌, ◌-◌, List, [], ◌++◌, take, drop, replicate, slice_set, slice_index_or}
use Rattle.cpm_screen.specs.declared.cell.ScreenCell.{ScreenCell}
use Rattle.cpm_screen.specs.declared.cell.TheConstants.{BLANK}

-- own: a row has 132 cells, of which a screen shows the first; the others stay blank
unfoldable pub blank_row : List ScreenCell
blank_row = replicate 132 BLANK

-- own: one cell put in a column
abbrev pub with_cell : ℕ → ScreenCell → List ScreenCell → List ScreenCell
with_cell column cell row = slice_set row column cell

-- own: the cells from one column up to another, without it, are blank
unfoldable pub erased_cells : ℕ → ℕ → List ScreenCell → List ScreenCell
erased_cells from to row = take from row ++ replicate (to - from) BLANK ++ drop to row

-- own: from a column on the cells move to the right, up to an end, and so many blank ones come
unfoldable pub opened_cells : ℕ → ℕ → ℕ → List ScreenCell → List ScreenCell
opened_cells at end count row = take at row ++ replicate count BLANK ++ drop at (take (end - count) row) ++ drop end row

-- own: from a column on so many cells go, the others up to an end move to the left, and blank ones come
unfoldable pub closed_cells : ℕ → ℕ → ℕ → List ScreenCell → List ScreenCell
closed_cells at end count row = take at row ++ drop (at + count) (take end row) ++ replicate count BLANK ++ drop end row

-- own: one row changed
unfoldable pub with_row : ℕ → (List ScreenCell → List ScreenCell) → List (List ScreenCell) → List (List ScreenCell)
with_row place change rows = slice_set rows place (change (slice_index_or rows place []))

abbrev pub cells_erased : ℕ → ℕ → ℕ → List (List ScreenCell) → List (List ScreenCell)
cells_erased row from to rows = with_row row (erased_cells from to) rows

abbrev pub cells_opened : ℕ → ℕ → ℕ → ℕ → List (List ScreenCell) → List (List ScreenCell)
cells_opened row at end count rows = with_row row (opened_cells at end count) rows

abbrev pub cells_closed : ℕ → ℕ → ℕ → ℕ → List (List ScreenCell) → List (List ScreenCell)
cells_closed row at end count rows = with_row row (closed_cells at end count) rows

-- own: the rows from one up to another, without it, are blank
unfoldable pub erased_rows : ℕ → ℕ → List (List ScreenCell) → List (List ScreenCell)
erased_rows from to rows = take from rows ++ replicate (to - from) blank_row ++ drop to rows

-- own: of the rows from top to bottom so many go at the top, the others move up, and blank ones come at the bottom
unfoldable pub rows_up : ℕ → ℕ → ℕ → List (List ScreenCell) → List (List ScreenCell)
rows_up top bottom count rows =
    take top rows ++ drop (top + count) (take (bottom + 1) rows) ++ replicate count blank_row ++ drop (bottom + 1) rows

-- own: of the rows from top to bottom so many go at the bottom, the others move down, and blank ones come at the top
unfoldable pub rows_down : ℕ → ℕ → ℕ → List (List ScreenCell) → List (List ScreenCell)
rows_down top bottom count rows =
    take top rows ++ replicate count blank_row ++ drop top (take (bottom + 1 - count) rows) ++ drop (bottom + 1) rows
