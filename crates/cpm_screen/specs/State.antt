-- A screen as rows of cells, a cursor and what the terminal keeps.
use Rattle.std.specs.Prelude.{◌≡◌, length, ℕ, ◌<◌, ◌≤◌, ◌%◌, ◌==◌, ◌&&◌, Bool, false, nat_le, if◌then◌else◌, List, ◌-◌, map, replicate}
use Rattle.std.specs.List.{range_with_len}
use Rattle.cpm_screen.specs.declared.terminal.TerminalKind.{TerminalKind}
use Rattle.cpm_screen.specs.declared.terminal.Wrap.{Wrap}
use Rattle.cpm_screen.specs.declared.cell.CharacterSet.{CharacterSet}
use Rattle.cpm_screen.specs.declared.cell.CharacterSet.TheVariants.{Ascii, Drawing}
use Rattle.cpm_screen.specs.declared.cell.ScreenCell.{ScreenCell}
use Rattle.cpm_screen.specs.declared.cursor.Cursor.{Cursor}
use Rattle.cpm_screen.specs.declared.cursor.TheConstants.{FRESH}
use Rattle.cpm_screen.specs.declared.action.Sequence.{Sequence}
use Rattle.cpm_screen.specs.declared.action.Sequence.TheVariants.{Text}
use Rattle.cpm_screen.specs.Cursors.{wrap_of}
use Rattle.cpm_screen.specs.Rows.{blank_row}

pub record ScreenState : Type 0 where
  pub terminal : TerminalKind
  -- how many columns it shows; the cells of a row past them stay blank
  pub columns : ℕ
  -- its rows, the uppermost first, of 132 cells each
  pub lines : List (List ScreenCell)
  -- the cursor, with the attributes and the character sets of what comes
  pub cursor : Cursor
  -- the cursor that was saved
  pub saved : Cursor
  -- the first and the last row of the scrolling region
  pub top : ℕ
  pub bottom : ℕ
  -- which columns have a tab stop
  pub tabs : List Bool
  -- what follows on a character in the last column
  pub wrap : Wrap
  -- whether a character moves those after it to the right
  pub inserts : Bool
  -- the sequence that is being read
  pub sequence : Sequence

-- own: 1 to 60 rows, and 1 to 132 columns
pub record IsSize (rows columns : ℕ) : Type 0 where
  pub some_rows : 0 < rows
  pub few_rows : rows ≤ 60
  pub some_columns : 0 < columns
  pub few_columns : columns ≤ 132

-- as many rows and columns
pub record SameSize (s t : ScreenState) : Type 0 where
  pub rows : length t.lines ≡ length s.lines
  pub columns : t.columns ≡ s.columns

-- own: tab stops in every eighth column
unfoldable pub fresh_tabs : List Bool
fresh_tabs = map (λ column. column % 8 == 0) (range_with_len 0 132)

-- own: a terminal that was just turned on
abbrev pub fresh_screen : TerminalKind → ℕ → ℕ → ScreenState
fresh_screen terminal rows columns =
    record {
      terminal = terminal;
      columns = columns;
      lines = replicate rows blank_row;
      cursor = FRESH;
      saved = FRESH;
      top = 0;
      bottom = rows - 1;
      tabs = fresh_tabs;
      wrap = wrap_of terminal;
      inserts = false;
      sequence = Text;
    }

-- the character set of what comes
abbrev pub current_set : Cursor → CharacterSet
current_set c = if c.is_shifted then c.g1 else c.g0

-- VT100 user guide, Special graphics: the bytes 5Fh to 7Eh are drawn
unfoldable pub drawn : CharacterSet → ℕ → CharacterSet
drawn Ascii character = Ascii
drawn Drawing character = if nat_le 0x5F character && nat_le character 0x7E then Drawing else Ascii

-- the cell of a character that is shown
abbrev pub cell_shown : Cursor → ℕ → ScreenCell
cell_shown c character = record { character = character; set = drawn (current_set c) character; attributes = c.attributes }
