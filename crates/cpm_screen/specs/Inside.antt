-- The fields of a screen, as its state, and what is true of them.
use Rattle.std.specs.Prelude.{◌≡◌, ◌<◌, ◌≤◌, length}
use Rattle.cpm_screen.specs.declared.screen.TextScreen.TheInside.{Inside}
use Rattle.cpm_screen.specs.State.{ScreenState, IsSize}

abbrev pub screen_state_of : Inside → ScreenState
screen_state_of a =
    record {
      terminal = a.terminal;
      columns = a.columns;
      lines = a.lines.items;
      cursor = a.cursor;
      saved = a.saved;
      top = a.top;
      bottom = a.bottom;
      tabs = a.tabs;
      wrap = a.wrap;
      inserts = a.inserts;
      sequence = a.sequence;
    }

-- own: the size is one that there is; cursors and the scrolling region are within it
pub record IsScreen (a : Inside) : Type 0 where
  pub size : IsSize (length a.lines.items) a.columns
  pub row : a.cursor.row < length a.lines.items
  pub column : a.cursor.column < a.columns
  pub saved_row : a.saved.row < length a.lines.items
  pub saved_column : a.saved.column < a.columns
  pub region : a.top ≤ a.bottom
  pub bottom : a.bottom < length a.lines.items
  pub tabs : length a.tabs ≡ 132
