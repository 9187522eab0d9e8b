-- The fields of a terminal that is painted, as its state, and what is true of them.
use Rattle.std.specs.Prelude.{◌≡◌, true, false, [], length}
use Rattle.cpm_screen.specs.declared.repainter.Repainter.TheInside.{Inside}
use Rattle.cpm_screen.specs.declared.terminal.TerminalKind.TheVariants.{Vt100}
use Rattle.cpm_screen.specs.State.{fresh_screen}
use Rattle.cpm_screen.specs.Painting.{seen_screen}
use Rattle.cpm_screen.specs.Painted.{PainterState}
use Rattle.cpm_screen.specs.Pictures.{PaintsAnew}

abbrev pub painter_state_of : Inside → PainterState
painter_state_of a = record {
  rows = length a.shown.lines;
  columns = a.shown.columns;
  given = a.given.bytes;
  shown = seen_screen a.shown;
}

-- own: the next screen has the size of the terminal, which is blank before the first one, and shows what was painted last
pub record IsRepainter (a : Inside) : Type 0 where
  pub rows : length a.next.lines ≡ length a.shown.lines
  pub columns : a.next.columns ≡ a.shown.columns
  pub blank : a.is_begun ≡ false → a.shown ≡ fresh_screen Vt100 (length a.shown.lines) a.shown.columns
  pub none : a.is_begun ≡ false → a.given.bytes ≡ []
  pub shows : a.is_begun ≡ true → PaintsAnew a.given.bytes (length a.shown.lines) a.shown.columns (seen_screen a.shown)
