-- Terminals that are painted whatever they show.
use Rattle.std.proofs.Common.{◌≡◌, ℕ, zero, suc, ◌+◌, ◌-◌, ◌<◌, ◌≤◌, List, [], ◌∷◌, ◌++◌, length, drop, get_or, set, replicate, sym, refl, ap, ◌∙◌, arith}
use Rattle.std.specs.Prelude.{map}
use Rattle.std.proofs.lemmas.List.{append-nil, append_assoc, drop_more, drop_all, get_or_at, set_at, length-append, length-drop, length-replicate, replicate-append-replicate, take-replicate}
use Rattle.cpm_screen.specs.declared.cell.ScreenCell.{ScreenCell}
use Rattle.cpm_screen.specs.declared.cell.TheConstants.{BLANK, PLAIN}
use Rattle.cpm_screen.specs.declared.terminal.TerminalKind.{TerminalKind}
use Rattle.cpm_screen.specs.Rows.{blank_row, with_row, cells_erased, erased_cells}
use Rattle.cpm_screen.specs.State.{ScreenState, fresh_screen}
use Rattle.cpm_screen.specs.Ansi.{AnsiScreen, ground, ansi_after}
use Rattle.cpm_screen.specs.Painting.{Paints, at_rest, erase_bytes, look_bytes, move_bytes, seen, seen_row, seen_rows, seen_screen}
use Rattle.cpm_screen.specs.Pictures.{IsAtRest, PaintsAnew, wiped_terminal}
use Rattle.cpm_screen.proofs.AnsiLemmas.{ansi_parts, erased_there, look_by, moved_there, never_astray}

-- a terminal that reads nothing is one at rest
pub ready_rests : (columns : ℕ) (t : AnsiScreen) → t.columns ≡ columns → t.reading ≡ ground → t ≡ at_rest columns t.lines t.row t.column t.look
ready_rests columns t wide rests =
    λ i. record { columns = wide i; lines = t.lines; row = t.row; column = t.column; look = t.look; reading = rests i }

pub plain_begun : (columns rows : ℕ) (t : AnsiScreen) → IsAtRest rows columns t
    → ansi_after (look_bytes PLAIN) t ≡ at_rest columns t.lines t.row t.column PLAIN
plain_begun columns rows t ready =
    ap (ansi_after (look_bytes PLAIN)) (ready_rests columns t ready.columns_are ready.rests)
    ∙ look_by columns t.lines t.row t.column t.look PLAIN.bold PLAIN.underline PLAIN.blink PLAIN.reverse

module _ (columns : ℕ) (lines : List (List ScreenCell)) (wide : 0 < columns) where
  abbrev blank_line : List ScreenCell
  blank_line = replicate columns BLANK

  abbrev wiped_lines : ℕ → List (List ScreenCell)
  wiped_lines row = replicate row blank_line ++ drop row lines

  erased_line : (cells : List ScreenCell) → length cells ≡ columns → erased_cells 0 columns cells ≡ blank_line
  unfolding erased_cells
  erased_line cells size =
      let all : columns - 0 ≡ columns = omega arith in
      ap (λ (n : ℕ). replicate n BLANK ++ drop columns cells) all
      ∙ ap (λ (cs : List ScreenCell). blank_line ++ cs) (drop_all columns cells (omega (arith, size))) ∙ append-nil blank_line

  module _ (row : ℕ) (within : row < length lines) (size : length (get_or lines row []) ≡ columns) where
    abbrev here : List ScreenCell
    here = get_or lines row []

    split : wiped_lines row ≡ replicate row blank_line ++ here ∷ drop (row + 1) lines
    split = ap (λ (ls : List (List ScreenCell)). replicate row blank_line ++ ls) (drop_more lines row [] within)

    row_wiped : cells_erased row 0 columns (wiped_lines row) ≡ wiped_lines (row + 1)
    unfolding with_row
    row_wiped =
        let front = length-replicate row blank_line in
        let read = ap (λ (ls : List (List ScreenCell)). get_or ls row []) split
        ∙ get_or_at (replicate row blank_line) here (drop (row + 1) lines) [] row front in
        let erased = ap (erased_cells 0 columns) read ∙ erased_line here size in
        ap (λ (cs : List ScreenCell). set (wiped_lines row) row cs) erased
        ∙ ap (λ (ls : List (List ScreenCell)). set ls row blank_line) split
        ∙ set_at (replicate row blank_line) here (drop (row + 1) lines) blank_line row front
        ∙ sym (append_assoc (replicate row blank_line) (blank_line ∷ []) (drop (row + 1) lines))
        ∙ ap (λ (ls : List (List ScreenCell)). ls ++ drop (row + 1) lines) (replicate-append-replicate row 1 blank_line)

    wiped_size : length (wiped_lines row) ≡ length lines
    wiped_size =
        length-append (replicate row blank_line) (drop row lines)
        ∙ omega (arith, length-replicate row blank_line, length-drop row lines)

    pub row_painted : (bytes : List ℕ) (t : AnsiScreen) (r c : ℕ) → row < 999 → ansi_after bytes t ≡ at_rest columns (wiped_lines row) r c PLAIN
        → ansi_after ((bytes ++ move_bytes row 0) ++ erase_bytes) t ≡ at_rest columns (wiped_lines (row + 1)) row 0 PLAIN
    row_painted bytes t r c low so_far =
        let moved = moved_there columns (wiped_lines row) r c PLAIN row 0 (omega (arith, wiped_size)) wide low (omega arith) in
        let one = ansi_parts bytes (move_bytes row 0) t ∙ ap (ansi_after (move_bytes row 0)) so_far ∙ moved in
        ansi_parts (bytes ++ move_bytes row 0) erase_bytes t ∙ ap (ansi_after erase_bytes) one
        ∙ erased_there columns (wiped_lines row) row 0 PLAIN wide
        ∙ ap (λ (ls : List (List ScreenCell)). at_rest columns ls row 0 PLAIN) row_wiped

  pub all_wiped : (rows : ℕ) (bytes : List ℕ) (t : AnsiScreen) (r c : ℕ) → rows ≡ length lines → 0 < rows
      → ansi_after bytes t ≡ at_rest columns (wiped_lines rows) r c PLAIN
      → ansi_after (bytes ++ move_bytes 0 0) t ≡ wiped_terminal rows columns
  all_wiped rows bytes t r c all some so_far =
      let whole : wiped_lines rows ≡ replicate rows blank_line =
      ap (λ (ls : List (List ScreenCell)). replicate rows blank_line ++ ls) (drop_all rows lines (omega arith)) ∙ append-nil (replicate rows blank_line) in
      let size = length-replicate rows blank_line in
      ansi_parts bytes (move_bytes 0 0) t
      ∙ ap (ansi_after (move_bytes 0 0)) (so_far ∙ ap (λ (ls : List (List ScreenCell)). at_rest columns ls r c PLAIN) whole)
      ∙ moved_there columns (replicate rows blank_line) r c PLAIN 0 0 (omega (arith, size)) wide (omega arith) (omega arith)

-- a terminal that was just turned on is seen blank
seen_blank : seen BLANK ≡ BLANK
unfolding seen
seen_blank = refl

map_blank : (n : ℕ) → map seen (replicate n BLANK) ≡ replicate n BLANK
map_blank zero = refl
map_blank (suc n) = λ i. seen_blank i ∷ map_blank n i

map_rows : (f : List ScreenCell → List ScreenCell) (n : ℕ) (x : List ScreenCell) → map f (replicate n x) ≡ replicate n (f x)
map_rows f zero x = refl
map_rows f (suc n) x = ap (λ (ys : List (List ScreenCell)). f x ∷ ys) (map_rows f n x)

pub seen_fresh : (k : TerminalKind) (rows columns : ℕ) → columns ≤ 132 → seen_screen (fresh_screen k rows columns) ≡ wiped_terminal rows columns
unfolding seen_screen seen_rows blank_row
seen_fresh k rows columns few =
    let s : ScreenState = fresh_screen k rows columns in
    let row : seen_row s (replicate 132 BLANK) ≡ replicate columns BLANK = ap (map seen) (take-replicate columns 132 BLANK few) ∙ map_blank columns in
    ap (λ (ls : List (List ScreenCell)). at_rest columns ls 0 0 PLAIN)
    (map_rows (seen_row s) rows (replicate 132 BLANK) ∙ ap (replicate rows) row)

-- bytes that end in a terminal at rest have not led it astray
pub anew_of : (bytes : List ℕ) (rows columns : ℕ) (to : AnsiScreen) → to.reading ≡ ground
    → ((t : AnsiScreen) → IsAtRest rows columns t → ansi_after bytes t ≡ to) → PaintsAnew bytes rows columns to
anew_of bytes rows columns to rests shows = record {
  shown = shows;
  in_language = λ t n ready. never_astray bytes t (ap (λ (f : AnsiScreen). f.reading) (shows t ready) ∙ rests) n;
}

-- a screen that is painted behind bytes which show another
pub painted_behind : (first second : List ℕ) (rows columns : ℕ) (from to : ScreenState)
    → ((t : AnsiScreen) → IsAtRest rows columns t → ansi_after first t ≡ seen_screen from) → Paints second from to
    → PaintsAnew (first ++ second) rows columns (seen_screen to)
unfolding seen_screen
painted_behind first second rows columns from to shows paints =
    anew_of (first ++ second) rows columns (seen_screen to) refl
    (λ t ready. ansi_parts first second t ∙ ap (ansi_after second) (shows t ready) ∙ paints.shown)
