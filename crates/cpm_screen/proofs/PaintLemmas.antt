-- Rows that are painted cell by cell.
use Rattle.std.proofs.Common.{◌≡◌, ℕ, ◌+◌, ◌-◌, ◌<◌, ◌≤◌, Bool, true, false, List, [], ◌∷◌, ◌++◌, length, take, drop, get_or, set, replicate, sym, refl, ap, ◌∙◌, arith}
use Rattle.std.specs.Prelude.{map, nat_le, ◌==◌, ◌&&◌, if◌then◌else◌}
use Rattle.std.proofs.lemmas.List.{length-take, length-drop, length-append, length-map, append_assoc, append-nil, take_more, drop_more, take_at, set_at, get_or_at, get_or-map, drop-drop, drop_all, drop-replicate, take-append-drop, take_all}
use Rattle.std.proofs.lemmas.Bool.Decides.{nat_tests}
use Rattle.cpm_screen.specs.declared.cell.Attributes.{Attributes}
use Rattle.cpm_screen.specs.declared.cell.CharacterSet.{CharacterSet}
use Rattle.cpm_screen.specs.declared.cell.CharacterSet.TheVariants.{Ascii, Drawing}
use Rattle.cpm_screen.specs.declared.cell.ScreenCell.{ScreenCell}
use Rattle.cpm_screen.specs.declared.cell.TheConstants.{PLAIN, BLANK}
use Rattle.cpm_screen.specs.Rows.{with_row, with_cell, cells_erased, erased_cells}
use Rattle.cpm_screen.specs.State.{ScreenState, IsSize}
use Rattle.cpm_screen.specs.Ansi.{AnsiScreen, ansi_after}
use Rattle.cpm_screen.specs.Painting.{seen, seen_row, seen_rows, seen_screen, stand_in_of, drawn_stand_in, painted_first, half_rows, at_rest, rows_painted, cells_painted, cell_bytes, tail_bytes, move_change, look_change}
use Rattle.cpm_screen.proofs.AnsiLemmas.{ansi_parts, cell_painted, tail_painted, move_changed, look_changed}

module _ {X : Type 0} (from to : List X) (n : ℕ) (d : X) (in_from : n < length from) (in_to : n < length to) where
  size_first : length (take n to) ≡ n
  size_first = simp length-take (omega arith)

  -- one element more
  first_same : get_or to n d ≡ get_or from n d → painted_first (n + 1) from to ≡ painted_first n from to
  first_same same =
      ap (λ (ys : List X). ys ++ drop (n + 1) from) (take_more to n d in_to)
      ∙ append_assoc (take n to) (get_or to n d ∷ []) (drop (n + 1) from)
      ∙ ap (λ (x : X). take n to ++ x ∷ drop (n + 1) from) same
      ∙ ap (λ (ys : List X). take n to ++ ys) (sym (drop_more from n d in_from))

  pub first_set : set (painted_first n from to) n (get_or to n d) ≡ painted_first (n + 1) from to
  first_set =
      ap (λ (ys : List X). set (take n to ++ ys) n (get_or to n d)) (drop_more from n d in_from)
      ∙ set_at (take n to) (get_or from n d) (drop (n + 1) from) (get_or to n d) n size_first
      ∙ sym (append_assoc (take n to) (get_or to n d ∷ []) (drop (n + 1) from))
      ∙ ap (λ (ys : List X). ys ++ drop (n + 1) from) (sym (take_more to n d in_to))

module _ (from to : List (List ScreenCell)) (row : ℕ) (in_from : row < length from) (in_to : row < length to) where
  -- the row that is being painted
  abbrev old_row : List ScreenCell
  old_row = get_or from row []

  abbrev new_row : List ScreenCell
  new_row = get_or to row []

  row_begun : half_rows row 0 from to ≡ painted_first row from to
  unfolding half_rows
  row_begun = ap (λ (ys : List (List ScreenCell)). take row to ++ ys) (sym (drop_more from row [] in_from))

  row_ended : (column : ℕ) → painted_first column old_row new_row ≡ new_row → half_rows row column from to ≡ painted_first (row + 1) from to
  unfolding half_rows
  row_ended column whole =
      ap (λ (x : List ScreenCell). take row to ++ x ∷ drop (row + 1) from) whole
      ∙ sym (append_assoc (take row to) (new_row ∷ []) (drop (row + 1) from))
      ∙ ap (λ (ys : List (List ScreenCell)). ys ++ drop (row + 1) from) (sym (take_more to row [] in_to))

  with_row_half : (column : ℕ) (change : List ScreenCell → List ScreenCell)
      → with_row row change (half_rows row column from to) ≡ take row to ++ change (painted_first column old_row new_row) ∷ drop (row + 1) from
  unfolding half_rows with_row
  with_row_half column change =
      let size = size_first from to row [] in_from in_to in
      let half : List ScreenCell = painted_first column old_row new_row in
      let here = get_or_at (take row to) half (drop (row + 1) from) [] row size in
      rw here (set_at (take row to) half (drop (row + 1) from) (change half) row size)

  half_same : (column : ℕ) (d : ScreenCell) → column < length old_row → column < length new_row → get_or new_row column d ≡ get_or old_row column d
      → half_rows row (column + 1) from to ≡ half_rows row column from to
  unfolding half_rows
  half_same column d in_old in_new same =
      ap (λ (x : List ScreenCell). take row to ++ x ∷ drop (row + 1) from) (first_same old_row new_row column d in_old in_new same)

  half_set : (column : ℕ) (d : ScreenCell) → column < length old_row → column < length new_row
      → with_row row (with_cell column (get_or new_row column d)) (half_rows row column from to) ≡ half_rows row (column + 1) from to
  unfolding half_rows
  half_set column d in_old in_new =
      with_row_half column (with_cell column (get_or new_row column d))
      ∙ ap (λ (x : List ScreenCell). take row to ++ x ∷ drop (row + 1) from) (first_set old_row new_row column d in_old in_new)

  pub half_size : (column : ℕ) → row < length (half_rows row column from to)
  unfolding half_rows
  half_size column =
      let size = size_first from to row [] in_from in_to in
      omega (arith, length-append (take row to) (painted_first column old_row new_row ∷ drop (row + 1) from), size)

erased_is : (half row : List ScreenCell) (end n : ℕ) → take end half ≡ take end row → replicate (n - end) BLANK ≡ drop end row → drop n half ≡ []
    → erased_cells end n half ≡ row
unfolding erased_cells
erased_is half row end n front blank back =
    ap (λ (ys : List ScreenCell). ys ++ replicate (n - end) BLANK ++ drop n half) front
    ∙ ap (λ (ys : List ScreenCell). take end row ++ ys ++ drop n half) blank
    ∙ ap (λ (ys : List ScreenCell). take end row ++ drop end row ++ ys) back
    ∙ append-nil (take end row ++ drop end row) ∙ take-append-drop end row

drawn_by : (a b c d e f : Bool) → (n : ℕ)
    → n ≡ (if a then 0x20 else (if b then 0x23 else (if c then 0x7C else (if d then 0x2E else (if e then 0x2D else (if f then 0x2B else 0x2A))))))
    → (0x20 ≤ n) × (n ≤ 0x7E)
drawn_by true b c d e f n is = (omega arith, omega arith)
drawn_by false true c d e f n is = (omega arith, omega arith)
drawn_by false false true d e f n is = (omega arith, omega arith)
drawn_by false false false true e f n is = (omega arith, omega arith)
drawn_by false false false false true f n is = (omega arith, omega arith)
drawn_by false false false false false true n is = (omega arith, omega arith)
drawn_by false false false false false false n is = (omega arith, omega arith)

drawn_printable : (n : ℕ) → (0x20 ≤ drawn_stand_in n) × (drawn_stand_in n ≤ 0x7E)
unfolding drawn_stand_in
drawn_printable n =
    drawn_by (n == 0x5F) (n == 0x61) (n == 0x78) (n == 0x7E) (nat_le 0x6F n && nat_le n 0x73) (nat_le 0x6A n && nat_le n 0x77) _ refl

plain_by : (n : ℕ) (a b : Bool) → nat_le 0x20 n ≡ a → nat_le n 0x7E ≡ b → (0x20 ≤ (if a && b then n else 0x3F)) × ((if a && b then n else 0x3F) ≤ 0x7E)
plain_by n true true low high = (grind (arith, nat_tests), grind (arith, nat_tests))
plain_by n true false low high = (omega arith, omega arith)
plain_by n false b low high = (omega arith, omega arith)

stand_in_printable : (set : CharacterSet) (n : ℕ) → (0x20 ≤ stand_in_of set n) × (stand_in_of set n ≤ 0x7E)
stand_in_printable Drawing n = drawn_printable n
stand_in_printable Ascii n = plain_by n (nat_le 0x20 n) (nat_le n 0x7E) refl refl

seen_printable : (cell : ScreenCell) → (0x20 ≤ (seen cell).character) × ((seen cell).character ≤ 0x7E)
unfolding seen
seen_printable cell = stand_in_printable cell.set cell.character

seen_plain : (cell : ScreenCell) → (seen cell).set ≡ Ascii
unfolding seen
seen_plain cell = refl

seen_look : (cell : ScreenCell) → (seen cell).attributes ≡ cell.attributes
unfolding seen
seen_look cell = refl

-- a row of a screen, as it is seen
pub row_seen : (s : ScreenState) (row : ℕ) → row < length s.lines → get_or (seen_rows s) row [] ≡ map seen (take s.columns (get_or s.lines row []))
unfolding seen_rows
row_seen s row within = get_or-map (seen_row s) s.lines row [] [] within

pub count_seen : (s : ScreenState) → length (seen_rows s) ≡ length s.lines
unfolding seen_rows
count_seen s = length-map s.lines (seen_row s)

-- what is known of a row while it is painted
pub record IsPainting (s t : ScreenState) (row : ℕ) (from to : List ScreenCell) : Type 0 where
  pub in_from : row < length s.lines
  pub in_to : row < length t.lines
  pub few : row < 999
  pub narrow : s.columns ≤ 132
  pub old : from ≡ take s.columns (get_or s.lines row [])
  pub new : to ≡ take t.columns (get_or t.lines row [])
  pub columns : s.columns ≡ t.columns
  pub old_size : length from ≡ s.columns
  pub new_size : length to ≡ s.columns

pub painting_known : (s t : ScreenState) (row : ℕ) (from to : List ScreenCell) → s.columns ≡ t.columns → row < length s.lines → row < length t.lines
    → IsSize (length t.lines) t.columns → from ≡ take s.columns (get_or s.lines row []) → length from ≡ s.columns
    → to ≡ take t.columns (get_or t.lines row []) → length to ≡ t.columns → IsPainting s t row from to
painting_known s t row from to columns in_from in_to size old old_size new new_size =
    let few = size.few_rows in
    let narrow = size.few_columns in
    record {
      in_from = in_from;
      in_to = in_to;
      few = omega arith;
      narrow = omega arith;
      old = old;
      new = new;
      columns = columns;
      old_size = old_size;
      new_size = omega arith;
    }

-- the cell that a read past the end of a row would give
abbrev pub zero_cell : ScreenCell
zero_cell = record { character = 0; set = Ascii; attributes = PLAIN }

module _ (s t : ScreenState) (row : ℕ) (from to : List ScreenCell) (known : IsPainting s t row from to) where
  abbrev old_seen : List (List ScreenCell)
  old_seen = seen_rows s

  abbrev new_seen : List (List ScreenCell)
  new_seen = seen_rows t

  in_old : row < length old_seen
  in_old = omega (arith, count_seen s)

  in_new : row < length new_seen
  in_new = omega (arith, count_seen t)

  old_is : get_or old_seen row [] ≡ map seen from
  old_is = row_seen s row known.in_from ∙ ap (λ (ys : List ScreenCell). map seen ys) (sym known.old)

  new_is : get_or new_seen row [] ≡ map seen to
  new_is = row_seen t row known.in_to ∙ ap (λ (ys : List ScreenCell). map seen ys) (sym known.new)

  old_width : length (get_or old_seen row []) ≡ s.columns
  old_width = ap length old_is ∙ length-map from seen ∙ known.old_size

  new_width : length (get_or new_seen row []) ≡ s.columns
  new_width = ap length new_is ∙ length-map to seen ∙ known.new_size

  new_cell : (column : ℕ) (d : ScreenCell) → column < s.columns → get_or (get_or new_seen row []) column BLANK ≡ seen (get_or to column d)
  new_cell column d inside = ap (λ (ys : List ScreenCell). get_or ys column BLANK) new_is ∙ get_or-map seen to column d BLANK (omega arith)

  old_cell : (column : ℕ) (d : ScreenCell) → column < s.columns → get_or (get_or old_seen row []) column BLANK ≡ seen (get_or from column d)
  old_cell column d inside = ap (λ (ys : List ScreenCell). get_or ys column BLANK) old_is ∙ get_or-map seen from column d BLANK (omega arith)

  -- the row begins
  pub painting_begun : (bytes : List ℕ) (f : AnsiScreen) (r c : ℕ) (look : Attributes)
      → ansi_after bytes f ≡ rows_painted row s t r c look → ansi_after bytes f ≡ cells_painted row 0 s t r c look
  unfolding rows_painted cells_painted
  painting_begun bytes f r c look h =
      h ∙ ap (λ (ls : List (List ScreenCell)). at_rest s.columns ls r c look) (sym (row_begun old_seen new_seen row in_old in_new))

  -- a cell that looks as before
  pub painting_same : (bytes : List ℕ) (f : AnsiScreen) (column r c : ℕ) (look : Attributes) (d e : ScreenCell) → column < s.columns
      → seen (get_or from column d) ≡ seen (get_or to column e)
      → ansi_after bytes f ≡ cells_painted row column s t r c look → ansi_after bytes f ≡ cells_painted row (column + 1) s t r c look
  unfolding cells_painted
  painting_same bytes f column r c look d e inside same h =
      let one = new_cell column e inside ∙ sym same ∙ sym (old_cell column d inside) in
      h ∙ ap (λ (ls : List (List ScreenCell)). at_rest s.columns ls r c look)
      (sym (half_same old_seen new_seen row in_old in_new column BLANK (omega (arith, old_width)) (omega (arith, new_width)) one))

  -- a cell that is painted
  pub painting_cell : (bytes : List ℕ) (f : AnsiScreen) (column r c : ℕ) (look : Attributes) (e : ScreenCell) → column < s.columns
      → ansi_after bytes f ≡ cells_painted row column s t r c look
      → ansi_after (bytes ++ cell_bytes r c look row column (seen (get_or to column e))) f ≡ cells_painted row (column + 1) s t row (column + 1) (get_or to column e).attributes
  unfolding cells_painted
  painting_cell bytes f column r c look e inside h =
      let cell : ScreenCell = get_or to column e in
      let more : List ℕ = cell_bytes r c look row column (seen cell) in
      let half : List (List ScreenCell) = half_rows row column old_seen new_seen in
      let printable = seen_printable cell in
      let done = cell_painted s.columns half r c look row column (seen cell) (half_size old_seen new_seen row in_old in_new column) inside known.few (omega arith)
      printable.0 printable.1 (seen_plain cell) in
      let put : with_row row (with_cell column (seen cell)) half ≡ half_rows row (column + 1) old_seen new_seen =
      ap (λ (x : ScreenCell). with_row row (with_cell column x) half) (sym (new_cell column e inside))
      ∙ half_set old_seen new_seen row in_old in_new column BLANK (omega (arith, old_width)) (omega (arith, new_width)) in
      ansi_parts bytes more f ∙ ap (ansi_after more) h ∙ done
      ∙ ap (λ (ls : List (List ScreenCell)). at_rest s.columns ls row (column + 1) (seen cell).attributes) put
      ∙ ap (at_rest s.columns (half_rows row (column + 1) old_seen new_seen) row (column + 1)) (seen_look cell)

  -- from an end on both rows are blank
  pub painting_ended : (bytes : List ℕ) (f : AnsiScreen) (old_end end r c : ℕ) (look : Attributes) → old_end ≤ end → end ≤ s.columns
      → drop old_end (map seen from) ≡ replicate (length from - old_end) BLANK → drop end (map seen to) ≡ replicate (length to - end) BLANK
      → ansi_after bytes f ≡ cells_painted row end s t r c look → ansi_after bytes f ≡ rows_painted (row + 1) s t r c look
  unfolding rows_painted cells_painted
  painting_ended bytes f old_end end r c look order within old_blank new_blank h =
      let n : ℕ = s.columns in
      let x : List ScreenCell = get_or new_seen row [] in
      let y : List ScreenCell = get_or old_seen row [] in
      let y1 : drop old_end y ≡ replicate (n - old_end) BLANK =
      ap (λ (ys : List ScreenCell). drop old_end ys) old_is ∙ old_blank ∙ ap (λ m. replicate (m - old_end) BLANK) known.old_size in
      let split : old_end + (end - old_end) ≡ end = omega arith in
      let left : n - old_end - (end - old_end) ≡ n - end = omega arith in
      let y2 : drop end y ≡ replicate (n - end) BLANK =
      ap (λ m. drop m y) (sym split) ∙ sym (drop-drop (end - old_end) old_end y) ∙ ap (λ (ys : List ScreenCell). drop (end - old_end) ys) y1
      ∙ drop-replicate (end - old_end) (n - old_end) BLANK ∙ ap (λ m. replicate m BLANK) left in
      let x1 : drop end x ≡ replicate (n - end) BLANK =
      ap (λ (ys : List ScreenCell). drop end ys) new_is ∙ new_blank ∙ ap (λ m. replicate (m - end) BLANK) known.new_size in
      let whole : painted_first end y x ≡ x = ap (λ (ys : List ScreenCell). take end x ++ ys) (y2 ∙ sym x1) ∙ take-append-drop end x in
      h ∙ ap (λ (ls : List (List ScreenCell)). at_rest n ls r c look) (row_ended old_seen new_seen row in_old in_new end whole)

  -- from an end on the row is erased
  pub painting_erased : (bytes : List ℕ) (f : AnsiScreen) (end r c : ℕ) (look : Attributes) → end < s.columns
      → drop end (map seen to) ≡ replicate (length to - end) BLANK
      → ansi_after bytes f ≡ cells_painted row end s t r c look
      → ansi_after (bytes ++ tail_bytes r c look row end) f ≡ rows_painted (row + 1) s t row end PLAIN
  unfolding rows_painted cells_painted
  painting_erased bytes f end r c look inside new_blank h =
      let n : ℕ = s.columns in
      let more : List ℕ = tail_bytes r c look row end in
      let half : List (List ScreenCell) = half_rows row end old_seen new_seen in
      let x : List ScreenCell = get_or new_seen row [] in
      let y : List ScreenCell = get_or old_seen row [] in
      let done = tail_painted n half r c look row end (half_size old_seen new_seen row in_old in_new end) inside known.few (omega arith) in
      let x1 : replicate (n - end) BLANK ≡ drop end x =
      sym (ap (λ (ys : List ScreenCell). drop end ys) new_is ∙ new_blank ∙ ap (λ m. replicate (m - end) BLANK) known.new_size) in
      let front : take end (painted_first end y x) ≡ take end x =
      take_at (take end x) (drop end y) end (length-take end x ∙ omega (arith, new_width)) in
      let size : length (painted_first end y x) ≡ n =
      length-append (take end x) (drop end y) ∙ omega (arith, length-take end x, length-drop end y, new_width, old_width) in
      let back : drop n (painted_first end y x) ≡ [] = drop_all n (painted_first end y x) (omega (arith, size)) in
      let row_is : erased_cells end n (painted_first end y x) ≡ x =
      erased_is (painted_first end y x) x end n front x1 back in
      let rows_are : cells_erased row end n half ≡ painted_first (row + 1) old_seen new_seen =
      with_row_half old_seen new_seen row in_old in_new end (erased_cells end n)
      ∙ ap (λ (z : List ScreenCell). take row new_seen ++ z ∷ drop (row + 1) old_seen) row_is
      ∙ sym (append_assoc (take row new_seen) (x ∷ []) (drop (row + 1) old_seen))
      ∙ ap (λ (ys : List (List ScreenCell)). ys ++ drop (row + 1) old_seen) (sym (take_more new_seen row [] in_new)) in
      ansi_parts bytes more f ∙ ap (ansi_after more) h ∙ done
      ∙ ap (λ (ls : List (List ScreenCell)). at_rest n ls row end PLAIN) rows_are

-- before anything was painted
pub painting_none : (s t : ScreenState) (bytes : List ℕ) (r c : ℕ) (look : Attributes) → bytes ≡ [] → r ≡ s.cursor.row → c ≡ s.cursor.column → look ≡ PLAIN
    → ansi_after bytes (seen_screen s) ≡ rows_painted 0 s t r c look
unfolding ansi_after seen_screen rows_painted
painting_none s t bytes r c look none a b d =
    ap (λ (bs : List ℕ). ansi_after bs (seen_screen s)) none
    ∙ ap (λ m. at_rest s.columns (seen_rows s) m s.cursor.column PLAIN) (sym a)
    ∙ ap (λ m. at_rest s.columns (seen_rows s) r m PLAIN) (sym b)
    ∙ ap (at_rest s.columns (seen_rows s) r c) (sym d)

-- when all rows are painted, the cursor goes where it is, and the attributes go out
pub painting_done : (s t : ScreenState) (bytes : List ℕ) (f : AnsiScreen) (count r c : ℕ) (look : Attributes)
    → count ≡ length t.lines → length s.lines ≡ length t.lines → s.columns ≡ t.columns → count ≤ 60 → s.columns ≤ 132
    → t.cursor.row < length t.lines → t.cursor.column < t.columns
    → ansi_after bytes f ≡ rows_painted count s t r c look
    → ansi_after (bytes ++ move_change r c t.cursor.row t.cursor.column ++ look_change look PLAIN) f ≡ seen_screen t
unfolding rows_painted seen_screen
painting_done s t bytes f count r c look all rows columns few narrow within inside h =
    let n : ℕ = s.columns in
    let b : List (List ScreenCell) = seen_rows s in
    let a : List (List ScreenCell) = seen_rows t in
    let whole : painted_first count b a ≡ a =
    ap (λ (ys : List (List ScreenCell)). ys ++ drop count b) (take_all count a (omega (arith, count_seen t)))
    ∙ ap (λ (ys : List (List ScreenCell)). a ++ ys) (drop_all count b (omega (arith, count_seen s))) ∙ append-nil a in
    let x1 : List ℕ = move_change r c t.cursor.row t.cursor.column in
    let x2 : List ℕ = look_change look PLAIN in
    let e0 = h ∙ ap (λ (ls : List (List ScreenCell)). at_rest n ls r c look) whole in
    let e1 = ansi_parts bytes x1 f ∙ ap (ansi_after x1) e0 ∙ move_changed n a r c look t.cursor.row t.cursor.column (omega (arith, count_seen t)) (omega arith) (omega arith) (omega arith) in
    ansi_parts (bytes ++ x1) x2 f ∙ ap (ansi_after x2) e1 ∙ look_changed n a t.cursor.row t.cursor.column look PLAIN
    ∙ ap (λ m. at_rest m a t.cursor.row t.cursor.column PLAIN) columns
