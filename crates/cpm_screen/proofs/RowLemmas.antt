-- What is left where a part of a list was turned and one of its ends was filled.
use Rattle.std.proofs.Common.{◌≡◌, ℕ, ◌+◌, ◌-◌, ◌<◌, ◌≤◌, List, [], ◌∷◌, ◌++◌, length, take, drop, get_or, set, replicate, sym, refl, ap, ◌∙◌, arith}
use Rattle.std.proofs.lemmas.List.{length-set, length-take, length-drop, length-append, length-replicate, take_at, drop_at, append_assoc, drop-drop, take-take, drop-take, drop_more, set_at, replicate_more, take-append-drop}
use borrow.Rule.Slice.PartMut.{put_mid}
use Rattle.cpm_screen.specs.declared.cell.ScreenCell.{ScreenCell}
use Rattle.cpm_screen.specs.Rows.{erased_cells, closed_cells, opened_cells, erased_rows, rows_up, rows_down, blank_row, with_row}

-- a part, as what is dropped of what is taken
mid_is : {X : Type 0} (xs : List X) (at end : ℕ) → at ≤ end → take (end - at) (drop at xs) ≡ drop at (take end xs)
mid_is xs at end order =
    let e : at + (end - at) ≡ end = omega arith in
    sym (ap (λ n. drop at (take n xs)) (sym e) ∙ drop-take at (end - at) xs)

front_of : {X : Type 0} (a b c d : List X) (n : ℕ) → length a + length b ≡ n → take n (a ++ ((b ++ c) ++ d)) ≡ a ++ b
front_of a b c d n size =
    let group : a ++ ((b ++ c) ++ d) ≡ (a ++ b) ++ (c ++ d) = simp append_assoc in
    ap (λ ys. take n ys) group ∙ take_at (a ++ b) (c ++ d) n (length-append a b ∙ size)

back_of : {X : Type 0} (a b c d : List X) (n : ℕ) → length a + length b ≡ n → drop n (a ++ ((b ++ c) ++ d)) ≡ c ++ d
back_of a b c d n size =
    let group : a ++ ((b ++ c) ++ d) ≡ (a ++ b) ++ (c ++ d) = simp append_assoc in
    ap (λ ys. drop n ys) group ∙ drop_at (a ++ b) (c ++ d) n (length-append a b ∙ size)

end_of : {X : Type 0} (a b c d : List X) (n : ℕ) → length a + length b + length c ≡ n → drop n (a ++ ((b ++ c) ++ d)) ≡ d
end_of a b c d n size =
    let group : a ++ ((b ++ c) ++ d) ≡ (a ++ b ++ c) ++ d = simp append_assoc in
    ap (λ ys. drop n ys) group ∙ drop_at (a ++ b ++ c) d n (length-append (a ++ b) c ∙ ap (λ m. m + length c) (length-append a b) ∙ size)

start_of : {X : Type 0} (a b c d : List X) (n : ℕ) → length a ≡ n → take n (a ++ ((b ++ c) ++ d)) ≡ a
start_of a b c d n size = take_at a ((b ++ c) ++ d) n size

size_part : {X : Type 0} (xs : List X) (at end : ℕ) → end ≤ length xs → length (take (end - at) (drop at xs)) ≡ end - at
size_part xs at end within = simp (length-take, length-drop) (omega arith)

size_start : {X : Type 0} (xs : List X) (at : ℕ) → at ≤ length xs → length (take at xs) ≡ at
size_start xs at within = simp length-take (omega arith)

rest_is : {X : Type 0} (xs : List X) (at end : ℕ) → at ≤ end → drop (end - at) (drop at xs) ≡ drop end xs
rest_is xs at end order =
    let e : at + (end - at) ≡ end = omega arith in
    drop-drop (end - at) at xs ∙ ap (λ n. drop n xs) e

-- a part turned to the left: what stands before its last elements, and what stands after it
pub front_turned_left : {X : Type 0} (xs : List X) (at end count : ℕ) → at + count ≤ end → end ≤ length xs
    → take (end - count) (put_mid at (end - at) xs (drop count (take (end - at) (drop at xs)) ++ take count (take (end - at) (drop at xs))))
    ≡ take at xs ++ drop (at + count) (take end xs)
front_turned_left {X} xs at end count order within =
    let part : List X = take (end - at) (drop at xs) in
    let kept : drop count part ≡ drop (at + count) (take end xs) =
    ap (λ (ys : List X). drop count ys) (mid_is xs at end (omega arith)) ∙ drop-drop count at (take end xs) in
    let a : length (take at xs) ≡ at = size_start xs at (omega arith) in
    let p : length part ≡ end - at = size_part xs at end within in
    let b : length (drop count part) ≡ end - at - count = length-drop count part ∙ ap (λ m. m - count) p in
    front_of (take at xs) (drop count part) (take count part) (drop (end - at) (drop at xs)) (end - count) (omega (arith, a, b))
    ∙ ap (λ (ys : List X). take at xs ++ ys) kept

pub back_turned_left : {X : Type 0} (xs : List X) (at end count : ℕ) → at + count ≤ end → end ≤ length xs
    → drop end (put_mid at (end - at) xs (drop count (take (end - at) (drop at xs)) ++ take count (take (end - at) (drop at xs)))) ≡ drop end xs
back_turned_left {X} xs at end count order within =
    let part : List X = take (end - at) (drop at xs) in
    let a : length (take at xs) ≡ at = size_start xs at (omega arith) in
    let p : length part ≡ end - at = size_part xs at end within in
    let b : length (drop count part) ≡ end - at - count = length-drop count part ∙ ap (λ m. m - count) p in
    let c : length (take count part) ≡ count = length-take count part ∙ (let h : count ≤ length part = omega (arith, p) in omega arith) in
    end_of (take at xs) (drop count part) (take count part) (drop (end - at) (drop at xs)) end (omega (arith, a, b, c))
    ∙ rest_is xs at end (omega arith)

-- a part turned to the right: what stands before it, and what stands after its first elements
pub front_turned_right : {X : Type 0} (xs : List X) (at end count size : ℕ) → at + count ≤ end → end ≤ length xs
    → take at (put_mid at (end - at) xs (drop (size - count) (take (end - at) (drop at xs)) ++ take (size - count) (take (end - at) (drop at xs)))) ≡ take at xs
front_turned_right {X} xs at end count size order within =
    let part : List X = take (end - at) (drop at xs) in
    start_of (take at xs) (drop (size - count) part) (take (size - count) part) (drop (end - at) (drop at xs)) at (size_start xs at (omega arith))

pub back_turned_right : {X : Type 0} (xs : List X) (at end count size : ℕ) → at + count ≤ end → end ≤ length xs → size ≡ end - at
    → drop (at + count) (put_mid at (end - at) xs (drop (size - count) (take (end - at) (drop at xs)) ++ take (size - count) (take (end - at) (drop at xs))))
    ≡ drop at (take (end - count) xs) ++ drop end xs
back_turned_right {X} xs at end count size order within whole =
    let part : List X = take (end - at) (drop at xs) in
    let a : length (take at xs) ≡ at = size_start xs at (omega arith) in
    let p : length part ≡ end - at = size_part xs at end within in
    let b : length (drop (size - count) part) ≡ count = length-drop (size - count) part ∙ omega (arith, p) in
    let less : end - count - at ≡ size - count = omega arith in
    let kept : take (size - count) part ≡ drop at (take (end - count) xs) =
    take-take (size - count) (end - at) (drop at xs) (omega arith)
    ∙ ap (λ n. take n (drop at xs)) (sym less) ∙ mid_is xs at (end - count) (omega arith) in
    back_of (take at xs) (drop (size - count) part) (take (size - count) part) (drop (end - at) (drop at xs)) (at + count) (omega (arith, a, b))
    ∙ ap (λ (ys : List X). ys ++ drop (end - at) (drop at xs)) kept
    ∙ ap (λ (ys : List X). drop at (take (end - count) xs) ++ ys) (rest_is xs at end (omega arith))

-- a gap closed and opened in a row
pub closed_is : (row turned : List ScreenCell) (at end count : ℕ) → at + count ≤ end → end ≤ length row
    → turned ≡ drop count (take (end - at) (drop at row)) ++ take count (take (end - at) (drop at row))
    → erased_cells (end - count) end (put_mid at (end - at) row turned) ≡ closed_cells at end count row
unfolding erased_cells closed_cells
closed_is row turned at end count order within turning =
    let size : end - (end - count) ≡ count = omega arith in
    let f = front_turned_left row at end count order within in
    let b = back_turned_left row at end count order within in
    rw turning (rw size (rw f (rw b refl)))

pub opened_is : (row turned : List ScreenCell) (at end count size : ℕ) → at + count ≤ end → end ≤ length row → size ≡ end - at
    → turned ≡ drop (size - count) (take (end - at) (drop at row)) ++ take (size - count) (take (end - at) (drop at row))
    → erased_cells at (at + count) (put_mid at (end - at) row turned) ≡ opened_cells at end count row
unfolding erased_cells opened_cells
opened_is row turned at end count size order within whole turning =
    let less : at + count - at ≡ count = omega arith in
    let f = front_turned_right row at end count size order within in
    let b = back_turned_right row at end count size order within whole in
    rw turning (rw less (rw f (rw b (simp append_assoc))))

-- rows moved up and down
pub moved_up_is : (rows turned : List (List ScreenCell)) (top bottom count : ℕ) → top + count ≤ bottom + 1 → bottom < length rows
    → turned ≡ drop count (take (bottom + 1 - top) (drop top rows)) ++ take count (take (bottom + 1 - top) (drop top rows))
    → erased_rows (bottom + 1 - count) (bottom + 1) (put_mid top (bottom + 1 - top) rows turned) ≡ rows_up top bottom count rows
unfolding erased_rows rows_up
moved_up_is rows turned top bottom count order within turning =
    let size : bottom + 1 - (bottom + 1 - count) ≡ count = omega arith in
    let f = front_turned_left rows top (bottom + 1) count order (omega arith) in
    let b = back_turned_left rows top (bottom + 1) count order (omega arith) in
    rw turning (rw size (rw f (rw b refl)))

pub moved_down_is : (rows turned : List (List ScreenCell)) (top bottom count size : ℕ) → top + count ≤ bottom + 1 → bottom < length rows → size ≡ bottom + 1 - top
    → turned ≡ drop (size - count) (take (bottom + 1 - top) (drop top rows)) ++ take (size - count) (take (bottom + 1 - top) (drop top rows))
    → erased_rows top (top + count) (put_mid top (bottom + 1 - top) rows turned) ≡ rows_down top bottom count rows
unfolding erased_rows rows_down
moved_down_is rows turned top bottom count size order within whole turning =
    let less : top + count - top ≡ count = omega arith in
    let f = front_turned_right rows top (bottom + 1) count size order (omega arith) in
    let b = back_turned_right rows top (bottom + 1) count size order (omega arith) whole in
    rw turning (rw less (rw f (rw b (simp append_assoc))))

-- one row more erased
pub erased_none : (rows : List (List ScreenCell)) (from : ℕ) → rows ≡ erased_rows from from rows
unfolding erased_rows
erased_none rows from =
    let e : from - from ≡ 0 = omega arith in
    sym (ap (λ n. take from rows ++ replicate n blank_row ++ drop from rows) e ∙ simp append_assoc (take-append-drop from rows))

pub erased_more : (rows : List (List ScreenCell)) (from to : ℕ) → from ≤ to → to < length rows
    → set (erased_rows from to rows) to blank_row ≡ erased_rows from (to + 1) rows
unfolding erased_rows
erased_more rows from to order within =
    let blanks : List (List ScreenCell) = replicate (to - from) blank_row in
    let here : drop to rows ≡ get_or rows to [] ∷ drop (to + 1) rows = drop_more rows to [] within in
    let size : length (take from rows ++ blanks) ≡ to =
    length-append (take from rows) blanks ∙ omega (arith, size_start rows from (omega arith), length-replicate (to - from) blank_row) in
    let next : to - from + 1 ≡ to + 1 - from = omega arith in
    let one : blanks ++ blank_row ∷ [] ≡ replicate (to + 1 - from) blank_row =
    replicate_more (to - from) blank_row ∙ ap (λ n. replicate n blank_row) next in
    ap (λ (ys : List (List ScreenCell)). set (take from rows ++ blanks ++ ys) to blank_row) here
    ∙ set_at (take from rows ++ blanks) (get_or rows to []) (drop (to + 1) rows) blank_row to size
    ∙ sym (append_assoc (take from rows ++ blanks) (blank_row ∷ []) (drop (to + 1) rows))
    ∙ ap (λ (ys : List (List ScreenCell)). ys ++ drop (to + 1) rows) (append_assoc (take from rows) blanks (blank_row ∷ []))
    ∙ ap (λ (ys : List (List ScreenCell)). take from rows ++ ys ++ drop (to + 1) rows) one

pub length-erased_rows : (rows : List (List ScreenCell)) (from to : ℕ) → from ≤ to → to ≤ length rows → length (erased_rows from to rows) ≡ length rows
unfolding erased_rows
length-erased_rows rows from to order within =
    simp (length-append, length-replicate, length-drop, length-take) (omega arith)

pub ruleset turning = (closed_is, opened_is, moved_up_is, moved_down_is, length-erased_rows)

pub ruleset erasing = (erased_none, erased_more, length-erased_rows)

-- as many rows as before
pub length-rows_up : (rows : List (List ScreenCell)) (top bottom count : ℕ) → top + count ≤ bottom + 1 → bottom < length rows
    → length (rows_up top bottom count rows) ≡ length rows
unfolding rows_up
length-rows_up rows top bottom count order within =
    simp (length-append, length-replicate, length-drop, length-take) (omega arith)

pub length-rows_down : (rows : List (List ScreenCell)) (top bottom count : ℕ) → top + count ≤ bottom + 1 → bottom < length rows
    → length (rows_down top bottom count rows) ≡ length rows
unfolding rows_down
length-rows_down rows top bottom count order within =
    simp (length-append, length-replicate, length-drop, length-take) (omega arith)

pub length-with_row : (rows : List (List ScreenCell)) (row : ℕ) (change : List ScreenCell → List ScreenCell) → length (with_row row change rows) ≡ length rows
unfolding with_row
length-with_row rows row change = length-set rows row (change (get_or rows row []))

pub ruleset sizes = (length-rows_up, length-rows_down, length-with_row, length-erased_rows)
