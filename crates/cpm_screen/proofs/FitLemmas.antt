-- Rows of a terminal that is too small.
use Rattle.std.proofs.Common.{◌≡◌, ℕ, ◌+◌, ◌-◌, ◌<◌, ◌≤◌, List, [], ◌∷◌, ◌++◌, length, take, drop, get_or, set, replicate, sym, ap, ◌∙◌, arith}
use Rattle.std.specs.Prelude.{map}
use Rattle.std.proofs.lemmas.List.{drop-replicate, drop_all, drop_more, get_or-map, length-map, length-replicate, length-take, set_at, take_all}
use Rattle.cpm_screen.specs.declared.cell.ScreenCell.{ScreenCell}
use Rattle.cpm_screen.specs.declared.cell.TheConstants.{BLANK}
use Rattle.cpm_screen.specs.Rows.{blank_row}
use Rattle.cpm_screen.specs.Painted.{plain_cell, text_row}
use Rattle.cpm_screen.specs.Painting.{painted_first}
use Rattle.cpm_screen.proofs.PaintLemmas.{first_set}

module _ (text : List ℕ) where
  abbrev cells : List ScreenCell
  cells = map plain_cell text

  pub text_more : (n : ℕ) (d : ℕ) → n < length text → length text ≤ 132
      → set (painted_first n blank_row cells) n (plain_cell (get_or text n d)) ≡ painted_first (n + 1) blank_row cells
  unfolding blank_row
  text_more n d within short =
      let size = length-map text plain_cell in
      let all = length-replicate 132 BLANK in
      ap (λ (c : ScreenCell). set (painted_first n blank_row cells) n c) (sym (get_or-map plain_cell text n d BLANK within))
      ∙ first_set blank_row cells n BLANK (omega (arith, all)) (omega (arith, size))

  pub text_whole : (n : ℕ) → n ≡ length text → length text ≤ 132 → painted_first n blank_row cells ≡ text_row text
  unfolding blank_row text_row
  text_whole n all short =
      let size = length-map text plain_cell in
      ap (λ (cs : List ScreenCell). cs ++ drop n (replicate 132 BLANK)) (take_all n cells (omega (arith, size)))
      ∙ ap (λ (cs : List ScreenCell). cells ++ cs) (drop-replicate n 132 BLANK)
      ∙ ap (λ (m : ℕ). cells ++ replicate (132 - m) BLANK) all

-- the first rows are others, and the last one is put
pub last_set : (rows others : List (List ScreenCell)) (last : ℕ) (now : List (List ScreenCell)) (row x : List ScreenCell) → last + 1 ≡ length rows
    → length rows ≤ length others → now ≡ painted_first last rows others → row ≡ x → set now last row ≡ take (length rows - 1) others ++ x ∷ []
last_set rows others last now row x count fewer now_is row_is =
    let size : length (take last others) ≡ last = length-take last others ∙ omega arith in
    let place : length rows - 1 ≡ last = omega arith in
    ap (λ (rs : List (List ScreenCell)). set rs last row) now_is
    ∙ ap (λ (rs : List (List ScreenCell)). set (take last others ++ rs) last row) (drop_more rows last [] (omega arith))
    ∙ set_at (take last others) (get_or rows last []) (drop (last + 1) rows) row last size
    ∙ ap (λ (rs : List (List ScreenCell)). take last others ++ row ∷ rs) (drop_all (last + 1) rows (omega arith))
    ∙ ap (λ (r : List ScreenCell). take last others ++ r ∷ []) row_is
    ∙ ap (λ (n : ℕ). take n others ++ x ∷ []) (sym place)
