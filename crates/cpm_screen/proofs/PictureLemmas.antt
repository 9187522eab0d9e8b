-- Screens as lines of text and as pages.
use Rattle.std.proofs.Common.{◌≡◌, ◌≢◌, ℕ, ◌+◌, ◌-◌, ◌<◌, ◌≤◌, Bool, true, false, List, [], ◌∷◌, ◌++◌, length, take, drop, get_or, sym, refl, ap, ◌∙◌, arith}
use Rattle.std.specs.Prelude.{map, ◌==◌}
use Rattle.std.specs.List.{flat_map}
use Rattle.std.proofs.lemmas.List.{append_assoc, take_more, drop_more, flat_map_more, length-map, get_or-map}
use Rattle.std.proofs.lemmas.Bool.Decides.{nat_tests}
use Rattle.cpm_screen.specs.declared.cell.Attributes.{Attributes}
use Rattle.cpm_screen.specs.declared.cell.ScreenCell.{ScreenCell}
use Rattle.cpm_screen.specs.declared.cell.TheConstants.{PLAIN}
use Rattle.cpm_screen.specs.Painting.{seen}
use Rattle.cpm_screen.specs.Pictures.{kept_before, without_end_spaces, seen_character, cells_page, escaped, span_change}

-- a space at the end counts for nothing
pub space_ended : (cs : List ℕ) (c : ℕ) → c ≡ 0x20 → without_end_spaces (cs ++ c ∷ []) ≡ without_end_spaces cs
unfolding without_end_spaces
space_ended [] c is = rw is refl
space_ended (b ∷ bs) c is = ap (kept_before b) (space_ended bs c is)

-- another character ends a text
other_alone : (c : ℕ) (same : Bool) → (c == 0x20) ≡ same → c ≢ 0x20 → kept_before c [] ≡ c ∷ []
other_alone c true is other = absurd (other (let e : c ≡ 0x20 = grind (arith, nat_tests) in e))
other_alone c false is other = rw is refl

kept_some : (b : ℕ) (bs : List ℕ) (c : ℕ) → kept_before b (bs ++ c ∷ []) ≡ b ∷ (bs ++ c ∷ [])
kept_some b [] c = refl
kept_some b (d ∷ ds) c = refl

pub other_ended : (cs : List ℕ) (c : ℕ) → c ≢ 0x20 → without_end_spaces (cs ++ c ∷ []) ≡ cs ++ c ∷ []
unfolding without_end_spaces
other_ended [] c other = other_alone c (c == 0x20) refl other
other_ended (b ∷ bs) c other = ap (kept_before b) (other_ended bs c other) ∙ kept_some b bs c

-- the first characters of a row, one more
abbrev characters : List ScreenCell → List ℕ
characters cells = map seen_character cells

pub characters_more : (cells : List ScreenCell) (i : ℕ) (d : ScreenCell) → i < length cells
    → take (i + 1) (characters cells) ≡ take i (characters cells) ++ seen_character (get_or cells i d) ∷ []
characters_more cells i d within =
    let size = length-map cells seen_character in
    let one = take_more (characters cells) i 0 (omega (arith, size)) in
    one ∙ ap (λ (c : ℕ). take i (characters cells) ++ c ∷ []) (get_or-map seen_character cells i d 0 within)

module _ (cells : List ScreenCell) (end : ℕ) (d : ScreenCell) (some : 0 < end) (within : end ≤ length cells) where
  abbrev last : ℕ
  last = seen_character (get_or cells (end - 1) d)

  one_less : take end (characters cells) ≡ take (end - 1) (characters cells) ++ last ∷ []
  one_less =
      let back : end - 1 + 1 ≡ end = omega arith in
      ap (λ (n : ℕ). take n (characters cells)) (sym back) ∙ characters_more cells (end - 1) d (omega arith)

  pub end_passed : last ≡ 0x20 → without_end_spaces (take end (characters cells)) ≡ without_end_spaces (take (end - 1) (characters cells))
  end_passed is = ap without_end_spaces one_less ∙ space_ended (take (end - 1) (characters cells)) last is

  pub end_found : last ≢ 0x20 → without_end_spaces (take end (characters cells)) ≡ take end (characters cells)
  end_found other = ap without_end_spaces one_less ∙ other_ended (take (end - 1) (characters cells)) last other ∙ sym one_less

-- lines, one more
pub lines_more : (f : List ScreenCell → List ℕ) (before after : List ℕ) (rows : List (List ScreenCell)) (i : ℕ) → i < length rows
    → before ++ flat_map f (take i rows) ++ f (get_or rows i []) ≡ before ++ flat_map f (take (i + 1) rows)
lines_more f before after rows i within =
    flat_map_more f before (take i rows) (get_or rows i [])
    ∙ ap (λ (rs : List (List ScreenCell)). before ++ flat_map f rs) (sym (take_more rows i [] within))

-- a cell of a page, and those behind it
page_cell : (look : Attributes) (cells : List ScreenCell) (i : ℕ) (d : ScreenCell) (out : List ℕ) → i < length cells
    → out ++ cells_page look (drop i cells)
    ≡ out ++ span_change look (get_or cells i d).attributes ++ escaped (seen_character (get_or cells i d)) ++ cells_page (get_or cells i d).attributes (drop (i + 1) cells)
unfolding cells_page
page_cell look cells i d out within =
    let c : ScreenCell = get_or cells i d in
    let rest : List ℕ = cells_page c.attributes (drop (i + 1) cells) in
    ap (λ (cs : List ScreenCell). out ++ cells_page look cs) (drop_more cells i d within)
    ∙ sym (append_assoc out (span_change look c.attributes ++ escaped (seen_character c)) rest)
    ∙ ap (λ (xs : List ℕ). xs ++ rest) (sym (append_assoc out (span_change look c.attributes) (escaped (seen_character c))))

-- a line of text, and one of a page, with a cell more
pub line_grown : (cells : List ScreenCell) (i : ℕ) (d : ScreenCell) (old out : List ℕ) (s : ScreenCell) → i < length cells
    → out ≡ old ++ take i (characters cells) → s ≡ seen (get_or cells i d) → out ++ s.character ∷ [] ≡ old ++ take (i + 1) (characters cells)
line_grown cells i d old out s within so_far is =
    let chars : List ℕ = characters cells in
    ap (λ (xs : List ℕ). xs ++ s.character ∷ []) so_far
    ∙ append_assoc old (take i chars) (s.character ∷ [])
    ∙ ap (λ (x : ScreenCell). old ++ (take i chars ++ x.character ∷ [])) is
    ∙ ap (λ (xs : List ℕ). old ++ xs) (sym (characters_more cells i d within))

seen_look : (c : ScreenCell) → (seen c).attributes ≡ c.attributes
unfolding seen
seen_look c = refl

pub page_grown : (look : Attributes) (cells : List ScreenCell) (i : ℕ) (d : ScreenCell) (old out mid new : List ℕ) (s : ScreenCell) → i < length cells
    → out ++ cells_page look (drop i cells) ≡ old ++ cells_page PLAIN cells → s ≡ seen (get_or cells i d)
    → mid ≡ out ++ span_change look s.attributes → new ≡ mid ++ escaped s.character
    → new ++ cells_page s.attributes (drop (i + 1) cells) ≡ old ++ cells_page PLAIN cells
page_grown look cells i d old out mid new s within so_far is changed shown =
    let c : ScreenCell = get_or cells i d in
    let rest : List ScreenCell = drop (i + 1) cells in
    let look_is : s.attributes ≡ c.attributes = ap (λ (x : ScreenCell). x.attributes) is ∙ seen_look c in
    let all : new ≡ out ++ span_change look s.attributes ++ escaped s.character =
    shown ∙ ap (λ (xs : List ℕ). xs ++ escaped s.character) changed in
    ap (λ (xs : List ℕ). xs ++ cells_page s.attributes rest) all
    ∙ ap (λ (x : ScreenCell). out ++ span_change look s.attributes ++ escaped x.character ++ cells_page s.attributes rest) is
    ∙ ap (λ (a : Attributes). out ++ span_change look a ++ escaped (seen_character c) ++ cells_page a rest) look_is
    ∙ sym (page_cell look cells i d out within) ∙ so_far

-- five parts that are appended one after another
pub five_more : (o a b c d e v w x y z : List ℕ) → v ≡ o ++ a → w ≡ v ++ b → x ≡ w ++ c → y ≡ x ++ d → z ≡ y ++ e → z ≡ o ++ (a ++ b ++ c ++ d ++ e)
five_more o a b c d e v w x y z one two three four five =
    let at2 = two ∙ ap (λ (l : List ℕ). l ++ b) one ∙ append_assoc o a b in
    let at3 = three ∙ ap (λ (l : List ℕ). l ++ c) at2 ∙ append_assoc o (a ++ b) c in
    let at4 = four ∙ ap (λ (l : List ℕ). l ++ d) at3 ∙ append_assoc o (a ++ b ++ c) d in
    five ∙ ap (λ (l : List ℕ). l ++ e) at4 ∙ append_assoc o (a ++ b ++ c ++ d) e
