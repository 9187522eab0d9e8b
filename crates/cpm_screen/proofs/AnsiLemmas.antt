-- What the small ANSI terminal does on the bytes that paint.
use Rattle.std.proofs.Common.{◌≡◌, ℕ, ◌+◌, ◌-◌, ◌*◌, ◌/◌, ◌%◌, ◌<◌, ◌≤◌, Bool, true, false, List, [], ◌∷◌, ◌++◌, ◌≢◌, length, take, drop, sym, refl, ap, ◌∙◌, arith}
use Rattle.std.specs.Prelude.{fold, nat_le, nat_lt, ◌==◌, ◌&&◌, if◌then◌else◌}
use Rattle.std.proofs.lemmas.Grind.{fold-append}
use Rattle.std.proofs.lemmas.List.{take-append-drop}
use Rattle.std.proofs.lemmas.Bool.Decides.{nat_tests}
use Rattle.cpm_screen.specs.declared.cell.Attributes.{Attributes}
use Rattle.cpm_screen.specs.declared.cell.CharacterSet.TheVariants.{Ascii}
use Rattle.cpm_screen.specs.declared.cell.ScreenCell.{ScreenCell}
use Rattle.cpm_screen.specs.declared.cell.TheConstants.{PLAIN}
use Rattle.cpm_screen.specs.Rows.{with_row, with_cell, cells_erased}
use Rattle.cpm_screen.specs.Ansi.{AnsiScreen, numbers, ground, astray, ansi_after, ansi_byte, ansi_moved}
use Rattle.cpm_screen.specs.Painting.{digits, move_bytes, move_change, look_bytes, look_change, same_look, same_bool, cell_bytes, erase_bytes, tail_bytes, at_rest}

pub ansi_parts : (xs ys : List ℕ) (t : AnsiScreen) → ansi_after (xs ++ ys) t ≡ ansi_after ys (ansi_after xs t)
unfolding ansi_after
ansi_parts xs ys t = fold-append ansi_byte t xs ys

-- a terminal that went astray stays so
astray_stays : (bytes : List ℕ) (t : AnsiScreen) → t.reading ≡ astray → (fold ansi_byte t bytes).reading ≡ astray
astray_stays [] t lost = lost
astray_stays (byte ∷ bytes) t lost = astray_stays bytes (ansi_byte t byte) (rw lost refl)

pub never_astray : (bytes : List ℕ) (t : AnsiScreen) → (ansi_after bytes t).reading ≡ ground → (n : ℕ) → (ansi_after (take n bytes) t).reading ≢ astray
unfolding ansi_after
never_astray bytes t ends n lost =
    let later = astray_stays (drop n bytes) (fold ansi_byte t (take n bytes)) lost in
    let parts = fold-append ansi_byte t (take n bytes) (drop n bytes) in
    let whole : fold ansi_byte t (take n bytes ++ drop n bytes) ≡ fold ansi_byte t bytes = ap (fold ansi_byte t) (take-append-drop n bytes) in
    let same : astray ≡ ground = sym later ∙ ap (λ (f : AnsiScreen). f.reading) (sym parts ∙ whole) ∙ ends in
    absurd cc

-- a terminal that reads a number
abbrev at_number : ℕ → List (List ScreenCell) → ℕ → ℕ → Attributes → List ℕ → ℕ → AnsiScreen
at_number columns lines row column look before n =
    record { columns = columns; lines = lines; row = row; column = column; look = look; reading = numbers before n }

module _ (columns : ℕ) (lines : List (List ScreenCell)) (row column : ℕ) (look : Attributes) where
  one_digit : (before : List ℕ) (n d : ℕ) → d < 10
      → ansi_byte (at_number columns lines row column look before n) (0x30 + d) ≡ at_number columns lines row column look before (10 * n + d)
  one_digit before n d small =
      let low : nat_le 0x30 (0x30 + d) ≡ true = grind (arith, nat_tests) in
      let high : nat_le (0x30 + d) 0x39 ≡ true = grind (arith, nat_tests) in
      let back : 0x30 + d - 0x30 ≡ d = omega arith in
      rw low (rw high (rw back refl))

  digits_by : (before : List ℕ) (n : ℕ) → n < 1000 → (few some : Bool) → nat_lt n 10 ≡ few → nat_lt n 100 ≡ some
      → ansi_after (if few then (0x30 + n) ∷ [] else (if some then (0x30 + n / 10) ∷ (0x30 + n % 10) ∷ [] else (0x30 + n / 100) ∷ (0x30 + n / 10 % 10) ∷ (0x30 + n % 10) ∷ []))
      (at_number columns lines row column look before 0)
      ≡ at_number columns lines row column look before n
  unfolding ansi_after
  digits_by before n small true some is_few is_some =
      let below : n < 10 = grind (arith, nat_tests) in
      let whole : 10 * 0 + n ≡ n = omega arith in
      one_digit before 0 n below ∙ ap (λ m. at_number columns lines row column look before m) whole
  digits_by before n small false true is_few is_some =
      let below : n < 100 = grind (arith, nat_tests) in
      let whole : 10 * (10 * 0 + n / 10) + n % 10 ≡ n = omega arith in
      rw (one_digit before 0 (n / 10) (omega arith)) (one_digit before (10 * 0 + n / 10) (n % 10) (omega arith))
      ∙ ap (λ m. at_number columns lines row column look before m) whole
  digits_by before n small false false is_few is_some =
      let whole : 10 * (10 * (10 * 0 + n / 100) + n / 10 % 10) + n % 10 ≡ n = omega arith in
      rw (one_digit before 0 (n / 100) (omega arith))
      (rw (one_digit before (10 * 0 + n / 100) (n / 10 % 10) (omega arith)) (one_digit before (10 * (10 * 0 + n / 100) + n / 10 % 10) (n % 10) (omega arith)))
      ∙ ap (λ m. at_number columns lines row column look before m) whole

  digits_read : (before : List ℕ) (n : ℕ) → n < 1000
      → ansi_after (digits n) (at_number columns lines row column look before 0) ≡ at_number columns lines row column look before n
  unfolding digits
  digits_read before n small = digits_by before n small (nat_lt n 10) (nat_lt n 100) refl refl

  move_ends : (r c : ℕ) → r < length lines → c < columns
      → ansi_moved ((r + 1) ∷ (c + 1) ∷ []) (at_rest columns lines row column look) ≡ at_rest columns lines r c look
  move_ends r c within inside =
      let a : nat_le 1 (r + 1) ≡ true = grind (arith, nat_tests) in
      let b : nat_le (r + 1) (length lines) ≡ true = grind (arith, nat_tests) in
      let d : nat_le 1 (c + 1) ≡ true = grind (arith, nat_tests) in
      let e : nat_le (c + 1) columns ≡ true = grind (arith, nat_tests) in
      let f : r + 1 - 1 ≡ r = omega arith in
      let g : c + 1 - 1 ≡ c = omega arith in
      rw a (rw b (rw d (rw e (rw f (rw g refl)))))

  begun : ansi_after (0x1B ∷ 0x5B ∷ []) (at_rest columns lines row column look) ≡ at_number columns lines row column look [] 0
  unfolding ansi_after
  begun = refl

  next_number : (n : ℕ) → ansi_after (0x3B ∷ []) (at_number columns lines row column look [] n) ≡ at_number columns lines row column look (n ∷ []) 0
  unfolding ansi_after
  next_number n = refl

  move_final : (m n : ℕ) → ansi_after (0x48 ∷ []) (at_number columns lines row column look (m ∷ []) n) ≡ ansi_moved (m ∷ n ∷ []) (at_rest columns lines row column look)
  unfolding ansi_after
  move_final m n = refl

  pub moved_there : (r c : ℕ) → r < length lines → c < columns → r < 999 → c < 999
      → ansi_after (move_bytes r c) (at_rest columns lines row column look) ≡ at_rest columns lines r c look
  unfolding move_bytes
  moved_there r c within inside low left =
      let t : AnsiScreen = at_rest columns lines row column look in
      let x1 : List ℕ = 0x1B ∷ 0x5B ∷ [] in
      let x2 : List ℕ = x1 ++ digits (r + 1) in
      let x3 : List ℕ = x2 ++ 0x3B ∷ [] in
      let x4 : List ℕ = x3 ++ digits (c + 1) in
      let e2 = ansi_parts x1 (digits (r + 1)) t ∙ ap (ansi_after (digits (r + 1))) begun ∙ digits_read [] (r + 1) (omega arith) in
      let e3 = ansi_parts x2 (0x3B ∷ []) t ∙ ap (ansi_after (0x3B ∷ [])) e2 ∙ next_number (r + 1) in
      let e4 = ansi_parts x3 (digits (c + 1)) t ∙ ap (ansi_after (digits (c + 1))) e3 ∙ digits_read ((r + 1) ∷ []) (c + 1) (omega arith) in
      ansi_parts x4 (0x48 ∷ []) t ∙ ap (ansi_after (0x48 ∷ [])) e4 ∙ move_final (r + 1) (c + 1) ∙ move_ends r c within inside

  printed_there : (character : ℕ) → 0x20 ≤ character → character ≤ 0x7E → column < columns
      → ansi_after (character ∷ []) (at_rest columns lines row column look)
      ≡ at_rest columns (with_row row (with_cell column (record { character = character; set = Ascii; attributes = look })) lines) row (column + 1) look
  unfolding ansi_after
  printed_there character low high inside =
      let a : (character == 0x1B) ≡ false = grind (arith, nat_tests) in
      let b : nat_le 0x20 character ≡ true = grind (arith, nat_tests) in
      let d : nat_le character 0x7E ≡ true = grind (arith, nat_tests) in
      let e : nat_lt column columns ≡ true = grind (arith, nat_tests) in
      rw a (rw b (rw d (rw e refl)))

  change_by : (r c : ℕ) → r < length lines → c < columns → r < 999 → c < 999 → (here : Bool) → ((row == r) && (column == c)) ≡ here
      → ansi_after (if here then [] else move_bytes r c) (at_rest columns lines row column look) ≡ at_rest columns lines r c look
  unfolding ansi_after
  change_by r c within inside low left true same =
      let a : row ≡ r = grind (arith, nat_tests) in
      let b : column ≡ c = grind (arith, nat_tests) in
      ap (λ m. at_rest columns lines m column look) a ∙ ap (λ m. at_rest columns lines r m look) b
  change_by r c within inside low left false same = moved_there r c within inside low left

  pub move_changed : (r c : ℕ) → r < length lines → c < columns → r < 999 → c < 999
      → ansi_after (move_change row column r c) (at_rest columns lines row column look) ≡ at_rest columns lines r c look
  unfolding move_change
  move_changed r c within inside low left = change_by r c within inside low left ((row == r) && (column == c)) refl

  pub erased_there : column < columns → ansi_after erase_bytes (at_rest columns lines row column PLAIN) ≡ at_rest columns (cells_erased row column columns lines) row column PLAIN
  unfolding ansi_after
  erased_there inside =
      let e : nat_lt column columns ≡ true = grind (arith, nat_tests) in
      rw e refl

module _ (columns : ℕ) (lines : List (List ScreenCell)) (row column : ℕ) where
  pub look_by : (before : Attributes) (bold underline blink reverse : Bool)
      → ansi_after (look_bytes (record { bold = bold; underline = underline; blink = blink; reverse = reverse })) (at_rest columns lines row column before)
      ≡ at_rest columns lines row column (record { bold = bold; underline = underline; blink = blink; reverse = reverse })
  unfolding ansi_after look_bytes
  look_by before true true true true = refl
  look_by before true true true false = refl
  look_by before true true false true = refl
  look_by before true true false false = refl
  look_by before true false true true = refl
  look_by before true false true false = refl
  look_by before true false false true = refl
  look_by before true false false false = refl
  look_by before false true true true = refl
  look_by before false true true false = refl
  look_by before false true false true = refl
  look_by before false true false false = refl
  look_by before false false true true = refl
  look_by before false false true false = refl
  look_by before false false false true = refl
  look_by before false false false false = refl

  bools_same : (a b : Bool) → same_bool a b ≡ true → a ≡ b
  bools_same true true e = refl
  bools_same true false e = absurd cc
  bools_same false true e = absurd cc
  bools_same false false e = refl

  both : (a b : Bool) → (a && b) ≡ true → (a ≡ true) × (b ≡ true)
  both true true e = (refl, refl)
  both true false e = absurd cc
  both false b e = absurd cc

  looks_same : (a b : Attributes) → same_look a b ≡ true → a ≡ b
  looks_same a b e =
      let h = both _ _ e in
      let g = both _ _ h.0 in
      let f = both _ _ g.0 in
      let p = bools_same a.bold b.bold f.0 in
      let q = bools_same a.underline b.underline f.1 in
      let r = bools_same a.blink b.blink g.1 in
      let s = bools_same a.reverse b.reverse h.1 in
      λ i. record { bold = p i; underline = q i; blink = r i; reverse = s i }

  wear_by : (before after : Attributes) (same : Bool) → same_look before after ≡ same
      → ansi_after (if same then [] else look_bytes after) (at_rest columns lines row column before) ≡ at_rest columns lines row column after
  unfolding ansi_after
  wear_by before after true same = ap (at_rest columns lines row column) (looks_same before after same)
  wear_by before after false same = look_by before after.bold after.underline after.blink after.reverse

  pub look_changed : (before after : Attributes)
      → ansi_after (look_change before after) (at_rest columns lines row column before) ≡ at_rest columns lines row column after
  unfolding look_change
  look_changed before after = wear_by before after (same_look before after) refl

module _ (columns : ℕ) (lines : List (List ScreenCell)) (row column : ℕ) (look : Attributes) where
  pub cell_painted : (r c : ℕ) (cell : ScreenCell) → r < length lines → c < columns → r < 999 → c < 999 → 0x20 ≤ cell.character → cell.character ≤ 0x7E → cell.set ≡ Ascii
      → ansi_after (cell_bytes row column look r c cell) (at_rest columns lines row column look)
      ≡ at_rest columns (with_row r (with_cell c cell) lines) r (c + 1) cell.attributes
  cell_painted r c cell within inside low left first last plain =
      let t : AnsiScreen = at_rest columns lines row column look in
      let x1 : List ℕ = move_change row column r c in
      let x2 : List ℕ = x1 ++ look_change look cell.attributes in
      let e1 = move_changed columns lines row column look r c within inside low left in
      let e2 = ansi_parts x1 (look_change look cell.attributes) t ∙ ap (ansi_after (look_change look cell.attributes)) e1 ∙ look_changed columns lines r c look cell.attributes in
      let ascii = sym plain in
      let whole : record { character = cell.character; set = Ascii; attributes = cell.attributes } ≡ cell =
      λ i. record { character = cell.character; set = ascii i; attributes = cell.attributes } in
      ansi_parts x2 (cell.character ∷ []) t ∙ ap (ansi_after (cell.character ∷ [])) e2
      ∙ printed_there columns lines r c cell.attributes cell.character first last inside
      ∙ ap (λ (one : ScreenCell). at_rest columns (with_row r (with_cell c one) lines) r (c + 1) cell.attributes) whole

  pub tail_painted : (r c : ℕ) → r < length lines → c < columns → r < 999 → c < 999
      → ansi_after (tail_bytes row column look r c) (at_rest columns lines row column look) ≡ at_rest columns (cells_erased r c columns lines) r c PLAIN
  tail_painted r c within inside low left =
      let t : AnsiScreen = at_rest columns lines row column look in
      let x1 : List ℕ = move_change row column r c in
      let x2 : List ℕ = x1 ++ look_change look PLAIN in
      let e1 = move_changed columns lines row column look r c within inside low left in
      let e2 = ansi_parts x1 (look_change look PLAIN) t ∙ ap (ansi_after (look_change look PLAIN)) e1 ∙ look_changed columns lines r c look PLAIN in
      ansi_parts x2 erase_bytes t ∙ ap (ansi_after erase_bytes) e2 ∙ erased_there columns lines r c PLAIN inside
