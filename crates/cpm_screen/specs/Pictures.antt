-- A screen as the bytes of a file: as text, as bytes that paint it, and as a page for a browser.
use Rattle.std.specs.Prelude.{nat_eq, ◌≡◌, ◌≢◌, ◌<◌, ℕ, ◌==◌, Bool, if◌then◌else◌, List, [], ◌∷◌, ◌++◌, codes, map, length, replicate, slice_index_or, take}
use Rattle.std.specs.List.{ends_with, flat_map}
use Rattle.cpm_screen.specs.declared.cell.Attributes.{Attributes}
use Rattle.cpm_screen.specs.declared.cell.ScreenCell.{ScreenCell}
use Rattle.cpm_screen.specs.declared.cell.TheConstants.{BLANK, PLAIN}
use Rattle.cpm_screen.specs.declared.picture.ScreenForm.{ScreenForm}
use Rattle.cpm_screen.specs.declared.picture.ScreenForm.TheVariants.{Text, Painting, Page}
use Rattle.cpm_screen.specs.State.{ScreenState}
use Rattle.cpm_screen.specs.Ansi.{AnsiScreen, ground, astray, ansi_after, is_plain_look}
use Rattle.cpm_screen.specs.Painting.{at_rest, same_look, seen, seen_screen}

-- own: the form of a file by its name
abbrev pub form_named : List ℕ → ScreenForm
form_named name =
    if ends_with nat_eq name (codes ".ans") then Painting else (if ends_with nat_eq name (codes ".html") then Page else Text)

-- own: text without the spaces at its end
abbrev pub kept_before : ℕ → List ℕ → List ℕ
kept_before character [] = if character == 0x20 then [] else character ∷ []
kept_before character (c ∷ cs) = character ∷ c ∷ cs

unfoldable pub without_end_spaces : List ℕ → List ℕ
without_end_spaces [] = []
without_end_spaces (c ∷ cs) = kept_before c (without_end_spaces cs)

-- the character that a person sees
abbrev pub seen_character : ScreenCell → ℕ
seen_character c = (seen c).character

-- own: a row as a line of text
unfoldable pub row_text : List ScreenCell → List ℕ
row_text row = without_end_spaces (map seen_character row) ++ 0x0A ∷ []

abbrev pub screen_text : ScreenState → List ℕ
screen_text s = flat_map (λ row. row_text (take s.columns row)) s.lines

-- HTML standard, Writing HTML documents: a character of text
unfoldable pub escaped : ℕ → List ℕ
escaped c =
    if c == 0x26 then codes "&amp;"
    else (if c == 0x3C then codes "&lt;"
    else (if c == 0x3E then codes "&gt;"
    else (if c == 0x22 then codes "&quot;" else c ∷ [])))

abbrev pub word_if : Bool → List ℕ → List ℕ
word_if on word = if on then word else []

-- own: the ends and the beginnings of the spans that show attributes
unfoldable pub span_ended : Attributes → List ℕ
span_ended a = if is_plain_look a then [] else codes "</span>"

unfoldable pub span_begun : Attributes → List ℕ
span_begun a =
    if is_plain_look a then []
    else codes "<span class=\"" ++ word_if a.bold (codes "bold ") ++ word_if a.underline (codes "underline ") ++ word_if a.blink (codes "blink ")
    ++ word_if a.reverse (codes "reverse ") ++ codes "\">"

unfoldable pub span_change : Attributes → Attributes → List ℕ
span_change from to = if same_look from to then [] else span_ended from ++ span_begun to

-- own: cells behind one of these attributes, up to the end of their line
unfoldable pub cells_page : Attributes → List ScreenCell → List ℕ
cells_page look [] = span_ended look ++ 0x0A ∷ []
cells_page look (cell ∷ cells) = span_change look cell.attributes ++ escaped (seen_character cell) ++ cells_page cell.attributes cells

-- own: a page whose style is in itself
unfoldable pub page_head : List ℕ
page_head =
    codes "<!DOCTYPE html>\n<html lang=\"en\"><head><meta charset=\"utf-8\"><title>screen</title><style>\nbody{background:#fff}\n"
    ++ codes "pre{display:inline-block;padding:1em;background:#111;color:#ddd;font:16px/1.25 monospace}\n"
    ++ codes ".bold{font-weight:bold;color:#fff}\n.underline{text-decoration:underline}\n.reverse{background:#ddd;color:#111}\n"
    ++ codes ".blink{animation:blink 1s step-end infinite}\n@keyframes blink{50%{opacity:.4}}\n"
    ++ codes "@media(prefers-reduced-motion:reduce){.blink{animation:none}}\n</style></head><body><pre>\n"

unfoldable pub page_foot : List ℕ
page_foot = codes "</pre></body></html>\n"

abbrev pub screen_page : ScreenState → List ℕ
screen_page s = page_head ++ flat_map (λ row. cells_page PLAIN (take s.columns row)) s.lines ++ page_foot

-- own: a terminal of so many rows and columns that reads no sequence, whatever it shows
pub record IsAtRest (rows columns : ℕ) (t : AnsiScreen) : Type 0 where
  pub columns_are : t.columns ≡ columns
  pub rows_are : length t.lines ≡ rows
  pub cells_are : (row : ℕ) → row < rows → length (slice_index_or t.lines row []) ≡ columns
  pub rests : t.reading ≡ ground

-- own: these bytes show a screen on such a terminal, whatever it showed before, and none of them leads it astray
pub record PaintsAnew (bytes : List ℕ) (rows columns : ℕ) (to : AnsiScreen) : Type 0 where
  pub shown : (t : AnsiScreen) → IsAtRest rows columns t → ansi_after bytes t ≡ to
  pub in_language : (t : AnsiScreen) (n : ℕ) → IsAtRest rows columns t → (ansi_after (take n bytes) t).reading ≢ astray

-- a blank terminal, with the cursor at home
abbrev pub wiped_terminal : ℕ → ℕ → AnsiScreen
wiped_terminal rows columns = at_rest columns (replicate rows (replicate columns BLANK)) 0 0 PLAIN

-- own: these bytes make so many rows of a terminal blank, however wide it is
abbrev pub IsWiping : List ℕ → ℕ → Type 0
IsWiping bytes rows = (columns : ℕ) (t : AnsiScreen) → 0 < columns → IsAtRest rows columns t → ansi_after bytes t ≡ wiped_terminal rows columns

-- own: the bytes of a file of this form are a screen's
abbrev pub IsPicture : ScreenForm → ScreenState → List ℕ → Type 0
IsPicture Text s bytes = bytes ≡ screen_text s
IsPicture Painting s bytes = PaintsAnew bytes (length s.lines) s.columns (seen_screen s)
IsPicture Page s bytes = bytes ≡ screen_page s
