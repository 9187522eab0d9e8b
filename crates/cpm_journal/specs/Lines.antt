-- The lines of a journal. All of it is own: docs/JOURNAL.md.
use Rattle.std.specs.Prelude.{◌≡◌, ◌<◌, ℕ, ◌==◌, ◌||◌, Bool, false, List, [], ◌∷◌, ◌++◌, length, Option, Some, if◌then◌else◌}
use Rattle.cpm_journal.specs.declared.lines.JournalLine.{JournalLine}
use Rattle.cpm_journal.specs.declared.lines.JournalLine.TheVariants as line

abbrev pub has_line_feed : List ℕ → Bool
has_line_feed [] = false
has_line_feed (b ∷ bs) = (b == 0x0A) || has_line_feed bs

-- the lines of a text that a line feed ends, where these bytes stand before it
abbrev pub lines_ended : (begun : List ℕ) → List ℕ → List (List ℕ)
lines_ended begun [] = []
lines_ended begun (b ∷ bs) = if b == 0x0A then begun ∷ lines_ended [] bs else lines_ended (begun ++ b ∷ []) bs

-- and what stands behind the last of them: it is torn
abbrev pub line_torn : (begun : List ℕ) → List ℕ → List ℕ
line_torn begun [] = begun
line_torn begun (b ∷ bs) = if b == 0x0A then line_torn [] bs else line_torn (begun ++ b ∷ []) bs

-- the whole lines of a journal
abbrev pub journal_lines : List ℕ → List (List ℕ)
journal_lines text = lines_ended [] text

-- lines, each with the line feed that ends it
abbrev pub lines_text : List (List ℕ) → List ℕ
lines_text [] = []
lines_text (line ∷ lines) = line ++ 0x0A ∷ lines_text lines

-- a whole line was read, and this is left behind it
pub record IsWholeLine (text : List ℕ) (rest : Option (List ℕ)) (line : List ℕ) : Type 0 where
  pub free : has_line_feed line ≡ false
  pub behind : List ℕ
  pub left : rest ≡ Some behind
  pub text_is : text ≡ line ++ 0x0A ∷ behind

-- what a reader had left, and what is left of it behind a line
abbrev pub IsJournalLine : (text : List ℕ) (rest : Option (List ℕ)) → JournalLine → Type 0
IsJournalLine text rest (line.Whole bytes) = IsWholeLine text rest bytes.items
IsJournalLine text rest (line.Torn count) = (has_line_feed text ≡ false) × (length text ≡ count) × (0 < count)
IsJournalLine text rest line.End = text ≡ []
