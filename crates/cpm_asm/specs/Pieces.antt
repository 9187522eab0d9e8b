-- The statements of a source, each with its line.
-- CP/M 2.2 Operating System Manual, "CP/M Assembler", "Program Format"
use Rattle.std.specs.Prelude.{ℕ, ◌+◌, ◌*◌, false, List, [], ◌∷◌, ◌++◌, length, map, Option, None, Some}
use Rattle.std.specs.Borrow.{Bor}
use Rattle.std.specs.Str.Lines.{lines}
use Rattle.cpm_asm.specs.Lines.{line_code, parts, parts_behind, source_text}
use Rattle.cpm_asm.specs.declared.pieces.Piece.{Piece}
use Rattle.cpm_asm.specs.declared.pieces.Pieces.{Pieces}

-- a statement's text, and its line
pub record NumberedStatement : Type 0 where
  pub line : ℕ
  pub text : List ℕ

abbrev pub numbered_statement : ℕ → List ℕ → NumberedStatement
numbered_statement line text = record { line = line; text = text }

-- ! outside quotes separates statements
abbrev pub bang : ℕ
bang = 0x21

abbrev pub in_line : ℕ → List (List ℕ) → List NumberedStatement
in_line line texts = map (numbered_statement line) texts

-- the statements of lines, of which the first has the number after this one
abbrev pub pieces_after : ℕ → List (List ℕ) → List NumberedStatement
pieces_after line [] = []
pieces_after line (l ∷ ls) = in_line (line + 1) (parts bang false (line_code l)) ++ pieces_after (line + 1) ls

-- the statements of a source
unfoldable pub pieces : List ℕ → List NumberedStatement
pieces source = pieces_after 0 (lines (source_text source))

abbrev pub seen_piece : Piece → NumberedStatement
seen_piece p = numbered_statement p.line p.text.now

-- what is left: statements of the line that was begun, and of the lines after it
abbrev pub statements_left : Pieces → List NumberedStatement
statements_left p = in_line p.line (parts_behind bang p.behind) ++ pieces_after p.line (lines p.rest.now)

abbrev pub bytes_behind : Option (Bor (List ℕ)) → ℕ
bytes_behind None = 0
bytes_behind (Some text) = 1 + length text.now

-- a number that falls from statement to statement
abbrev pub bytes_left : Pieces → ℕ
bytes_left p = 2 * length p.rest.now + bytes_behind p.behind
