-- Lines, and the statements in a line.
-- CP/M 2.2 Operating System Manual, "CP/M Assembler", "Program Format"
use Rattle.std.specs.Prelude.{ℕ, suc, Bool, false, not, ◌==◌, ◌&&◌, if◌then◌else◌, List, [], ◌∷◌, take, Option, None, Some}
use Rattle.std.specs.Borrow.{Bor}
use Rattle.std.specs.List.{before_first, onto_first}
use Rattle.cpm_asm_expression.specs.Quotes.{is_quote}

-- 1Ah ends a source
abbrev pub ends_source : ℕ → Bool
ends_source b = b == 0x1A

abbrev pub source_text : List ℕ → List ℕ
source_text source = before_first ends_source source

-- in a quoted text after a byte
abbrev pub quoted_after : Bool → ℕ → Bool
quoted_after quoted b = if is_quote b then not quoted else quoted

-- how many bytes stand before the first sign that is in no quoted text
abbrev pub outside : ℕ → Bool → List ℕ → ℕ
outside sign quoted [] = 0
outside sign quoted (b ∷ bs) = if (b == sign) && not quoted then 0 else suc (outside sign (quoted_after quoted b) bs)

-- the parts into which a sign that is in no quoted text cuts a text
abbrev pub parts : ℕ → Bool → List ℕ → List (List ℕ)
parts sign quoted [] = [] ∷ []
parts sign quoted (b ∷ bs) = if (b == sign) && not quoted then [] ∷ parts sign false bs else onto_first b (parts sign (quoted_after quoted b) bs)

-- those of what follows a sign
abbrev pub parts_behind : ℕ → Option (Bor (List ℕ)) → List (List ℕ)
parts_behind sign None = []
parts_behind sign (Some rest) = parts sign false rest.now

-- A line without its comment: `*` as its first character makes it one, and so does `;` outside quotes what follows.
abbrev pub line_code : List ℕ → List ℕ
line_code [] = []
line_code (b ∷ bs) = if b == 0x2A then [] else take (outside 0x3B false (b ∷ bs)) (b ∷ bs)
