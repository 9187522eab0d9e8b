-- Quoted text.
-- CP/M 2.2 Operating System Manual, "CP/M Assembler", "String Constants"
use Rattle.std.specs.Prelude.{ℕ, ◌+◌, ◌*◌, Bool, ◌==◌, nat_le, nat_lt, ◌&&◌, if◌then◌else◌, List}
use Rattle.std.specs.Prelude.{[], ◌∷◌, length, Option, None, Some, option_map, option_and_then}
use Rattle.cpm_asm_expression.specs.declared.quotes.QuotedPart.{QuotedPart}
use Rattle.cpm_asm_expression.specs.declared.quotes.QuotedPart.TheVariants as next

-- the apostrophe
abbrev pub is_quote : ℕ → Bool
is_quote b = b == 0x27

-- what stands next in a text after its first quote: a character, the last quote, or nothing
pub data Character : Type 0 where
  Of : ℕ → List ℕ → Character
  Last : List ℕ → Character
  Missing : Character

-- two quotes are one character
abbrev pub character : List ℕ → Character
character [] = Missing
character (b ∷ []) = if is_quote b then Last [] else Of b []
character (b ∷ c ∷ rest) = if is_quote b then (if is_quote c then Of b rest else Last (c ∷ rest)) else Of b (c ∷ rest)

abbrev pub seen_as : QuotedPart → Character
seen_as (next.Character b rest) = Of b rest.now
seen_as (next.End rest) = Last rest.now
seen_as next.Open = Missing

-- with one more character in front
abbrev pub behind_character : ℕ → Option (List ℕ × List ℕ) → Option (List ℕ × List ℕ)
behind_character b read = option_map (λ p. (b ∷ p.0, p.1)) read

-- the characters of a text after its first quote, and what follows its last quote
abbrev pub characters : List ℕ → Option (List ℕ × List ℕ)
characters [] = None
characters (b ∷ []) = if is_quote b then Some ([], []) else None
characters (b ∷ c ∷ rest) =
    if is_quote b then (if is_quote c then behind_character b (characters rest) else Some ([], c ∷ rest))
    else behind_character b (characters (c ∷ rest))

-- 1 to 64 characters
abbrev pub sized_text : Option (List ℕ × List ℕ) → Option (List ℕ × List ℕ)
sized_text read = option_and_then (λ p. if nat_lt 0 (length p.0) && nat_le (length p.0) 64 then Some p else None) read

abbrev pub quoted_text : List ℕ → Option (List ℕ × List ℕ)
quoted_text text = sized_text (characters text)

-- the value of one character or two, the first one high
abbrev pub text_number : List ℕ → Option ℕ
text_number (only ∷ []) = Some only
text_number (high ∷ low ∷ []) = Some (high * 256 + low)
text_number _ = None
