-- Which line of the assembler's listing shows what stands at an address. The form of the listing is own.
use Rattle.std.specs.Prelude.{ℕ, ◌==◌, ◌&&◌, Bool, false, not, eqb, if◌then◌else◌, List, [], ◌∷◌, ◌++◌, drop}
use Rattle.std.specs.List.{starts_with}
use Rattle.std.specs.Str.Lines.{lines}
use Rattle.cpm_listing.specs.Digits.{four_digits}

-- how a line begins that has this address: its four digits between spaces
abbrev pub line_head : ℕ → List ℕ
line_head pc = 0x20 ∷ four_digits pc ++ 0x20 ∷ []

-- something stands first, and it is no space
abbrev pub begins_with_text : List ℕ → Bool
begins_with_text [] = false
begins_with_text (b ∷ bs) = not (b == 0x20)

-- a line of an address that has bytes, from the seventh column on
abbrev pub has_bytes : List ℕ → List ℕ → Bool
has_bytes head line = starts_with eqb line head && begins_with_text (drop 6 line)

-- the first of the lines that has this address and bytes; where there is none, nothing
abbrev pub first_with : List ℕ → List (List ℕ) → List ℕ
first_with head [] = []
first_with head (line ∷ rest) = if has_bytes head line then line else first_with head rest

-- the line of a listing that shows the bytes at an address, without its end; where there is none, nothing. A line ends with
-- LF or CR LF
abbrev pub source_line : (listing : List ℕ) → (pc : ℕ) → List ℕ
source_line listing pc = first_with (line_head pc) (lines listing)
