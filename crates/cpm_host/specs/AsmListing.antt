-- The listing of a source: its lines, each after the address and the bytes of its statements. All of it is own.
use Rattle.std.specs.Prelude.{ℕ, zero, suc, ◌+◌, ◌%◌, ◌==◌, Bool, not, List, [], ◌∷◌, ◌++◌, take, drop}
use Rattle.std.specs.List.{position_or_len}
use Rattle.std.specs.Str.Lines.{lines}
use Rattle.cpm_listing.specs.Digits.{four_digits, padded, two_digits}
use Rattle.cpm_asm.specs.Lines.{source_text}
use Rattle.cpm_asm.specs.Placing.{bytes_at}
use Rattle.cpm_asm.specs.declared.placed.Placement.{Placement}
use Rattle.cpm_host.specs.declared.asm_listing.Cell.{Cell}

-- ---- bytes with their addresses

-- the first at an address; 0000h is after FFFFh
abbrev pub cells_at : ℕ → List ℕ → List Cell
cells_at a [] = []
cells_at a (b ∷ bs) = record { address = a; byte = b } ∷ cells_at ((a + 1) % 65536) bs

-- those of an image at places
abbrev pub cells_of : List ℕ → List Placement → List Cell
cells_of image [] = []
cells_of image (p ∷ ps) = cells_at (p.address % 65536) (bytes_at image p) ++ cells_of image ps

-- ---- a line

-- an address in four digits, a space on each side
abbrev pub address_column : ℕ → List ℕ
address_column a = 0x20 ∷ four_digits a ++ 0x20 ∷ []

-- bytes in two digits each
abbrev pub digits_of : List Cell → List ℕ
digits_of [] = []
digits_of (c ∷ cs) = two_digits c.byte ++ digits_of cs

-- the address of the first byte, else that of the first place, if there is one
abbrev pub head : List Cell → List Placement → List ℕ
head (c ∷ cs) ps = address_column c.address
head [] (p ∷ ps) = address_column (p.address % 65536)
head [] [] = []

-- What stands before a line: an address and the first eight bytes, in 24 columns. Tabs stop at each eighth column.
abbrev pub front : List Cell → List Placement → List ℕ
front cells ps = padded 24 (head cells ps ++ digits_of (take 8 cells))

-- a row begins where the one before it has room for no more bytes
abbrev pub row_start : ℕ → Cell → List ℕ
row_start zero c = 0x0A ∷ address_column c.address
row_start (suc left) c = []

abbrev pub left_after : ℕ → ℕ
left_after zero = 7
left_after (suc left) = left

-- further bytes, eight in a row, after the address of the first of them
abbrev pub further_rows : ℕ → List Cell → List ℕ
further_rows left [] = []
further_rows left (c ∷ cs) = (row_start left c ++ two_digits c.byte) ++ further_rows (left_after left) cs

abbrev pub line_with : List Cell → List Placement → List ℕ → List ℕ
line_with cells ps line = front cells ps ++ line ++ further_rows 0 (drop 8 cells) ++ 0x0A ∷ []

-- a line of the source with the bytes at its places
abbrev pub line_text : List ℕ → List Placement → List ℕ → List ℕ
line_text image ps line = line_with (cells_of image ps) ps line

-- ---- all lines

-- a place isn't of this line
abbrev pub is_behind : ℕ → Placement → Bool
is_behind line p = not (p.line == line)

-- the places of a line, which stand at the front, and those after them
abbrev pub own_places : ℕ → List Placement → List Placement
own_places line ps = take (position_or_len (is_behind line) ps) ps

abbrev pub later_places : ℕ → List Placement → List Placement
later_places line ps = drop (position_or_len (is_behind line) ps) ps

-- lines of which the first has the number after this one
abbrev pub lines_after : List ℕ → ℕ → List (List ℕ) → List Placement → List ℕ
lines_after image before [] ps = []
lines_after image before (l ∷ ls) ps = line_text image (own_places (before + 1) ps) l ++ lines_after image (before + 1) ls (later_places (before + 1) ps)

-- of a source and the places in its image
unfoldable pub source_listing : List ℕ → List ℕ → List Placement → List ℕ
source_listing source image ps = lines_after image 0 (lines (source_text source)) ps
