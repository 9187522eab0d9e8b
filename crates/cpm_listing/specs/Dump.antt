-- Sixteen bytes of memory on a line (own).
use Rattle.std.specs.Prelude.{ℕ, List, ◌++◌, nat_lt, if◌then◌else◌, map, codes}
use Rattle.cpm_listing.specs.Digits.{four_digits, spaced}

-- a byte as a character; a full stop stands for what doesn't print, all but 20h to 7Eh
abbrev pub dump_character : ℕ → ℕ
dump_character b = if nat_lt b 0x20 then 0x2E else if nat_lt 0x7E b then 0x2E else b

-- the address, the bytes, and their characters
unfoldable pub dump_line : ℕ → List ℕ → List ℕ
dump_line address bytes = four_digits address ++ codes "  " ++ spaced bytes ++ codes "  " ++ map dump_character bytes
