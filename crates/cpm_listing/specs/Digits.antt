-- Numbers as hexadecimal digits, and places of text.
use Rattle.std.specs.Prelude.{ℕ, List, [], ◌∷◌, ◌++◌, ◌+◌, ◌-◌, ◌/◌, ◌%◌, nat_lt, if◌then◌else◌, length, replicate}

-- the digit of a number below 16: 0 to 9, A to F
abbrev pub hexadecimal : ℕ → ℕ
hexadecimal n = if nat_lt n 10 then 0x30 + n else 55 + n

-- a byte in two digits
unfoldable pub two_digits : ℕ → List ℕ
two_digits n = hexadecimal (n / 16) ∷ hexadecimal (n % 16) ∷ []

-- a word in four digits, the high byte first
unfoldable pub four_digits : ℕ → List ℕ
four_digits n = two_digits (n / 256) ++ two_digits (n % 256)

-- each byte in two digits after a space
abbrev pub behind_spaces : List ℕ → List ℕ
behind_spaces [] = []
behind_spaces (b ∷ bs) = 0x20 ∷ two_digits b ++ behind_spaces bs

-- bytes in two digits each, single spaces between them
unfoldable pub spaced : List ℕ → List ℕ
spaced [] = []
spaced (b ∷ bs) = two_digits b ++ behind_spaces bs

-- a text at the left of so many places, spaces after it
unfoldable pub padded : ℕ → List ℕ → List ℕ
padded places text = text ++ replicate (places - length text) 0x20
