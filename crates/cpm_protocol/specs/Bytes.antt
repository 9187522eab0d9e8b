-- Bytes of consoles, keys and files as JSON text. All of it is own: docs/PROTOCOL.md.
use Rattle.std.specs.Prelude.{ℕ, List, Bool, nat_lt, chars, encode_utf8_all}
use Rattle.std.specs.List.{list_all}

-- a character is the byte of its number
abbrev pub is_byte_character : ℕ → Bool
is_byte_character c = nat_lt c 256

-- each character is U+0000 to U+00FF, and so stands for a byte
abbrev pub is_byte_text : List ℕ → Bool
is_byte_text text = list_all is_byte_character (chars text)

-- the text whose characters have the numbers of the bytes
abbrev pub text_of_bytes : List ℕ → List ℕ
text_of_bytes bytes = encode_utf8_all bytes
