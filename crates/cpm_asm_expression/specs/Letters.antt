-- The characters of words.
-- CP/M 2.2 Operating System Manual, "CP/M Assembler", "Labels", "Numeric Constants" and "Reserved Words". That a
-- dollar sign also falls away after the last character is own.
use Rattle.std.specs.Prelude.{ℕ, Bool, nat_le, ◌==◌, ◌||◌, if◌then◌else◌, List, [], ◌∷◌, length, take, drop, Option, Some, None}
use Rattle.std.specs.Char.{is_ascii_alphabetic, is_ascii_digit, to_ascii_uppercase}
use Rattle.std.specs.List.{prefix_len}

-- a space or a tab
abbrev pub is_blank : ℕ → Bool
is_blank b = b == 0x20 || b == 0x09

-- a letter, @ or ?
abbrev pub begins_name : ℕ → Bool
begins_name b = is_ascii_alphabetic b || b == 0x40 || b == 0x3F

abbrev pub is_dollar : ℕ → Bool
is_dollar b = b == 0x24

-- what a word or a number goes on with: these, digits and dollar signs
abbrev pub continues_word : ℕ → Bool
continues_word b = begins_name b || is_ascii_digit b || is_dollar b

abbrev pub after_blanks : List ℕ → List ℕ
after_blanks text = drop (prefix_len is_blank text) text

-- the word at the front of a text, and the text after it
abbrev pub split_word : List ℕ → List ℕ × List ℕ
split_word text = (take (prefix_len continues_word text) text, drop (prefix_len continues_word text) text)

-- the characters of a word without its dollar signs, in capital letters
abbrev pub letters_of : List ℕ → List ℕ
letters_of [] = []
letters_of (b ∷ bs) = if is_dollar b then letters_of bs else to_ascii_uppercase b ∷ letters_of bs

-- at most 16 of them
abbrev pub short : List ℕ → Option (List ℕ)
short letters = if nat_le (length letters) 16 then Some letters else None

abbrev pub short_letters : List ℕ → Option (List ℕ)
short_letters word = short (letters_of word)
