-- How a line of a key script writes its count and its keys. All of it is own: this project's form of
-- key scripts.
use Rattle.std.specs.Prelude.{ℕ, ◌%◌, ◌^◌, Bool, not, ◌&&◌, ◌||◌, ◌==◌, nat_le, nat_lt, if◌then◌else◌}
use Rattle.std.specs.Prelude.{List, [], ◌∷◌, length, Option, Some, None, option_map, option_and_then}
use Rattle.std.specs.Char.{is_ascii_digit}
use Rattle.std.specs.List.{list_all}
use Rattle.std.specs.Str.Parse.{digits_value}

abbrev pub is_within : ℕ → ℕ → ℕ → Bool
is_within low high b = nat_le low b && nat_le b high

-- ---- keys

-- ^
abbrev pub caret : ℕ
caret = 0x5E

-- a byte that stands for itself: 20h to 7Eh but the caret
abbrev pub plain_key : ℕ → Option ℕ
plain_key b = if is_within 0x20 0x7E b && not (b == caret) then Some b else None

-- the key that a caret and this byte stand for: for 40h to 5Fh (@ A to Z [ \ ] ^ _) and 61h to 7Ah (a to
-- z) the low five bits of the byte, for ? 7Fh, for ~ a caret
abbrev pub control_key : ℕ → Option ℕ
control_key c = if is_within 0x40 0x5F c || is_within 0x61 0x7A c then Some (c % 0x20)
    else (if c == 0x3F then Some 0x7F else (if c == 0x7E then Some caret else None))

-- the keys with one more in front, where both are there
abbrev pub onto : Option ℕ → Option (List ℕ) → Option (List ℕ)
onto key keys = option_and_then (λ k. option_map (λ ks. k ∷ ks) keys) key

-- the keys that a text stands for, where each of its bytes belongs to one
abbrev pub keys_of : List ℕ → Option (List ℕ)
keys_of [] = Some []
keys_of (b ∷ []) = onto (plain_key b) (Some [])
keys_of (b ∷ c ∷ rest) = if b == caret then onto (control_key c) (keys_of rest)
    else onto (plain_key b) (keys_of (c ∷ rest))

-- the first key of a text, and the text after it
abbrev pub first_key_of_text : List ℕ → Option (ℕ × List ℕ)
first_key_of_text [] = None
first_key_of_text (b ∷ []) = option_map (λ k. (k, [])) (plain_key b)
first_key_of_text (b ∷ c ∷ rest) = if b == caret then option_map (λ k. (k, rest)) (control_key c)
    else option_map (λ k. (k, c ∷ rest)) (plain_key b)

-- ---- counts

-- the number that decimal digits write, of which there is at least one, where 64 bits hold it
abbrev pub count_of : List ℕ → Option ℕ
count_of ds = if nat_lt 0 (length ds) && list_all is_ascii_digit ds && nat_lt (digits_value 10 ds) (2 ^ 64)
    then Some (digits_value 10 ds) else None
