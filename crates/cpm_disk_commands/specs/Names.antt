-- The names of files and the patterns of names, as a person writes them.
use Rattle.std.specs.Prelude.{◌≡◌, ◌≢◌, ◌⊎◌, ℕ, ◌<◌, ◌+◌, ◌-◌, ◌%◌, Bool, not, ◌||◌, ◌&&◌, ◌==◌, nat_lt, nat_le, if◌then◌else◌}
use Rattle.std.specs.Prelude.{List, [], ◌∷◌, ◌++◌, Option, Some, None, length, map, take, drop, slice_index, slice_set}
use Rattle.std.specs.List.{list_all, position_or_len, range_with_len}

-- CP/M 2.2 Operating System Manual, section 1.4, File References: < > . , ; : = ? * [ ] and _ stand in no name
abbrev pub is_special : ℕ → Bool
is_special c =
    (c == 0x3C) || (c == 0x3E) || (c == 0x2E) || (c == 0x2C) || (c == 0x3B) || (c == 0x3A)
    || (c == 0x3D) || (c == 0x3F) || (c == 0x2A) || (c == 0x5B) || (c == 0x5D) || (c == 0x5F)

-- a character of a name: one that is seen, above the blank and below DEL (own)
unfoldable pub is_name_character : ℕ → Bool
is_name_character c = nat_lt 0x20 c && (nat_lt c 0x7F && not (is_special c))

-- CP/M 2.2 Operating System Manual, section 1.4, File References: ? and * stand in a pattern
unfoldable pub is_pattern_character : ℕ → Bool
is_pattern_character c = is_name_character c || ((c == 0x3F) || (c == 0x2A))

-- CP/M 2.2 Operating System Manual, section 1.4, File References: a small letter counts as the capital
unfoldable pub capital_letter : ℕ → ℕ
capital_letter c = if nat_le 0x61 c && nat_le c 0x7A then c - 32 else c

-- ---- the two parts

-- up to the first dot, if there is one
unfoldable pub name_part : List ℕ → List ℕ
name_part text = take (position_or_len (λ c. c == 0x2E) text) text

-- after it
unfoldable pub type_part : List ℕ → List ℕ
type_part text = drop (position_or_len (λ c. c == 0x2E) text + 1) text

-- where the first star of a part is
abbrev pub star_of : List ℕ → ℕ
star_of part = position_or_len (λ c. c == 0x2A) part

-- CP/M 2.2 Operating System Manual, section 1.4, File References: * stands for question marks up to the end of its part; else blanks follow the characters
unfoldable pub character_at : List ℕ → ℕ → ℕ
character_at part place =
    if nat_lt place (star_of part) then capital_letter (slice_index part place) else (if nat_lt (star_of part) (length part) then 0x3F else 0x20)

-- eight characters and three
unfoldable pub fields : List ℕ → List ℕ
fields text = map (character_at (name_part text)) (range_with_len 0 8) ++ map (character_at (type_part text)) (range_with_len 0 3)

-- a part has at most so many characters, and a star is the last of them (own)
unfoldable pub is_sized : ℕ → List ℕ → Bool
is_sized most part = nat_le (length part) most && nat_le (length part) (star_of part + 1)

-- a part of so many characters, all of a kind (own)
abbrev pub is_part : (ℕ → Bool) → ℕ → List ℕ → Bool
is_part is_of_kind most part = is_sized most part && list_all is_of_kind part

-- 1 to 8 characters and, after a dot, up to 3 (own)
unfoldable pub has_parts : (ℕ → Bool) → List ℕ → Bool
has_parts is_of_kind text =
    nat_lt 0 (length (name_part text)) && (is_part is_of_kind 8 (name_part text) && is_part is_of_kind 3 (type_part text))

-- ---- what they spell

-- the name of one file
unfoldable pub one_name : List ℕ → Option (List ℕ)
one_name text = if has_parts is_name_character text then Some (fields text) else None

-- a pattern of names
unfoldable pub pattern_text : List ℕ → Option (List ℕ)
pattern_text text = if has_parts is_pattern_character text then Some (fields text) else None

-- ---- words that have a name in them

-- The name is the last of a path: it has no slash, and what is before it is nothing or ends in one. (own)
pub record IsBaseName (path name : List ℕ) : Type 0 where
  pub front : List ℕ
  pub whole : path ≡ front ++ name
  pub plain : (k : ℕ) → k < length name → slice_index name k ≢ 0x2F
  pub last : (front ≡ []) ⊎ ((folder : List ℕ) × (front ≡ folder ++ 0x2F ∷ []))

-- a character with an attribute bit, which is set or not
unfoldable pub with_bit : Bool → ℕ → ℕ
with_bit is_set c = if is_set then c % 128 + 128 else c % 128

-- CP/M 2.2 Operating System Manual, section 5.2, SET FILE ATTRIBUTES: the high bits of the type's first two characters
-- mark a file as read-only and as the system's
unfoldable pub with_marks : (is_read_only is_system : Bool) → List ℕ → List ℕ
with_marks is_read_only is_system name =
    slice_set (slice_set name 8 (with_bit is_read_only (slice_index name 8))) 9 (with_bit is_system (slice_index name 9))
