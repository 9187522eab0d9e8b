-- How a text and a line stand in a message of one line.
use Rattle.std.specs.Prelude.{ℕ, ◌+◌, ◌-◌, ◌==◌, ◌&&◌, ◌||◌, nat_le, Bool, if◌then◌else◌, List, [], ◌∷◌, ◌++◌, length, take, drop, map, codes, encode_utf8}
use Rattle.std.specs.Char.{is_ascii_whitespace, is_control}
use Rattle.std.specs.List.{prefix_len, suffix_len}

-- one of the characters from the first to the last
abbrev pub is_from : (first last : ℕ) → ℕ → Bool
is_from first last c = nat_le first c && nat_le c last

-- The Unicode Standard, section 4.5, General Category: format characters (Cf), U+00AD to U+180E
abbrev pub is_format_of_letters : ℕ → Bool
is_format_of_letters c = is_from 0xAD 0xAD c || (is_from 0x600 0x605 c || (is_from 0x61C 0x61C c
    || (is_from 0x6DD 0x6DD c || (is_from 0x70F 0x70F c || (is_from 0x890 0x891 c || (is_from 0x8E2 0x8E2 c
    || is_from 0x180E 0x180E c))))))

-- The Unicode Standard, section 4.5, General Category: format characters, and the separators of lines and paragraphs (Zl, Zp),
-- U+200B to U+FFFB; own: what isn't assigned up to U+206F too
abbrev pub is_format_of_lines : ℕ → Bool
is_format_of_lines c = is_from 0x200B 0x200F c || (is_from 0x2028 0x202E c || (is_from 0x2060 0x206F c
    || (is_from 0xFEFF 0xFEFF c || is_from 0xFFF9 0xFFFB c)))

-- The Unicode Standard, section 4.5, General Category: format characters past U+FFFF; own: all of the first tags
abbrev pub is_format_past_ffff : ℕ → Bool
is_format_past_ffff c = is_from 0x110BD 0x110BD c || (is_from 0x110CD 0x110CD c || (is_from 0x13430 0x1343F c
    || (is_from 0x1BCA0 0x1BCA3 c || (is_from 0x1D173 0x1D17A c || is_from 0xE0000 0xE007F c))))

-- own: a control character, or one that changes how the text around it is shown
abbrev pub is_hidden : ℕ → Bool
is_hidden c = is_control c || (is_format_of_letters c || (is_format_of_lines c || is_format_past_ffff c))

-- own: a question mark (63) stands for a character that isn't shown as itself
abbrev pub shown_character : ℕ → ℕ
shown_character c = if is_hidden c then 0x3F else c

-- own: after these bytes at least 8 of 200 are left
abbrev pub has_room_to_show : List ℕ → Bool
has_room_to_show done = nat_le (length done + 8) 200

-- own: the bytes shown once `done` are there: the characters while there is room, else three dots
abbrev pub shown_after : List ℕ → List ℕ → List ℕ
shown_after done [] = done
shown_after done (c ∷ rest) =
    if has_room_to_show done then shown_after (done ++ encode_utf8 (shown_character c)) rest else done ++ codes "..."

-- own: the bytes shown for these characters
abbrev pub shown_of : List ℕ → List ℕ
shown_of characters = shown_after [] characters

-- own: a tab (9) stands as a blank (32)
abbrev pub untabbed : ℕ → ℕ
untabbed byte = if byte == 0x09 then 0x20 else byte

-- own: a line without the ASCII blanks at its ends
abbrev pub trimmed : List ℕ → List ℕ
trimmed line =
    let rest = drop (prefix_len is_ascii_whitespace line) line in
    take (length rest - suffix_len is_ascii_whitespace rest) rest

-- own: the characters of a line, one for each byte between its blank ends
abbrev pub characters_of : List ℕ → List ℕ
characters_of line = map untabbed (trimmed line)
