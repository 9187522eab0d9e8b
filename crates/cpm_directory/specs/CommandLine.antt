-- File names of command lines.
use Rattle.std.specs.Prelude.{ℕ, ◌-◌, Bool, not, ◌||◌, ◌&&◌, ◌==◌, nat_lt, nat_le, if◌then◌else◌}
use Rattle.std.specs.Prelude.{List, [], ◌++◌, length, map, take, drop, replicate, slice_index}
use Rattle.std.specs.List.{position_or_len, range_with_len}
use Rattle.cpm_volume.specs.declared.fcb.Fcb.{Fcb}

-- CP/M 2.2 Operating System Manual, File References: some characters end a name or a type; own: they are a space and = _ . : ; < > and all below 20h
abbrev pub is_delimiter : ℕ → Bool
is_delimiter c =
    nat_lt c 0x20 || (c == 0x20) || (c == 0x3D) || (c == 0x5F) || (c == 0x2E) || (c == 0x3A) || (c == 0x3B) || (c == 0x3C) || (c == 0x3E)

-- the text after the spaces in front
unfoldable pub after_spaces : List ℕ → List ℕ
after_spaces text = drop (position_or_len (λ c. not (c == 0x20)) text) text

-- CP/M 2.2 Operating System Manual, File References: a letter and a colon name a drive; own: A to P
unfoldable pub is_drive : List ℕ → Bool
is_drive text =
    (slice_index text 1 == 0x3A) && (nat_le 0x41 (slice_index text 0) && nat_le (slice_index text 0) 0x50)

-- 1 for A and so on, 0 where no drive is named
unfoldable pub drive_of : List ℕ → ℕ
drive_of text = if is_drive text then slice_index text 0 - 64 else 0

unfoldable pub after_drive : List ℕ → List ℕ
after_drive text = if is_drive text then drop 2 text else text

-- the characters up to a delimiter, and the text from it on
unfoldable pub word_in : List ℕ → List ℕ
word_in text = take (position_or_len is_delimiter text) text

unfoldable pub after_word : List ℕ → List ℕ
after_word text = drop (position_or_len is_delimiter text) text

-- the type after a period, and the text after it
unfoldable pub type_of : List ℕ → List ℕ
type_of text = if slice_index text 0 == 0x2E then word_in (drop 1 text) else []

unfoldable pub after_type : List ℕ → List ℕ
after_type text = if slice_index text 0 == 0x2E then after_word (drop 1 text) else text

-- CP/M 2.2 Operating System Manual, File References: * stands for question marks up to the field's end; else spaces follow the characters
unfoldable pub character_of : List ℕ → ℕ → ℕ
character_of word place =
    let star = position_or_len (λ c. c == 0x2A) word in
    if nat_lt place star then slice_index word place else (if nat_lt star (length word) then 0x3F else 0x20)

abbrev pub name_field : ℕ → List ℕ → List ℕ
name_field size word = map (character_of word) (range_with_len 0 size)

-- the name and what is after it, once spaces and a drive are skipped
abbrev pub at_name : List ℕ → List ℕ
at_name text = after_drive (after_spaces text)

-- the file control block of the name at the front of a text
unfoldable pub fcb_named : List ℕ → Fcb
fcb_named text =
    record {
      drive = drive_of (after_spaces text);
      extent = record {
        name = name_field 8 (word_in (at_name text)) ++ name_field 3 (type_of (after_word (at_name text)));
        ex = 0;
        s1 = 0;
        s2 = 0;
        record_count = 0;
        blocks = replicate 16 0;
      };
      current_record = 0;
      random_record = replicate 3 0;
    }

-- the text after that name
unfoldable pub text_behind_name : List ℕ → List ℕ
text_behind_name text = after_type (after_word (at_name text))
