-- Words of a command line, which are parted by spaces.
use Rattle.std.specs.Prelude.{ℕ, ◌==◌, ◌&&◌, ◌||◌, Bool, not, nat_le, if◌then◌else◌, List, length, drop, Option, Some, None}
use Rattle.std.specs.Char.{is_ascii_digit}
use Rattle.std.specs.List.{before_first, list_all, position_or_len}
use Rattle.std.specs.Str.Parse.{digits_value}
use Rattle.cpm_directory.specs.CommandLine.{after_spaces, is_drive}

abbrev pub is_space : ℕ → Bool
is_space c = c == 0x20

-- CP/M 2.2 Operating System Manual, section 1.4, Built-in Commands; own: spaces in front are skipped, and a space alone ends the word
unfoldable pub first_word : List ℕ → List ℕ
first_word line = before_first is_space (after_spaces line)

-- all that stands after the first word, its spaces too
unfoldable pub tail_of : List ℕ → List ℕ
tail_of line = drop (position_or_len is_space (after_spaces line)) (after_spaces line)

-- CP/M 2.2 Operating System Manual, section 1.3, Switching Disks: a drive's letter and a colon; own: nothing but spaces after them
unfoldable pub is_drive_alone : List ℕ → List ℕ → Bool
is_drive_alone word tail = (length word == 2) && (is_drive word && list_all is_space tail)

-- own: a number is a word of decimal digits, at least one, zeros in front allowed
unfoldable pub number_up_to : ℕ → List ℕ → Option ℕ
number_up_to most word =
    if (length word == 0) || (not (list_all is_ascii_digit word) || not (nat_le (digits_value 10 word) most)) then None
    else Some (digits_value 10 word)
