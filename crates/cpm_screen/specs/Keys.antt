-- The keys of the person's ANSI terminal by what they send, and what the terminal of the time sent for them.
use Rattle.std.specs.Prelude.{ℕ, ◌+◌, ◌-◌, ◌*◌, ◌==◌, ◌&&◌, nat_le, if◌then◌else◌, List, [], ◌∷◌, Option, Some, None, slice_index}
use Rattle.cpm_screen.specs.declared.terminal.TerminalKind.{TerminalKind}
use Rattle.cpm_screen.specs.declared.terminal.TerminalKind.TheVariants.{Adm3a, Kaypro, Televideo, Vt52, Vt100}
use Rattle.cpm_screen.specs.declared.keys.PersonKey.{PersonKey}
use Rattle.cpm_screen.specs.declared.keys.PersonKey.TheVariants.{Up, Down, Right, Left, Home, End, PageUp, PageDown, Function}
use Rattle.cpm_screen.specs.declared.keys.Arrows.{Arrows}
use Rattle.cpm_screen.specs.declared.keys.Arrows.TheVariants.{Own, WordStar}
use Rattle.cpm_screen.specs.declared.keys.KeyRead.{KeyRead}

-- the key of a number, if it has one
abbrev pub key_in : List (ℕ × PersonKey) → ℕ → Option PersonKey
key_in [] n = None
key_in (row ∷ rows) n = if n == row.0 then Some row.1 else key_in rows n

-- xterm control sequences, section PC-Style Function Keys: ESC [ or ESC O and a letter
abbrev pub letter_keys : List (ℕ × PersonKey)
letter_keys = (0x41, Up) ∷ (0x42, Down) ∷ (0x43, Right) ∷ (0x44, Left) ∷ (0x46, End) ∷ (0x48, Home) ∷ []

-- xterm control sequences, section PC-Style Function Keys: ESC O and a letter
abbrev pub function_letters : List (ℕ × PersonKey)
function_letters = (0x50, Function 1) ∷ (0x51, Function 2) ∷ (0x52, Function 3) ∷ (0x53, Function 4) ∷ []

-- Linux manual page console_codes: ESC [ [ and a letter
abbrev pub console_letters : List (ℕ × PersonKey)
console_letters = (0x41, Function 1) ∷ (0x42, Function 2) ∷ (0x43, Function 3) ∷ (0x44, Function 4) ∷ (0x45, Function 5) ∷ []

-- xterm control sequences, section PC-Style Function Keys, and rxvt's 7 and 8: ESC [ number ~
abbrev pub numbered_keys : List (ℕ × PersonKey)
numbered_keys =
    (1, Home) ∷ (4, End) ∷ (5, PageUp) ∷ (6, PageDown) ∷ (7, Home) ∷ (8, End) ∷
    (11, Function 1) ∷ (12, Function 2) ∷ (13, Function 3) ∷ (14, Function 4) ∷ (15, Function 5) ∷
    (17, Function 6) ∷ (18, Function 7) ∷ (19, Function 8) ∷ (20, Function 9) ∷ (21, Function 10) ∷ []

-- own: the first byte alone
abbrev pub byte_alone : KeyRead
byte_alone = record { key = None; taken = 1 }

-- a key of so many bytes, or the first byte alone
abbrev pub taken_or_alone : ℕ → Option PersonKey → KeyRead
taken_or_alone taken None = byte_alone
taken_or_alone taken (Some key) = record { key = Some key; taken = taken }

-- a key of so many bytes, or else what another reading gives
abbrev pub taken_or : ℕ → Option PersonKey → KeyRead → KeyRead
taken_or taken None other = other
taken_or taken (Some key) other = record { key = Some key; taken = taken }

-- the key of a number of one decimal digit, and of two
unfoldable pub one_digit_key : ℕ → Option PersonKey
one_digit_key byte = if nat_le 0x30 byte && nat_le byte 0x39 then key_in numbered_keys (byte - 0x30) else None

unfoldable pub two_digit_key : ℕ → ℕ → Option PersonKey
two_digit_key tens ones =
    if (nat_le 0x31 tens && nat_le tens 0x39) && (nat_le 0x30 ones && nat_le ones 0x39)
    then key_in numbered_keys (10 * (tens - 0x30) + (ones - 0x30)) else None

-- after ESC [: ~ ends a number, and a second [ stands before a letter
unfoldable pub numbered_key : List ℕ → KeyRead
numbered_key bytes =
    if slice_index bytes 2 == 0x5B then taken_or 4 (key_in console_letters (slice_index bytes 3)) byte_alone
    else (if slice_index bytes 3 == 0x7E then taken_or 4 (one_digit_key (slice_index bytes 2)) byte_alone
    else (if slice_index bytes 4 == 0x7E then taken_or 5 (two_digit_key (slice_index bytes 2) (slice_index bytes 3)) byte_alone else byte_alone))

unfoldable pub bracket_key : List ℕ → KeyRead
bracket_key bytes = taken_or 3 (key_in letter_keys (slice_index bytes 2)) (numbered_key bytes)

-- after ESC O
unfoldable pub single_shift_key : List ℕ → KeyRead
single_shift_key bytes =
    taken_or 3 (key_in letter_keys (slice_index bytes 2)) (taken_or 3 (key_in function_letters (slice_index bytes 2)) byte_alone)

-- own: what stands at the front of bytes that came at once. An ESC that begins none of these sequences is an Escape by itself; 0 stands for no byte.
unfoldable pub key_at_front : List ℕ → KeyRead
key_at_front bytes =
    if slice_index bytes 0 == 0x1B
    then (if slice_index bytes 1 == 0x5B then bracket_key bytes else (if slice_index bytes 1 == 0x4F then single_shift_key bytes else byte_alone))
    else byte_alone

-- ADM-3A operator's manual, Cursor control; Kaypro user's guide, Cursor keys: as the ADM-3A; own: neither has Home but by RS, nor the others
unfoldable pub adm3a_sends : PersonKey → List ℕ
adm3a_sends Up = 0x0B ∷ []  -- ^K
adm3a_sends Down = 0x0A ∷ []  -- ^J
adm3a_sends Right = 0x0C ∷ []  -- ^L
adm3a_sends Left = 0x08 ∷ []  -- ^H
adm3a_sends Home = 0x1E ∷ []  -- ^^
adm3a_sends _ = []

-- TeleVideo 950 operator's manual, Function keys: ^A, a letter from @ on, return
abbrev pub televideo_function : ℕ → List ℕ
televideo_function n = if nat_le 1 n && nat_le n 10 then 0x01 ∷ (0x3F + n) ∷ 0x0D ∷ [] else []

-- TeleVideo 950 operator's manual, Cursor control keys
unfoldable pub televideo_sends : PersonKey → List ℕ
televideo_sends Up = 0x0B ∷ []  -- ^K
televideo_sends Down = 0x16 ∷ []  -- ^V
televideo_sends Right = 0x0C ∷ []  -- ^L
televideo_sends Left = 0x08 ∷ []  -- ^H
televideo_sends Home = 0x1E ∷ []  -- ^^
televideo_sends (Function n) = televideo_function n
televideo_sends _ = []

-- VT52 user guide, the keys with no text: ESC P to ESC R; own: F1 to F3
abbrev pub vt52_function : ℕ → List ℕ
vt52_function n = if nat_le 1 n && nat_le n 3 then 0x1B ∷ (0x4F + n) ∷ [] else []

-- VT52 user guide, Cursor control keys
unfoldable pub vt52_sends : PersonKey → List ℕ
vt52_sends Up = 0x1B ∷ 0x41 ∷ []  -- ESC A
vt52_sends Down = 0x1B ∷ 0x42 ∷ []  -- ESC B
vt52_sends Right = 0x1B ∷ 0x43 ∷ []  -- ESC C
vt52_sends Left = 0x1B ∷ 0x44 ∷ []  -- ESC D
vt52_sends (Function n) = vt52_function n
vt52_sends _ = []

-- VT100 user guide, Auxiliary keypad, PF1 to PF4: ESC O P to ESC O S; own: F1 to F4
abbrev pub vt100_function : ℕ → List ℕ
vt100_function n = if nat_le 1 n && nat_le n 4 then 0x1B ∷ 0x4F ∷ (0x4F + n) ∷ [] else []

-- VT100 user guide, Cursor control keys
unfoldable pub vt100_sends : PersonKey → List ℕ
vt100_sends Up = 0x1B ∷ 0x5B ∷ 0x41 ∷ []  -- ESC [ A
vt100_sends Down = 0x1B ∷ 0x5B ∷ 0x42 ∷ []  -- ESC [ B
vt100_sends Right = 0x1B ∷ 0x5B ∷ 0x43 ∷ []  -- ESC [ C
vt100_sends Left = 0x1B ∷ 0x5B ∷ 0x44 ∷ []  -- ESC [ D
vt100_sends (Function n) = vt100_function n
vt100_sends _ = []

-- WordStar's manual, Cursor movement: the diamond, and what moves by a screen and to the ends of a line; own: for these keys
unfoldable pub wordstar_sends : PersonKey → List ℕ
wordstar_sends Up = 0x05 ∷ []  -- ^E
wordstar_sends Down = 0x18 ∷ []  -- ^X
wordstar_sends Right = 0x04 ∷ []  -- ^D
wordstar_sends Left = 0x13 ∷ []  -- ^S
wordstar_sends Home = 0x11 ∷ 0x13 ∷ []  -- ^Q^S
wordstar_sends End = 0x11 ∷ 0x04 ∷ []  -- ^Q^D
wordstar_sends PageUp = 0x12 ∷ []  -- ^R
wordstar_sends PageDown = 0x03 ∷ []  -- ^C
wordstar_sends (Function n) = []

abbrev pub terminal_sends : TerminalKind → PersonKey → List ℕ
terminal_sends Adm3a key = adm3a_sends key
terminal_sends Kaypro key = adm3a_sends key
terminal_sends Televideo key = televideo_sends key
terminal_sends Vt52 key = vt52_sends key
terminal_sends Vt100 key = vt100_sends key

-- own: a function key is the terminal's, however the arrows are
abbrev pub key_sends : Arrows → TerminalKind → PersonKey → List ℕ
key_sends Own terminal key = terminal_sends terminal key
key_sends WordStar terminal (Function n) = terminal_sends terminal (Function n)
key_sends WordStar terminal key = wordstar_sends key
