-- The editing of a line, one key at a time: what a key means, what it shows, and the line that it leaves.
use Rattle.std.specs.Prelude.{ℕ, zero, suc, ◌+◌, ◌-◌, ◌%◌, Bool, List, [], ◌∷◌, ◌++◌, length, drop, take}
use Rattle.std.specs.Prelude.{min, not, nat_lt, ◌&&◌, ◌||◌, ◌==◌, if◌then◌else◌, fold, replicate, bit_xor}
use Rattle.cpm_console.specs.Terminal.{Terminal, said}
use Rattle.cpm_console.specs.declared.line.Keystroke.{Keystroke}
use Rattle.cpm_console.specs.declared.line.Keystroke.TheVariants.{Interrupt, NewLine, Erase, Repeat, End, ListEcho, Retype, Restart, EraseAll, Character}
use Rattle.cpm_console.specs.declared.line.LineState.{LineState}
use Rattle.cpm_console.specs.declared.line.LineState.TheVariants.{GoesOn, Ended, Interrupted}
use Rattle.cpm_console.specs.EditedLine.{EditedLine}

-- CP/M 2.2 Operating System Manual, section 1.5, Line Editing and Output Control, and section 5.2, function 10
-- (Read Console Buffer): the keys that edit a line. ^C counts only in a line with no character; every other
-- key is a character of the line. ^J and return both end it.
unfoldable pub keystroke : Bool → ℕ → Keystroke
keystroke is_empty key =
    if (key == 0x03) && is_empty then Interrupt  -- ^C
    else (if key == 0x05 then NewLine  -- ^E
    else (if key == 0x08 then Erase  -- ^H
    else (if key == 0x7F then Repeat  -- rubout
    else (if (key == 0x0A) || (key == 0x0D) then End  -- ^J, return
    else (if key == 16 then ListEcho  -- ^P
    else (if key == 0x12 then Retype  -- ^R
    else (if key == 0x15 then Restart  -- ^U
    else (if key == 0x18 then EraseAll  -- ^X
    else Character))))))))

-- own: the echo of a character that is typed at a column. A tab is the spaces up to the next multiple of eight (CP/M 2.2
-- Operating System Manual, section 5.2, function 2), a control character and rubout `^` and a letter or sign, any other itself.
unfoldable pub echo_at : ℕ → ℕ → List ℕ
echo_at column character =
    if character == 0x09 then replicate (8 - column % 8) 0x20
    else (if nat_lt character 0x20 || (character == 0x7F) then 0x5E ∷ bit_xor character 0x40 ∷ [] else character ∷ [])

-- own: the column count after a character. It rises by the columns of the echo, up to 255.
unfoldable pub next_column : ℕ → ℕ → ℕ
next_column column character = min 255 (column + length (echo_at column character))

-- the column count after characters, counted from the column where they begin
abbrev pub columns : ℕ → List ℕ → ℕ
columns column characters = fold next_column column characters

-- the echo of characters, each as typed at the column count of those before it
abbrev pub echo : ℕ → List ℕ → List ℕ
echo column [] = []
echo column (c ∷ cs) = echo_at column c ++ echo (next_column column c) cs

-- own: what blanks columns to the left of the cursor, back, a space and back for each
abbrev pub erasure : ℕ → List ℕ
erasure zero = []
erasure (suc n) = 0x08 ∷ 0x20 ∷ 0x08 ∷ erasure n

-- CP/M 2.2 Operating System Manual, section 5.2, function 10: the line that is given up is left, and the next begins at
-- the same column, below a prompt's end; own: `#` closes it
abbrev pub fresh_line : EditedLine → List ℕ
fresh_line l = 0x23 ∷ 0x0D ∷ 0x0A ∷ replicate l.start 0x20

-- a line with no character yet
abbrev pub begun_line : ℕ → ℕ → EditedLine
begun_line start limit = record { start = start; limit = limit; characters = [] }

-- the line with one character more, without its last one, and with none
abbrev pub with_character : EditedLine → ℕ → EditedLine
with_character l c = record l { characters = l.characters ++ c ∷ [] }

abbrev pub without_last : EditedLine → EditedLine
without_last l = record l { characters = take (length l.characters - 1) l.characters }

abbrev pub emptied : EditedLine → EditedLine
emptied l = record l { characters = [] }

-- the echo of the last character, as it was when typed; of an empty line nothing
abbrev pub last_echo : EditedLine → List ℕ
last_echo l =
    echo (columns l.start (take (length l.characters - 1) l.characters)) (drop (length l.characters - 1) l.characters)

-- the echo of a character that is typed at the line's end
abbrev pub typed_echo : EditedLine → ℕ → List ℕ
typed_echo l c = echo_at (columns l.start l.characters) c

-- the console and the line after a key, and whether the line goes on
pub record EditResult : Type 0 where
  pub terminal : Terminal
  pub line : EditedLine
  pub progress : LineState

abbrev pub edited : Terminal → EditedLine → LineState → EditResult
edited t l p = record { terminal = t; line = l; progress = p }

-- CP/M 2.2 Operating System Manual, section 5.2, function 10: the line ends where it has as many characters as it may;
-- own: in the same step, and as by return
abbrev pub put_in : Terminal → EditedLine → ℕ → EditResult
put_in t l c =
    if length l.characters + 1 == l.limit then edited (said t (typed_echo l c ++ 0x0D ∷ [])) (with_character l c) Ended
    else edited (said t (typed_echo l c)) (with_character l c) GoesOn

-- CP/M 2.2 Operating System Manual, section 1.5, Line Editing and Output Control, and section 5.2, function 10: what each key shows and leaves. The bytes that
-- it shows, and that ^E keeps the column where the line began, are own.
abbrev pub edit : Keystroke → Terminal → EditedLine → ℕ → EditResult
edit Interrupt t l key = edited (said t (0x5E ∷ 0x43 ∷ [])) l Interrupted  -- `^C`
edit NewLine t l key = edited (said t (0x0D ∷ 0x0A ∷ [])) l GoesOn
edit Erase t l key = edited (said t (erasure (length (last_echo l)))) (without_last l) GoesOn
edit Repeat t l key = edited (said t (last_echo l)) (without_last l) GoesOn
edit End t l key = edited (said t (0x0D ∷ [])) l Ended
edit ListEcho t l key = edited (record t { list_echo = not t.list_echo }) l GoesOn
edit Retype t l key = edited (said t (fresh_line l ++ echo l.start l.characters)) l GoesOn
edit Restart t l key = edited (said t (fresh_line l)) (emptied l) GoesOn
edit EraseAll t l key = edited (said t (erasure (length (echo l.start l.characters)))) (emptied l) GoesOn
edit Character t l key = put_in t l key

-- a key, by what it means in the line
abbrev pub key_into_line : Terminal → EditedLine → ℕ → EditResult
key_into_line t l key = edit (keystroke (length l.characters == 0) key) t l key
