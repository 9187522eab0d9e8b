-- What bytes mean to the ADM-3A, the Kaypro, the TeleVideo and the VT52: a row for each byte, with the manual's words after it.
use Rattle.std.specs.Prelude.{ℕ, Bool, true, false, ◌==◌, ◌-◌, not, nat_le, nat_lt, bit_and, if◌then◌else◌, List, [], ◌∷◌}
use Rattle.cpm_screen.specs.declared.cell.Attribute.TheVariants.{Bold, Underline, Blink, Reverse}
use Rattle.cpm_screen.specs.declared.cell.Attributes.{Attributes}
use Rattle.cpm_screen.specs.declared.action.Span.TheVariants.{ToEnd}
use Rattle.cpm_screen.specs.declared.action.Sequence.{Sequence}
use Rattle.cpm_screen.specs.declared.action.Sequence.TheVariants.{Text, Escape, Row, Column, Page, Looks, Consumed, ConsumedTo}
use Rattle.cpm_screen.specs.declared.action.Sequence.TheVariants.{Control, Designation, Intermediate}
use Rattle.cpm_screen.specs.declared.action.Sequence.TheVariants as sequence
use Rattle.cpm_screen.specs.declared.action.Action.{Action}
use Rattle.cpm_screen.specs.declared.action.Action.TheVariants.{Nothing, Up, Down, Left, Right, LineStart, LineFeed, ReverseLineFeed, NextLine, Home, Address}
use Rattle.cpm_screen.specs.declared.action.Action.TheVariants.{Tab, FixedTab, SetTab, ClearTab, ClearTabs, Clear, EraseScreen, EraseLine, Look}
use Rattle.cpm_screen.specs.declared.action.Action.TheVariants.{InsertLines, DeleteLines, InsertCharacters, DeleteCharacters, Switch, Insertion}
use Rattle.cpm_screen.specs.declared.action.Action.TheVariants.{SaveCursor, RestoreCursor}
use Rattle.cpm_screen.specs.declared.action.Action.TheVariants as action
use Rattle.cpm_screen.specs.declared.action.Receipt.{Receipt}

-- a byte that ends what was being read, and one after which a sequence is being read
abbrev pub does : Action → Receipt
does what = record { action = what; sequence = Text }

abbrev pub reads : Sequence → Receipt
reads rest = record { action = Nothing; sequence = rest }

-- own: nothing is done
abbrev pub nothing_done : Receipt
nothing_done = does Nothing

-- the row of a byte, or what stands for a byte that has none
abbrev pub receipt_in : List (ℕ × Receipt) → Receipt → ℕ → Receipt
receipt_in [] other byte = other
receipt_in (row ∷ rows) other byte = if byte == row.0 then row.1 else receipt_in rows other byte

-- own: the bytes of characters are 20h to 7Eh and 80h to FFh; 7Fh and a control character without a row show nothing
unfoldable pub of_text : List (ℕ × Receipt) → ℕ → Receipt
of_text controls byte =
    if nat_lt byte 0x20 then receipt_in controls nothing_done byte
    else (if byte == 0x7F then nothing_done else does (action.Character byte))

-- ADM-3A operator's manual, section 3, Control codes
abbrev pub adm3a_controls : List (ℕ × Receipt)
adm3a_controls =
    (0x08, does (Left 1)) ∷  -- BS, backspace
    (0x0A, does LineFeed) ∷  -- LF, line feed
    (0x0B, does (Up 1)) ∷  -- VT, upline
    (0x0C, does (Right 1)) ∷  -- FF, forward space
    (0x0D, does LineStart) ∷  -- CR, return
    (0x1A, does Clear) ∷  -- SUB, clear screen
    (0x1B, reads Escape) ∷  -- ESC, initiate load cursor
    (0x1E, does Home) ∷  -- RS, home cursor
    []

-- ADM-3A operator's manual, section 3, Absolute cursor positioning: ESC = row column
abbrev pub adm3a_escapes : List (ℕ × Receipt)
adm3a_escapes = (0x3D, reads Row) ∷ []

-- Kaypro user's guide, appendix on screen control: as the ADM-3A, and these
abbrev pub kaypro_controls : List (ℕ × Receipt)
kaypro_controls =
    (0x08, does (Left 1)) ∷  -- cursor left
    (0x0A, does LineFeed) ∷  -- line feed
    (0x0B, does (Up 1)) ∷  -- cursor up
    (0x0C, does (Right 1)) ∷  -- cursor right
    (0x0D, does LineStart) ∷  -- carriage return
    (0x17, does (EraseScreen ToEnd)) ∷  -- clear to the end of the screen
    (0x18, does (EraseLine ToEnd)) ∷  -- clear to the end of the line
    (0x1A, does Clear) ∷  -- clear the screen, home the cursor
    (0x1B, reads Escape) ∷  -- escape
    (0x1E, does Home) ∷  -- home the cursor
    []

-- Kaypro user's guide, appendix on screen control: escape sequences; own: pixels and lines of pixels show nothing
abbrev pub kaypro_escapes : List (ℕ × Receipt)
kaypro_escapes =
    (0x20, reads (Consumed 2)) ∷  -- ESC SP, clear a pixel
    (0x2A, reads (Consumed 2)) ∷  -- ESC *, set a pixel
    (0x3D, reads Row) ∷  -- ESC =, cursor to row and column
    (0x42, reads (sequence.Switch true)) ∷  -- ESC B, set an attribute
    (0x43, reads (sequence.Switch false)) ∷  -- ESC C, clear an attribute
    (0x44, reads (Consumed 4)) ∷  -- ESC D, clear a line of pixels
    (0x45, does (InsertLines 1)) ∷  -- ESC E, insert a line
    (0x4C, reads (Consumed 4)) ∷  -- ESC L, set a line of pixels
    (0x52, does (DeleteLines 1)) ∷  -- ESC R, delete a line
    []

-- Kaypro user's guide, appendix on screen control: the attributes by their digits; own: half intensity is shown as bold, so that it is told
-- apart; the cursor, video mode and the status line, 4, 5 and 7, show nothing; a cursor that is remembered has its attributes
abbrev pub kaypro_attributes : Bool → List (ℕ × Receipt)
kaypro_attributes on =
    (0x30, does (Switch Reverse on)) ∷  -- inverse video
    (0x31, does (Switch Bold on)) ∷  -- half intensity
    (0x32, does (Switch Blink on)) ∷  -- blinking
    (0x33, does (Switch Underline on)) ∷  -- underline
    (0x36, does (if on then SaveCursor else RestoreCursor)) ∷  -- the cursor's place is remembered, or gone back to
    []

-- TeleVideo 950 operator's manual, section 4, Control codes
abbrev pub televideo_controls : List (ℕ × Receipt)
televideo_controls =
    (0x08, does (Left 1)) ∷  -- BS, cursor left
    (0x09, does Tab) ∷  -- HT, tab
    (0x0A, does LineFeed) ∷  -- LF, line feed
    (0x0B, does (Up 1)) ∷  -- VT, cursor up
    (0x0C, does (Right 1)) ∷  -- FF, cursor right
    (0x0D, does LineStart) ∷  -- CR, carriage return
    (0x16, does (Down 1)) ∷  -- SYN, cursor down
    (0x1A, does Clear) ∷  -- SUB, clear
    (0x1B, reads Escape) ∷  -- ESC, escape
    (0x1E, does Home) ∷  -- RS, home
    (0x1F, does NextLine) ∷  -- US, new line
    []

-- TeleVideo 950 operator's manual, section 4, Escape sequences; own: protected characters are as others, half intensity is shown as bold,
-- there is one page, and the user's line, duplex and what keys send show nothing
abbrev pub televideo_escapes : List (ℕ × Receipt)
televideo_escapes =
    (0x28, does (Switch Bold false)) ∷  -- ESC (, half intensity off
    (0x29, does (Switch Bold true)) ∷  -- ESC ), half intensity on
    (0x2A, does Clear) ∷  -- ESC *, clear all to nulls
    (0x2B, does Clear) ∷  -- ESC +, clear all to spaces
    (0x2C, does Clear) ∷  -- ESC ,, clear all to half intensity spaces
    (0x2D, reads Page) ∷  -- ESC -, cursor to page, row and column
    (0x2E, reads (Consumed 1)) ∷  -- ESC ., the form of the cursor
    (0x30, reads (Consumed 2)) ∷  -- ESC 0, what an editing key sends
    (0x31, does SetTab) ∷  -- ESC 1, set a tab stop
    (0x32, does ClearTab) ∷  -- ESC 2, clear a tab stop
    (0x33, does ClearTabs) ∷  -- ESC 3, clear all tab stops
    (0x3A, does Clear) ∷  -- ESC :, clear unprotected to nulls
    (0x3B, does Clear) ∷  -- ESC ;, clear unprotected to spaces
    (0x3D, reads Row) ∷  -- ESC =, cursor to row and column
    (0x44, reads (Consumed 1)) ∷  -- ESC D, half or full duplex
    (0x45, does (InsertLines 1)) ∷  -- ESC E, insert a line
    (0x47, reads Looks) ∷  -- ESC G, attributes
    (0x51, does (InsertCharacters 1)) ∷  -- ESC Q, insert a character
    (0x52, does (DeleteLines 1)) ∷  -- ESC R, delete a line
    (0x54, does (EraseLine ToEnd)) ∷  -- ESC T, erase to the end of the line, with spaces
    (0x57, does (DeleteCharacters 1)) ∷  -- ESC W, delete a character
    (0x59, does (EraseScreen ToEnd)) ∷  -- ESC Y, erase to the end of the page, with spaces
    (0x66, reads (ConsumedTo 0x0D)) ∷  -- ESC f, the user's line, up to CR
    (0x6A, does ReverseLineFeed) ∷  -- ESC j, reverse line feed
    (0x71, does (Insertion true)) ∷  -- ESC q, insertion on
    (0x72, does (Insertion false)) ∷  -- ESC r, insertion off
    (0x74, does (EraseLine ToEnd)) ∷  -- ESC t, erase to the end of the line, with nulls
    (0x78, reads (Consumed 3)) ∷  -- ESC x, delimiters
    (0x79, does (EraseScreen ToEnd)) ∷  -- ESC y, erase to the end of the page, with nulls
    (0x7C, reads (ConsumedTo 0x19)) ∷  -- ESC |, what a function key sends, up to ^Y
    []

-- whether a byte has a bit, by the bit's value
abbrev pub bit_is_set : ℕ → ℕ → Bool
bit_is_set byte bit = not (bit_and byte bit == 0)

-- TeleVideo 950 operator's manual, section 4, Visual attributes: 30h and 2 for blinking, 4 for reverse, 8 for underlined; own: 1, blank, shows
-- the character, and the attributes take no place on the screen
unfoldable pub televideo_look : ℕ → Attributes
televideo_look byte = record { bold = false; underline = bit_is_set byte 8; blink = bit_is_set byte 2; reverse = bit_is_set byte 4 }

-- VT52 user guide, Control codes
abbrev pub vt52_controls : List (ℕ × Receipt)
vt52_controls =
    (0x08, does (Left 1)) ∷  -- backspace
    (0x09, does FixedTab) ∷  -- tab
    (0x0A, does LineFeed) ∷  -- line feed
    (0x0D, does LineStart) ∷  -- carriage return
    (0x1B, reads Escape) ∷  -- escape
    []

-- VT52 user guide, Escape sequences; own: graphics mode, ESC F and ESC G, shows the letters
abbrev pub vt52_escapes : List (ℕ × Receipt)
vt52_escapes =
    (0x1B, reads Escape) ∷  -- ESC, the sequence begins anew
    (0x41, does (Up 1)) ∷  -- ESC A, cursor up
    (0x42, does (Down 1)) ∷  -- ESC B, cursor down
    (0x43, does (Right 1)) ∷  -- ESC C, cursor right
    (0x44, does (Left 1)) ∷  -- ESC D, cursor left
    (0x48, does Home) ∷  -- ESC H, cursor to home
    (0x49, does ReverseLineFeed) ∷  -- ESC I, reverse line feed
    (0x4A, does (EraseScreen ToEnd)) ∷  -- ESC J, erase to end of screen
    (0x4B, does (EraseLine ToEnd)) ∷  -- ESC K, erase to end of line
    (0x59, reads Row) ∷  -- ESC Y, direct cursor address
    []

-- own: of so many bytes that are consumed one is gone
unfoldable pub consumed_one : ℕ → Receipt
consumed_one count = if nat_le count 1 then nothing_done else reads (Consumed (count - 1))

-- own: a byte that is consumed, up to the last one
unfoldable pub consumed_to : ℕ → ℕ → Receipt
consumed_to last byte = if byte == last then nothing_done else reads (ConsumedTo last)

-- what a byte means to each of these terminals, by the sequence that is being read
unfoldable pub adm3a_receipt : Sequence → ℕ → Receipt
adm3a_receipt Text byte = of_text adm3a_controls byte
adm3a_receipt Escape byte = receipt_in adm3a_escapes nothing_done byte
adm3a_receipt Row byte = reads (Column byte)
adm3a_receipt (Column row) byte = does (Address row byte)
adm3a_receipt _ byte = nothing_done

unfoldable pub kaypro_receipt : Sequence → ℕ → Receipt
kaypro_receipt Text byte = of_text kaypro_controls byte
kaypro_receipt Escape byte = receipt_in kaypro_escapes nothing_done byte
kaypro_receipt Row byte = reads (Column byte)
kaypro_receipt (Column row) byte = does (Address row byte)
kaypro_receipt (sequence.Switch on) byte = receipt_in (kaypro_attributes on) nothing_done byte
kaypro_receipt (Consumed count) byte = consumed_one count
kaypro_receipt _ byte = nothing_done

unfoldable pub televideo_receipt : Sequence → ℕ → Receipt
televideo_receipt Text byte = of_text televideo_controls byte
televideo_receipt Escape byte = receipt_in televideo_escapes nothing_done byte
televideo_receipt Row byte = reads (Column byte)
televideo_receipt (Column row) byte = does (Address row byte)
televideo_receipt Page byte = reads Row
televideo_receipt Looks byte = does (Look (televideo_look byte))
televideo_receipt (Consumed count) byte = consumed_one count
televideo_receipt (ConsumedTo last) byte = consumed_to last byte
televideo_receipt _ byte = nothing_done

unfoldable pub vt52_receipt : Sequence → ℕ → Receipt
vt52_receipt Text byte = of_text vt52_controls byte
vt52_receipt Escape byte = receipt_in vt52_escapes nothing_done byte
vt52_receipt Row byte = reads (Column byte)
vt52_receipt (Column row) byte = does (Address row byte)
vt52_receipt _ byte = nothing_done
