-- What bytes mean to the VT100: a row for each byte, with the manual's words after it.
use Rattle.std.specs.Prelude.{ℕ, Bool, true, false, ◌==◌, ◌+◌, ◌-◌, ◌*◌, ◌&&◌, ◌||◌, min, max, nat_le, nat_lt, if◌then◌else◌, List, [], ◌∷◌, Option}
use Rattle.std.specs.Prelude.{Some, None, replicate, slice_index, slice_set}
use Rattle.cpm_screen.specs.declared.cell.CharacterSet.TheVariants.{Ascii, Drawing}
use Rattle.cpm_screen.specs.declared.action.Span.{Span}
use Rattle.cpm_screen.specs.declared.action.Span.TheVariants.{ToEnd, FromStart, Whole}
use Rattle.cpm_screen.specs.declared.action.Parameters.{Parameters}
use Rattle.cpm_screen.specs.declared.action.Sequence.{Sequence}
use Rattle.cpm_screen.specs.declared.action.Sequence.TheVariants.{Text, Escape, Control, Designation, Intermediate}
use Rattle.cpm_screen.specs.declared.action.Action.TheVariants.{Nothing, Character, Up, Down, Left, Right, LineStart, LineFeed, ReverseLineFeed, NextLine}
use Rattle.cpm_screen.specs.declared.action.Action.TheVariants.{Place, Tab, SetTab, ClearTab, ClearTabs, EraseScreen, EraseLine}
use Rattle.cpm_screen.specs.declared.action.Action.TheVariants.{InsertLines, DeleteLines, DeleteCharacters, Rendition, Modes, Region}
use Rattle.cpm_screen.specs.declared.action.Action.TheVariants.{SaveCursor, RestoreCursor, Designate, Shift, Reset}
use Rattle.cpm_screen.specs.declared.action.Receipt.{Receipt}
use Rattle.cpm_screen.specs.Receipts.{does, reads, nothing_done, receipt_in}

-- VT100 user guide, Control characters; own: those without a row show nothing
abbrev pub vt100_controls : List (ℕ × Receipt)
vt100_controls =
    (0x08, does (Left 1)) ∷  -- BS
    (0x09, does Tab) ∷  -- HT
    (0x0A, does LineFeed) ∷  -- LF
    (0x0B, does LineFeed) ∷  -- VT, as LF
    (0x0C, does LineFeed) ∷  -- FF, as LF
    (0x0D, does LineStart) ∷  -- CR
    (0x0E, does (Shift true)) ∷  -- SO, the G1 character set
    (0x0F, does (Shift false)) ∷  -- SI, the G0 character set
    []

-- VT100 user guide, ANSI compatible mode: escape sequences. # and the other signs up to / are followed by a byte; own: double height and
-- width, the test pattern, the keypad's modes and the terminal's name show nothing
abbrev pub vt100_escapes : Receipt → List (ℕ × Receipt)
vt100_escapes begun =
    (0x28, reads (Designation false)) ∷  -- ESC (, SCS: G0
    (0x29, reads (Designation true)) ∷  -- ESC ), SCS: G1
    (0x37, does SaveCursor) ∷  -- ESC 7, DECSC
    (0x38, does RestoreCursor) ∷  -- ESC 8, DECRC
    (0x44, does LineFeed) ∷  -- ESC D, IND
    (0x45, does NextLine) ∷  -- ESC E, NEL
    (0x48, does SetTab) ∷  -- ESC H, HTS
    (0x4D, does ReverseLineFeed) ∷  -- ESC M, RI
    (0x5B, begun) ∷  -- ESC [, CSI
    (0x63, does Reset) ∷  -- ESC c, RIS
    []

-- own: no parameter yet
abbrev pub no_parameters : Parameters
no_parameters = record { numbers = replicate 16 0; place = 0; is_private = false; is_unknown = false }

-- ECMA-48, section 5.4, Control sequences: a digit of a number, and the next number; own: a number above 255 is 255, and those past 16 are lost
unfoldable pub with_digit : Parameters → ℕ → Parameters
with_digit p digit =
    if nat_lt p.place 16 then record p { numbers = slice_set p.numbers p.place (min 255 (10 * slice_index p.numbers p.place + digit)) } else p

unfoldable pub with_next : Parameters → Parameters
with_next p = if nat_lt p.place 16 then record p { place = p.place + 1 } else p

-- VT100 user guide: the first parameter where it counts, of which 0 is 1
abbrev pub first_count : Parameters → ℕ
first_count p = max 1 (slice_index p.numbers 0)

-- VT100 user guide, ED and EL: what is erased by a number
unfoldable pub span_numbered : ℕ → Option Span
span_numbered n = if n == 0 then Some ToEnd else (if n == 1 then Some FromStart else (if n == 2 then Some Whole else None))

abbrev pub screen_span_receipt : Option Span → Receipt
screen_span_receipt None = nothing_done
screen_span_receipt (Some span) = does (EraseScreen span)

abbrev pub line_span_receipt : Option Span → Receipt
line_span_receipt None = nothing_done
line_span_receipt (Some span) = does (EraseLine span)

-- VT100 user guide, TBC: 0 the tab stop of the column, 3 all
unfoldable pub tabs_cleared : ℕ → Receipt
tabs_cleared n = if n == 0 then does ClearTab else (if n == 3 then does ClearTabs else nothing_done)

-- VT100 user guide, ANSI compatible mode, and VT102 user guide for IL, DL and DCH: control sequences by their final byte
abbrev pub vt100_finals : Parameters → List (ℕ × Receipt)
vt100_finals p =
    (0x41, does (Up (first_count p))) ∷  -- A, CUU
    (0x42, does (Down (first_count p))) ∷  -- B, CUD
    (0x43, does (Right (first_count p))) ∷  -- C, CUF
    (0x44, does (Left (first_count p))) ∷  -- D, CUB
    (0x48, does (Place (slice_index p.numbers 0 - 1) (slice_index p.numbers 1 - 1))) ∷  -- H, CUP
    (0x4A, screen_span_receipt (span_numbered (slice_index p.numbers 0))) ∷  -- J, ED
    (0x4B, line_span_receipt (span_numbered (slice_index p.numbers 0))) ∷  -- K, EL
    (0x4C, does (InsertLines (first_count p))) ∷  -- L, IL
    (0x4D, does (DeleteLines (first_count p))) ∷  -- M, DL
    (0x50, does (DeleteCharacters (first_count p))) ∷  -- P, DCH
    (0x66, does (Place (slice_index p.numbers 0 - 1) (slice_index p.numbers 1 - 1))) ∷  -- f, HVP
    (0x67, tabs_cleared (slice_index p.numbers 0)) ∷  -- g, TBC
    (0x68, does (Modes p true)) ∷  -- h, SM
    (0x6C, does (Modes p false)) ∷  -- l, RM
    (0x6D, does (Rendition p)) ∷  -- m, SGR
    (0x72, does (Region (slice_index p.numbers 0) (slice_index p.numbers 1))) ∷  -- r, DECSTBM
    []

-- VT100 user guide, SM and RM with a ?: DEC's own modes
abbrev pub vt100_private_finals : Parameters → List (ℕ × Receipt)
vt100_private_finals p =
    (0x68, does (Modes p true)) ∷  -- h, SM
    (0x6C, does (Modes p false)) ∷  -- l, RM
    []

unfoldable pub vt100_final : Parameters → ℕ → Receipt
vt100_final p byte =
    if p.is_unknown then nothing_done
    else (if p.is_private then receipt_in (vt100_private_finals p) nothing_done byte else receipt_in (vt100_finals p) nothing_done byte)

-- ECMA-48, section 5.4, Control sequences: parameters are 30h to 3Fh, the bytes between 20h to 2Fh, the last one 40h to 7Eh
unfoldable pub vt100_parameter : Parameters → ℕ → Receipt
vt100_parameter p byte =
    if nat_le 0x30 byte && nat_le byte 0x39 then reads (Control (with_digit p (byte - 0x30)))
    else (if byte == 0x3B then reads (Control (with_next p))
    else (if byte == 0x3F then reads (Control (record p { is_private = true }))
    else (if nat_lt byte 0x40 then reads (Control (record p { is_unknown = true }))
    else (if nat_lt byte 0x80 then vt100_final p byte else nothing_done))))

-- VT100 user guide, SCS: the character sets; own: the United Kingdom's and those of an alternate ROM are as ASCII and as the drawing set
unfoldable pub vt100_designation : Bool → ℕ → Receipt
vt100_designation is_g1 byte =
    if (byte == 0x30) || (byte == 0x32) then does (Designate is_g1 Drawing)
    else (if (byte == 0x41) || (byte == 0x42) || (byte == 0x31) then does (Designate is_g1 Ascii)
    else (if nat_lt byte 0x30 then reads Intermediate else nothing_done))

unfoldable pub vt100_escape : ℕ → Receipt
vt100_escape byte = receipt_in (vt100_escapes (reads (Control no_parameters))) (if nat_lt byte 0x30 then reads Intermediate else nothing_done) byte

unfoldable pub vt100_character : Sequence → ℕ → Receipt
vt100_character Text byte = does (Character byte)
vt100_character Escape byte = vt100_escape byte
vt100_character (Control p) byte = vt100_parameter p byte
vt100_character (Designation is_g1) byte = vt100_designation is_g1 byte
vt100_character Intermediate byte = if nat_lt byte 0x30 then reads Intermediate else nothing_done
vt100_character _ byte = nothing_done

-- VT100 user guide, Control characters: within a sequence they are done and it goes on; ESC begins one anew, and CAN and SUB end it
unfoldable pub vt100_receipt : Sequence → ℕ → Receipt
vt100_receipt sequence byte =
    if byte == 0x1B then reads Escape
    else (if (byte == 0x18) || (byte == 0x1A) then nothing_done
    else (if byte == 0x7F then record { action = Nothing; sequence = sequence }
    else (if nat_lt byte 0x20 then record { action = (receipt_in vt100_controls nothing_done byte).action; sequence = sequence }
    else vt100_character sequence byte)))
