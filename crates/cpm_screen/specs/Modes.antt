-- Attributes, tab stops, the scrolling region, modes, and what is saved.
use Rattle.std.specs.Prelude.{ℕ, ◌+◌, ◌-◌, ◌==◌, Bool, true, false, min, nat_lt, if◌then◌else◌, List, length, take, fold, replicate, slice_set}
use Rattle.cpm_screen.specs.declared.cell.Attribute.{Attribute}
use Rattle.cpm_screen.specs.declared.cell.Attribute.TheVariants.{Bold, Underline, Blink, Reverse}
use Rattle.cpm_screen.specs.declared.cell.Attributes.{Attributes}
use Rattle.cpm_screen.specs.declared.cell.CharacterSet.{CharacterSet}
use Rattle.cpm_screen.specs.declared.cell.TheConstants.{PLAIN}
use Rattle.cpm_screen.specs.declared.terminal.Wrap.TheVariants.{Later, Never}
use Rattle.cpm_screen.specs.declared.action.Parameters.{Parameters}
use Rattle.cpm_screen.specs.declared.action.Span.TheVariants.{Whole}
use Rattle.cpm_screen.specs.declared.cursor.TheConstants.{FRESH}
use Rattle.cpm_screen.specs.Cursors.{wrap_of}
use Rattle.cpm_screen.specs.State.{ScreenState, fresh_tabs}
use Rattle.cpm_screen.specs.Motions.{placed}
use Rattle.cpm_screen.specs.Edits.{rows_erased}

-- one attribute on or off
unfoldable pub switched : Attribute → Bool → Attributes → Attributes
switched Bold on a = record a { bold = on }
switched Underline on a = record a { underline = on }
switched Blink on a = record a { blink = on }
switched Reverse on a = record a { reverse = on }

-- VT100 user guide, SGR: 0 none, 1 bold, 4 underscore, 5 blink, 7 reverse; ECMA-48, section 8.3.117, SGR: 22, 24, 25, 27 put them out
unfoldable pub rendered : Attributes → ℕ → Attributes
rendered a n =
    if n == 0 then PLAIN
    else (if n == 1 then record a { bold = true }
    else (if n == 4 then record a { underline = true }
    else (if n == 5 then record a { blink = true }
    else (if n == 7 then record a { reverse = true }
    else (if n == 22 then record a { bold = false }
    else (if n == 24 then record a { underline = false }
    else (if n == 25 then record a { blink = false }
    else (if n == 27 then record a { reverse = false } else a))))))))

-- the parameters that were given, of which there is one at least
abbrev pub given_numbers : Parameters → List ℕ
given_numbers p = take (p.place + 1) p.numbers

-- the attributes of what comes
unfoldable pub looking : Attributes → ScreenState → ScreenState
looking a s = record s { cursor = record s.cursor { attributes = a } }

-- tab stops
unfoldable pub with_tab : Bool → ScreenState → ScreenState
with_tab stop s = record s { tabs = slice_set s.tabs s.cursor.column stop }

unfoldable pub without_tabs : ScreenState → ScreenState
without_tabs s = record s { tabs = replicate 132 false }

-- VT100 user guide, DECSTBM: the region has two lines at least, and the cursor goes home; own: a row past the last one is the last one
abbrev pub region_top : ℕ → ℕ
region_top first = first - 1

abbrev pub region_bottom : ℕ → ScreenState → ℕ
region_bottom last s = if last == 0 then length s.lines - 1 else min (length s.lines - 1) (last - 1)

unfoldable pub with_region : ℕ → ℕ → ScreenState → ScreenState
with_region first last s =
    if nat_lt (region_top first) (region_bottom last s) then placed 0 0 (record s { top = region_top first; bottom = region_bottom last s }) else s

-- VT100 user guide, DECOM: rows count from the top of the scrolling region, or of the screen, and the cursor goes home
unfoldable pub with_origin : Bool → ScreenState → ScreenState
with_origin on s = placed 0 0 (record s { cursor = record s.cursor { is_origin = on } })

-- VT100 user guide, DECAWM
unfoldable pub with_wrap : Bool → ScreenState → ScreenState
with_wrap on s = record s { wrap = (if on then Later else Never) }

-- VT102 user guide, IRM, and TeleVideo 950 operator's manual, Insert mode
unfoldable pub with_inserts : Bool → ScreenState → ScreenState
with_inserts on s = record s { inserts = on }

-- VT100 user guide, SM and RM: DEC's modes 6 and 7, and ANSI's mode 4; own: the others show nothing
unfoldable pub with_mode : Bool → Bool → ScreenState → ℕ → ScreenState
with_mode is_private on s n =
    if is_private then (if n == 6 then with_origin on s else (if n == 7 then with_wrap on s else s))
    else (if n == 4 then with_inserts on s else s)

unfoldable pub with_modes : Parameters → Bool → ScreenState → ScreenState
with_modes p on s = fold (with_mode p.is_private on) s (given_numbers p)

-- VT100 user guide, DECSC and DECRC: the cursor, its attributes, character sets and origin mode
unfoldable pub with_saved : ScreenState → ScreenState
with_saved s = record s { saved = s.cursor }

unfoldable pub with_restored : ScreenState → ScreenState
with_restored s = record s { cursor = s.saved }

-- VT100 user guide, SCS, SI and SO
unfoldable pub with_set : Bool → CharacterSet → ScreenState → ScreenState
with_set is_g1 set s = record s { cursor = (if is_g1 then record s.cursor { g1 = set } else record s.cursor { g0 = set }) }

unfoldable pub with_shift : Bool → ScreenState → ScreenState
with_shift is_g1 s = record s { cursor = record s.cursor { is_shifted = is_g1 } }

-- VT100 user guide, RIS: as when it was turned on
unfoldable pub switched_on : ScreenState → ScreenState
switched_on s =
    record (rows_erased Whole s) {
      cursor = FRESH;
      saved = FRESH;
      top = 0;
      bottom = length s.lines - 1;
      tabs = fresh_tabs;
      wrap = wrap_of s.terminal;
      inserts = false;
    }
