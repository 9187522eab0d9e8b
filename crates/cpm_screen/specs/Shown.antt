-- What a screen is after bytes were shown on it.
use Rattle.std.specs.Prelude.{ℕ, true, false, List, fold}
use Rattle.cpm_screen.specs.declared.terminal.TerminalKind.{TerminalKind}
use Rattle.cpm_screen.specs.declared.terminal.TerminalKind.TheVariants.{Adm3a, Kaypro, Televideo, Vt52, Vt100}
use Rattle.cpm_screen.specs.declared.action.Sequence.{Sequence}
use Rattle.cpm_screen.specs.declared.action.Receipt.{Receipt}
use Rattle.cpm_screen.specs.declared.action.Action.{Action}
use Rattle.cpm_screen.specs.declared.action.Action.TheVariants.{Nothing, Character, Up, Down, Left, Right, LineStart, LineFeed, ReverseLineFeed, NextLine}
use Rattle.cpm_screen.specs.declared.action.Action.TheVariants.{Home, Place, Address, Tab, FixedTab, SetTab, ClearTab, ClearTabs, Clear, EraseScreen, EraseLine}
use Rattle.cpm_screen.specs.declared.action.Action.TheVariants.{InsertLines, DeleteLines, InsertCharacters, DeleteCharacters, Look, Switch, Rendition}
use Rattle.cpm_screen.specs.declared.action.Action.TheVariants.{Modes, Insertion, Region, SaveCursor, RestoreCursor, Designate, Shift, Reset}
use Rattle.cpm_screen.specs.Receipts.{adm3a_receipt, kaypro_receipt, televideo_receipt, vt52_receipt}
use Rattle.cpm_screen.specs.Vt100.{vt100_receipt}
use Rattle.cpm_screen.specs.State.{ScreenState}
use Rattle.cpm_screen.specs.Motions.{moved_to, moved_up, moved_down, moved_left, moved_right, at_line_start, line_fed, line_fed_back, on_next_line}
use Rattle.cpm_screen.specs.Motions.{placed, addressed, tabbed, tabbed_by_eight}
use Rattle.cpm_screen.specs.Edits.{line_erased, screen_erased_by, cleared, lines_inserted, lines_deleted, characters_inserted, characters_deleted}
use Rattle.cpm_screen.specs.Edits.{character_shown}
use Rattle.cpm_screen.specs.Modes.{switched, rendered, given_numbers, looking, with_tab, without_tabs, with_region, with_modes, with_inserts, with_saved}
use Rattle.cpm_screen.specs.Modes.{with_restored, with_set, with_shift, switched_on}

-- what a byte means to a terminal
unfoldable pub receipt_of : TerminalKind → Sequence → ℕ → Receipt
receipt_of Adm3a sequence byte = adm3a_receipt sequence byte
receipt_of Kaypro sequence byte = kaypro_receipt sequence byte
receipt_of Televideo sequence byte = televideo_receipt sequence byte
receipt_of Vt52 sequence byte = vt52_receipt sequence byte
receipt_of Vt100 sequence byte = vt100_receipt sequence byte

-- what is done to a screen
unfoldable pub performed : Action → ScreenState → ScreenState
performed Nothing s = s
performed (Character byte) s = character_shown byte s
performed (Up n) s = moved_up n s
performed (Down n) s = moved_down n s
performed (Left n) s = moved_left n s
performed (Right n) s = moved_right n s
performed LineStart s = at_line_start s
performed LineFeed s = line_fed s
performed ReverseLineFeed s = line_fed_back s
performed NextLine s = on_next_line s
performed Home s = moved_to 0 0 s
performed (Place row column) s = placed row column s
performed (Address row column) s = addressed row column s
performed Tab s = tabbed s
performed FixedTab s = tabbed_by_eight s
performed SetTab s = with_tab true s
performed ClearTab s = with_tab false s
performed ClearTabs s = without_tabs s
performed Clear s = cleared s
performed (EraseScreen span) s = screen_erased_by span s
performed (EraseLine span) s = line_erased span s
performed (InsertLines n) s = lines_inserted n s
performed (DeleteLines n) s = lines_deleted n s
performed (InsertCharacters n) s = characters_inserted n s
performed (DeleteCharacters n) s = characters_deleted n s
performed (Look attributes) s = looking attributes s
performed (Switch attribute on) s = looking (switched attribute on s.cursor.attributes) s
performed (Rendition p) s = looking (fold rendered s.cursor.attributes (given_numbers p)) s
performed (Modes p on) s = with_modes p on s
performed (Insertion on) s = with_inserts on s
performed (Region first last) s = with_region first last s
performed SaveCursor s = with_saved s
performed RestoreCursor s = with_restored s
performed (Designate is_g1 set) s = with_set is_g1 set s
performed (Shift is_g1) s = with_shift is_g1 s
performed Reset s = switched_on s

-- a byte shown on a screen
unfoldable pub byte_shown : ScreenState → ℕ → ScreenState
byte_shown s byte =
    let receipt = receipt_of s.terminal s.sequence byte in
    performed receipt.action (record s { sequence = receipt.sequence })

-- bytes shown on a screen, one after the other
abbrev pub after_bytes : List ℕ → ScreenState → ScreenState
after_bytes bytes s = fold byte_shown s bytes
