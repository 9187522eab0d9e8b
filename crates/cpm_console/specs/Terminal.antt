-- The console and the list device: keys that were not read yet, bytes that were not taken yet, the column of the cursor,
-- and whether the list device gets what the console shows.
use Rattle.std.specs.Prelude.{ℕ, ◌+◌, ◌-◌, ◌%◌, ◌≤◌, Bool, false, List, [], ◌∷◌, ◌++◌, length}
use Rattle.std.specs.Prelude.{drop, min, not, nat_le, ◌&&◌, ◌==◌, if◌then◌else◌, fold, replicate}
use Rattle.cpm_console.specs.declared.device.Device.{Device}
use Rattle.cpm_console.specs.declared.device.Device.TheVariants as device

-- own: both devices and the keys as lists
pub record Terminal : Type 0 where
  -- keys that were pressed and not yet read, the first pressed first
  pub keys : List ℕ
  -- console bytes that were shown and not yet taken, the first shown first
  pub screen : List ℕ
  -- list bytes likewise
  pub printer : List ℕ
  -- the column of the cursor, a function of all console bytes from the first
  pub column : ℕ
  -- whether what is said on the console goes to the list device too
  pub list_echo : Bool

-- own: a step puts at most so many bytes on each device
abbrev pub step_output : ℕ
step_output = 4096

-- own: so many keys may be pending
abbrev pub most_pending : ℕ
most_pending = 4096

-- own: so many bytes may wait on each device
abbrev pub most_waiting : ℕ
most_waiting = 8192

-- own: a console on which nothing was done
abbrev pub blank_terminal : Terminal
blank_terminal = record { keys = []; screen = []; printer = []; column = 0; list_echo = false }

-- own: a key pressed
abbrev pub pressed : Terminal → ℕ → Terminal
pressed t key = record t { keys = t.keys ++ key ∷ [] }

-- own: the first key read; with no key nothing changes
abbrev pub key_read : Terminal → Terminal
key_read t = record t { keys = drop 1 t.keys }

-- own: the bytes that wait on a device
abbrev pub waiting_on : Device → Terminal → List ℕ
waiting_on device.Console t = t.screen
waiting_on device.List t = t.printer

-- own: other bytes wait on a device
abbrev pub with_waiting : Device → List ℕ → Terminal → Terminal
with_waiting device.Console bytes t = record t { screen = bytes }
with_waiting device.List bytes t = record t { printer = bytes }

-- own: each device holds 8,192 bytes, and a step begins only where 4,096 more fit on both
abbrev pub has_room : Terminal → Bool
has_room t = nat_le (length t.screen) step_output && nat_le (length t.printer) step_output

-- own: a byte that takes a column is 20h to 7Eh or 80h to FFh
abbrev pub is_printing : ℕ → Bool
is_printing byte = nat_le 0x20 byte && not (byte == 0x7F)

-- own: the column after a byte. A backspace goes back by one, down to 0, a carriage return to 0, and what takes a column
-- goes one on, up to 255; a line feed and all others stay.
unfoldable pub column_after : ℕ → ℕ → ℕ
column_after column byte =
    if byte == 0x08 then column - 1
    else (if byte == 0x0D then 0
    else (if is_printing byte then min 255 (column + 1) else column))

-- own: the column after a text
abbrev pub column_past : ℕ → List ℕ → ℕ
column_past column bytes = fold column_after column bytes

-- CP/M 2.2 Operating System Manual, section 5.2, function 6 (Direct Console I/O): bytes shown on the console alone
unfoldable pub shown : Terminal → List ℕ → Terminal
shown t bytes = record t { screen = t.screen ++ bytes; column = column_past t.column bytes }

-- CP/M 2.2 Operating System Manual, section 5.2, function 5 (List Output): bytes sent to the list device alone
unfoldable pub printed : Terminal → List ℕ → Terminal
printed t bytes = record t { printer = t.printer ++ bytes }

-- CP/M 2.2 Operating System Manual, section 1.5, Line Editing and Output Control: after ^P what the console shows goes to
-- the list device too. Which calls show bytes so is said where they are defined.
unfoldable pub said : Terminal → List ℕ → Terminal
said t bytes =
    record t { screen = t.screen ++ bytes; printer = (if t.list_echo then t.printer ++ bytes else t.printer); column = column_past t.column bytes }

-- CP/M 2.2 Operating System Manual, section 5.2, function 2 (Console Output): a tab is shown as spaces up to the next multiple
-- of eight columns
unfoldable pub expanded : ℕ → ℕ → List ℕ
expanded column byte = if byte == 0x09 then replicate (8 - column % 8) 0x20 else byte ∷ []

-- own: at most n bytes more wait on each device
pub record IsWithin (n : ℕ) (old new : Terminal) : Type 0 where
  pub screen : length new.screen ≤ length old.screen + n
  pub printer : length new.printer ≤ length old.printer + n
