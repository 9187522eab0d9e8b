-- What the next step does, in a saving. All of it is own.
use Rattle.std.specs.Prelude.{⊤, ℕ, ◌<◌, ◌+◌, ◌*◌, ◌%◌, Bool, ◌==◌, nat_eq, if◌then◌else◌, List, ◌∷◌, ◌++◌, slice_index}
use Rattle.std.specs.Int.{to_le_bytes, w16}
use Rattle.std.specs.Cmp.Lexicographic.{pointwise}
use Rattle.cpm_bdos.specs.declared.session.CommandPart.{CommandPart}
use Rattle.cpm_bdos.specs.declared.session.CommandPart.TheVariants as command
use Rattle.cpm_bdos.specs.declared.session.HeldOutput.{HeldOutput}
use Rattle.cpm_bdos.specs.declared.session.HeldOutput.TheVariants as held
use Rattle.cpm_bdos.specs.declared.session.Mode.{Mode}
use Rattle.cpm_bdos.specs.declared.session.Mode.TheVariants as mode
use Rattle.cpm_saved.specs.Layout.{Layout, Among}
use Rattle.cpm_saved.specs.declared.part.SavingPart.TheVariants as part

-- the number of a mode, the number of a part of the command processor, and two numbers of 16 bits; 0 for what there isn't
abbrev pub mode_row : (mode part first second : ℕ) → List ℕ
mode_row mode part first second = mode ∷ part ∷ (to_le_bytes w16 first ++ to_le_bytes w16 second)

abbrev pub command_row : ℕ → CommandPart → List ℕ
command_row n command.Line = mode_row n 0 0 0
command_row n command.Begin = mode_row n 1 0 0
command_row n (command.Directory next column) = mode_row n 2 next column
command_row n command.Answer = mode_row n 3 0 0
command_row n command.EraseAll = mode_row n 4 0 0
command_row n (command.Save next left) = mode_row n 5 next left
command_row n command.Close = mode_row n 6 0 0
command_row n command.Show = mode_row n 7 0 0
command_row n (command.Load next) = mode_row n 8 next 0

abbrev pub held_row : HeldOutput → List ℕ
held_row held.Call = mode_row 3 0 0 0
held_row (held.Text next) = mode_row 4 0 next 0
held_row (held.Command c) = command_row 5 c

abbrev pub mode_bytes : Mode → List ℕ
mode_bytes mode.Program = mode_row 0 0 0 0
mode_bytes (mode.Text next) = mode_row 1 0 next 0
mode_bytes mode.Line = mode_row 2 0 0 0
mode_bytes (mode.Hold output) = held_row output
mode_bytes mode.Fault = mode_row 6 0 0 0
mode_bytes (mode.Command c) = command_row 7 c

-- the mode of such a row
abbrev pub command_numbered : (part first second : ℕ) → CommandPart
command_numbered part first second =
    if part == 0 then command.Line
    else if part == 1 then command.Begin
    else if part == 2 then command.Directory first (second % 256)
    else if part == 3 then command.Answer
    else if part == 4 then command.EraseAll
    else if part == 5 then command.Save first second
    else if part == 6 then command.Close
    else if part == 7 then command.Show
    else command.Load first

abbrev pub mode_numbered : (mode first : ℕ) → CommandPart → Mode
mode_numbered n first c =
    if n == 0 then mode.Program
    else if n == 1 then mode.Text first
    else if n == 2 then mode.Line
    else if n == 3 then mode.Hold held.Call
    else if n == 4 then mode.Hold (held.Text first)
    else if n == 5 then mode.Hold (held.Command c)
    else if n == 6 then mode.Fault
    else mode.Command c

abbrev pub mode_word : List ℕ → ℕ → ℕ
mode_word bytes place = slice_index bytes place + 256 * slice_index bytes (place + 1)

abbrev pub mode_of_bytes : List ℕ → Mode
mode_of_bytes bytes = mode_numbered (slice_index bytes 0) (mode_word bytes 2) (command_numbered (slice_index bytes 1) (mode_word bytes 2) (mode_word bytes 4))

-- a row that is just that of its mode
abbrev pub is_mode : List ℕ → Bool
is_mode bytes = pointwise nat_eq (mode_bytes (mode_of_bytes bytes)) bytes

abbrev pub mode_layout : Layout
mode_layout = Among part.Mode 6 is_mode

-- the numbers of a mode fit where they stand
abbrev pub IsCommandFit : CommandPart → Type 0
IsCommandFit command.Line = ⊤
IsCommandFit command.Begin = ⊤
IsCommandFit (command.Directory next column) = (next < 65536) × (column < 256)
IsCommandFit command.Answer = ⊤
IsCommandFit command.EraseAll = ⊤
IsCommandFit (command.Save next left) = (next < 65536) × (left < 65536)
IsCommandFit command.Close = ⊤
IsCommandFit command.Show = ⊤
IsCommandFit (command.Load next) = next < 65536

abbrev pub IsHeldFit : HeldOutput → Type 0
IsHeldFit held.Call = ⊤
IsHeldFit (held.Text next) = next < 65536
IsHeldFit (held.Command c) = IsCommandFit c

abbrev pub IsModeFit : Mode → Type 0
IsModeFit mode.Program = ⊤
IsModeFit (mode.Text next) = next < 65536
IsModeFit mode.Line = ⊤
IsModeFit (mode.Hold output) = IsHeldFit output
IsModeFit mode.Fault = ⊤
IsModeFit (mode.Command c) = IsCommandFit c
