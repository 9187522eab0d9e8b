-- The console and the line that is being read, in a saving. All of it is own.
use Rattle.std.specs.Prelude.{◌==◌}
use Rattle.cpm_flags.specs.Arithmetic.{bit}
use Rattle.cpm_console.specs.EditedLine.{EditedLine}
use Rattle.cpm_console.specs.Terminal.{Terminal, most_pending, most_waiting}
use Rattle.cpm_saved.specs.Layout.{Layout, Below, Both, AnyByte, Run, laid_out}
use Rattle.cpm_saved.specs.declared.part.SavingPart.TheVariants as part

-- the keys that were not read, the console bytes and the list bytes that were not taken, the column, and whether ^P is on
abbrev pub console_layout : Layout
console_layout =
    Both (Run part.Keys most_pending 256) (Both (Run part.ConsoleBytes most_waiting 256) (Both (Run part.ListBytes most_waiting 256)
    (Both (AnyByte part.Column) (Below part.ListEcho 2))))

abbrev pub console_fields : Terminal → laid_out console_layout
console_fields t = (t.keys, (t.screen, (t.printer, (t.column, bit t.list_echo))))

abbrev pub console_of_fields : laid_out console_layout → Terminal
console_of_fields v = record { keys = v.0; screen = v.1.0; printer = v.1.1.0; column = v.1.1.1.0; list_echo = v.1.1.1.1 == 1 }

-- the column where the line begins, how many characters it may have, and those that it has
abbrev pub line_layout : Layout
line_layout = Both (AnyByte part.Line) (Both (AnyByte part.Line) (Run part.Line 255 256))

abbrev pub line_fields : EditedLine → laid_out line_layout
line_fields l = (l.start, (l.limit, l.characters))

abbrev pub line_of_fields : laid_out line_layout → EditedLine
line_of_fields v = record { start = v.0; limit = v.1.0; characters = v.1.1 }
