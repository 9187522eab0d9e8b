use Rattle.std.proofs.Common.{◌≡◌, ◌++◌, take}
use Rattle.std.specs.Prelude.{map}
use Rattle.cpm_screen.specs.Pictures.{seen_character}
use Rattle.cpm_screen.proofs.picture.append_line.Given as goal

abbrev pub invariant-loop-column : goal.invariant-loop-column
invariant-loop-column l = l.out.items ≡ l.initial.out.items ++ take l.column (map seen_character l.cells)
