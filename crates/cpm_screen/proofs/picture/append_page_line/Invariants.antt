use Rattle.std.proofs.Common.{◌≡◌, ◌++◌, drop}
use Rattle.cpm_screen.specs.declared.cell.TheConstants.{PLAIN}
use Rattle.cpm_screen.specs.Pictures.{cells_page}
use Rattle.cpm_screen.proofs.picture.append_page_line.Given as goal

abbrev pub invariant-loop-column : goal.invariant-loop-column
invariant-loop-column l = l.out.items ++ cells_page l.look (drop l.column l.cells) ≡ l.initial.out.items ++ cells_page PLAIN l.cells
