use Rattle.std.proofs.Common.{◌≡◌, ◌++◌, take}
use Rattle.std.specs.List.{flat_map}
use Rattle.cpm_screen.specs.declared.cell.TheConstants.{PLAIN}
use Rattle.cpm_screen.specs.Pictures.{cells_page, page_head}
use Rattle.cpm_screen.proofs.picture.page_of.Given as goal

abbrev pub invariant-loop-row : goal.invariant-loop-row
invariant-loop-row l = l.page.items ≡ page_head ++ flat_map (λ row. cells_page PLAIN (take l.screen.columns row)) (take l.row l.screen.lines)
