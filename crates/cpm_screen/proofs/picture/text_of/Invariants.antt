use Rattle.std.proofs.Common.{◌≡◌, take}
use Rattle.std.specs.List.{flat_map}
use Rattle.cpm_screen.specs.Pictures.{row_text}
use Rattle.cpm_screen.proofs.picture.text_of.Given as goal

abbrev pub invariant-loop-row : goal.invariant-loop-row
invariant-loop-row l = l.text.items ≡ flat_map (λ row. row_text (take l.screen.columns row)) (take l.row l.screen.lines)
