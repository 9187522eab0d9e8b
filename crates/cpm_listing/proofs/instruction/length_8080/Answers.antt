use Rattle.std.proofs.Common.{◌∙◌, sym, arith}
use Rattle.cpm_listing.proofs.RowLengths8080.{row_length}
use Rattle.cpm_listing.proofs.instruction.length_8080.Goals as goal

pub returns-in-Some-clause-some : goal.returns-in-Some-clause-some
returns-in-Some-clause-some c =
    let has = row_length _ _ _ c.in-Some.decoded (sym c.row8080.ensures ∙ c.in-Some.is) in omega (arith, has, c.from.ensures)
