-- The bytes of an instruction are at most three.
use Rattle.std.proofs.Common.{◌≤◌, length, arith}
use Rattle.std.proofs.lemmas.Grind.{common_steps}
use Rattle.cpm_listing.proofs.RowLengths.{row_is_short}
use Rattle.cpm_listing.proofs.listing.list_line.Goals as goal

pub slice_bounds-bytes-end : goal.slice_bounds-bytes-end
slice_bounds-bytes-end c = let h = row_is_short _ _ _ _ c.in-Some.ensures in omega arith

pub slice_bounds-shown-end : goal.slice_bounds-shown-end
slice_bounds-shown-end c = let h = row_is_short _ _ _ _ c.in-Some.ensures in let few : c.from.result ≤ length c.args.bytes = omega arith in grind (arith, common_steps)
