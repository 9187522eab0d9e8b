-- The bytes of an instruction are at most four.
use Rattle.std.proofs.Common.{◌≤◌, length, arith}
use Rattle.std.proofs.lemmas.Grind.{common_steps}
use Rattle.cpm_listing.proofs.RowLengthsZ80.{row_is_short_z80}
use Rattle.cpm_listing.proofs.listing_z80.list_line_z80.Goals as goal

pub slice_bounds-bytes-end : goal.slice_bounds-bytes-end
slice_bounds-bytes-end c = let h = row_is_short_z80 _ _ _ _ _ c.in-Some.ensures in omega arith

pub slice_bounds-shown-end : goal.slice_bounds-shown-end
slice_bounds-shown-end c = let h = row_is_short_z80 _ _ _ _ _ c.in-Some.ensures in let few : c.from.result ≤ length c.args.bytes = omega arith in grind (arith, common_steps)
