-- The bytes of an instruction are one to four.
use Rattle.std.proofs.Common.{arith}
use Rattle.cpm_listing.proofs.RowLengthsZ80.{row_is_short_z80}
use Rattle.cpm_listing.proofs.listing_z80.length_z80.Goals as goal

pub returns-in-Some-clause-some : goal.returns-in-Some-clause-some
returns-in-Some-clause-some c = let h = row_is_short_z80 _ _ _ _ _ c.in-Some.ensures in omega arith

pub returns-in-Some-clause-few : goal.returns-in-Some-clause-few
returns-in-Some-clause-few c = let h = row_is_short_z80 _ _ _ _ _ c.in-Some.ensures in omega arith
