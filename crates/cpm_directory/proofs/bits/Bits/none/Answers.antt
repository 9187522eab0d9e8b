use Rattle.std.proofs.Common.{replicate}
use Rattle.cpm_directory.proofs.BitsLemmas.{none_holds, zero_rows}
use Rattle.cpm_directory.proofs.bits.Bits.none.Goals as goal

pub returns : goal.returns
returns c = none_holds (replicate 8 0) (zero_rows 8)
