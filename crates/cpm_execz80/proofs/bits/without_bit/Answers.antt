use Rattle.std.proofs.Common.{arith}
use Rattle.cpm_execz80.proofs.BitLemmas.{mask_of, cleared_by}
use Rattle.cpm_execz80.proofs.bits.without_bit.Goals as goal

pub returns : goal.returns
returns c =
    rw (c.wrapping_shl.ensures, c.from.ensures, mask_of c.args.bit) (cleared_by c.args.byte c.args.bit (omega arith))
