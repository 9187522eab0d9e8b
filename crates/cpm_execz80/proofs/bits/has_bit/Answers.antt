use Rattle.cpm_execz80.proofs.BitLemmas.{tested_by}
use Rattle.cpm_execz80.proofs.bits.has_bit.Goals as goal

pub returns : goal.returns
returns c =
    rw (c.wrapping_shr.ensures, c.from.ensures) (tested_by c.args.byte c.args.bit)
