use Rattle.std.proofs.Common.{ap, bit_or, ℕ}
use Rattle.cpm_execz80.proofs.BitLemmas.{mask_of}
use Rattle.cpm_execz80.proofs.bits.with_bit.Goals as goal

pub returns : goal.returns
returns c =
    ap (λ (m : ℕ). bit_or c.args.byte m) (rw (c.wrapping_shl.ensures, c.from.ensures) (mask_of c.args.bit))
