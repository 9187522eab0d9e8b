use Rattle.std.proofs.Common.{◌≡◌, ◌%◌, arith}
use Rattle.std.proofs.lemmas.Nat.{and_mask}
use Rattle.cpm_decode.proofs.bits_z80.shift_of.Goals as goal

pub returns-in_default : goal.returns-in_default
returns-in_default c =
    let last : c.args.bits % 8 ≡ 7 = omega (arith, and_mask c.args.bits 3) in
    rw last
