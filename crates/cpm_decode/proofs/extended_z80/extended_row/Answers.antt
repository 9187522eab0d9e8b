use Rattle.std.proofs.Common.{arith}
use Rattle.std.proofs.lemmas.Bool.Decides.{nat_tests}
use Rattle.cpm_decode.proofs.ArmsZ80Extended.{not_extended}
use Rattle.cpm_decode.proofs.extended_z80.extended_row.Goals as goal

pub returns-in_default : goal.returns-in_default
returns-in_default c =
    let row = not_extended c.args.low c.args.high c.args.opcode (omega arith) (grind (arith, nat_tests)) in
    cc
