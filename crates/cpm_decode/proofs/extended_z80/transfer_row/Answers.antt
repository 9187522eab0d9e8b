use Rattle.std.proofs.Common.{arith}
use Rattle.std.proofs.lemmas.Bool.Decides.{nat_tests}
use Rattle.cpm_decode.proofs.ArmsZ80Extended.{no_transfer}
use Rattle.cpm_decode.specs.RowsZ80Extended.{decoded_extended}
use Rattle.cpm_decode.proofs.extended_z80.transfer_row.Goals as goal

pub returns-in-71 : goal.returns-in-71
unfolding decoded_extended
returns-in-71 c =
    rw (c.in_two.ensures, c.in-71.is)

pub returns-in-79 : goal.returns-in-79
unfolding decoded_extended
returns-in-79 c =
    rw (c.in_two-in-79.ensures, c.in-79.is)

pub returns-in-87 : goal.returns-in-87
unfolding decoded_extended
returns-in-87 c =
    rw (c.in_two-in-87.ensures, c.in-87.is)

pub returns-in-95 : goal.returns-in-95
unfolding decoded_extended
returns-in-95 c =
    rw (c.in_two-in-95.ensures, c.in-95.is)

pub returns-in-103 : goal.returns-in-103
unfolding decoded_extended
returns-in-103 c =
    rw (c.in_two-in-103.ensures, c.in-103.is)

pub returns-in-111 : goal.returns-in-111
unfolding decoded_extended
returns-in-111 c =
    rw (c.in_two-in-111.ensures, c.in-111.is)

pub returns-in_default : goal.returns-in_default
returns-in_default c =
    let row = no_transfer c.args.low c.args.high c.args.opcode (omega arith) (grind (arith, nat_tests)) in
    cc
