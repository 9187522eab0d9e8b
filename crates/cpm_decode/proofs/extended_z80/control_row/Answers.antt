use Rattle.std.proofs.Common.{arith}
use Rattle.std.proofs.lemmas.Bool.Decides.{nat_tests}
use Rattle.cpm_decode.proofs.ArmsZ80Extended.{no_control}
use Rattle.cpm_decode.specs.RowsZ80Extended.{decoded_extended}
use Rattle.cpm_decode.proofs.extended_z80.control_row.Goals as goal

pub returns-in-68 : goal.returns-in-68
unfolding decoded_extended
returns-in-68 c =
    rw (c.in_two.ensures, c.in-68.is)

pub returns-in-69 : goal.returns-in-69
unfolding decoded_extended
returns-in-69 c =
    rw (c.in_two-in-69.ensures, c.in-69.is)

pub returns-in-77 : goal.returns-in-77
unfolding decoded_extended
returns-in-77 c =
    rw (c.in_two-in-77.ensures, c.in-77.is)

pub returns-in-70 : goal.returns-in-70
unfolding decoded_extended
returns-in-70 c =
    rw (c.in_two-in-70.ensures, c.in-70.is)

pub returns-in-86 : goal.returns-in-86
unfolding decoded_extended
returns-in-86 c =
    rw (c.in_two-in-86.ensures, c.in-86.is)

pub returns-in-94 : goal.returns-in-94
unfolding decoded_extended
returns-in-94 c =
    rw (c.in_two-in-94.ensures, c.in-94.is)

pub returns-in_default : goal.returns-in_default
returns-in_default c =
    let row = no_control c.args.low c.args.high c.args.opcode (omega arith) (grind (arith, nat_tests)) in
    cc
