use Rattle.std.proofs.Common.{◌≡◌, ◌/◌, arith}
use Rattle.std.proofs.lemmas.Bool.Decides.{nat_tests}
use Rattle.cpm_decode.proofs.ArmsZ80Bits.{shifts, tests, resets, sets, no_shift}
use Rattle.cpm_decode.proofs.bits_z80.bits_row.Goals as goal

pub returns-then-field-eq6 : goal.returns-then-field-eq6
returns-then-field-eq6 c =
    let row = no_shift c.args.opcode (omega arith) (grind (arith, nat_tests)) in
    cc

pub returns-else-field-eq6 : goal.returns-else-field-eq6
returns-else-field-eq6 c =
    let row = shifts c.args.opcode (omega arith) (grind (arith, nat_tests)) in
    cc

pub returns-in-1 : goal.returns-in-1
returns-in-1 c =
    let row = tests c.args.opcode (omega arith) (grind (arith, nat_tests)) in
    cc

pub returns-in-2 : goal.returns-in-2
returns-in-2 c =
    let row = resets c.args.opcode (omega arith) (grind (arith, nat_tests)) in
    cc

pub returns-in_default : goal.returns-in_default
returns-in_default c =
    let last : c.args.opcode / 64 ≡ 3 = omega arith in
    let row = sets c.args.opcode (omega arith) (grind (arith, nat_tests)) in
    cc
