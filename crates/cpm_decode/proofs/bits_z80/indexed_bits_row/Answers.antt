use Rattle.std.proofs.Common.{◌≡◌, ◌/◌, arith}
use Rattle.std.proofs.lemmas.Bool.Decides.{nat_tests}
use Rattle.cpm_decode.proofs.ArmsZ80Bits.{indexed_shifts, indexed_tests, indexed_resets, indexed_sets, no_indexed_shift, no_indexed_bits}
use Rattle.cpm_decode.proofs.bits_z80.indexed_bits_row.Goals as goal

pub returns-then-opcode-ne6 : goal.returns-then-opcode-ne6
returns-then-opcode-ne6 c =
    let row = no_indexed_bits c.args.index c.args.displacement c.args.opcode (omega arith) (grind (arith, nat_tests)) in
    cc

pub returns-then-field-eq6 : goal.returns-then-field-eq6
returns-then-field-eq6 c =
    let row = no_indexed_shift c.args.index c.args.displacement c.args.opcode (omega arith) (grind (arith, nat_tests)) in
    cc

pub returns-else-field-eq6 : goal.returns-else-field-eq6
returns-else-field-eq6 c =
    let row = indexed_shifts c.args.index c.args.displacement c.args.opcode (omega arith) (grind (arith, nat_tests)) in
    cc

pub returns-in-1 : goal.returns-in-1
returns-in-1 c =
    let row = indexed_tests c.args.index c.args.displacement c.args.opcode (omega arith) (grind (arith, nat_tests)) in
    cc

pub returns-in-2 : goal.returns-in-2
returns-in-2 c =
    let row = indexed_resets c.args.index c.args.displacement c.args.opcode (omega arith) (grind (arith, nat_tests)) in
    cc

pub returns-in_default : goal.returns-in_default
returns-in_default c =
    let last : c.args.opcode / 64 ≡ 3 = omega arith in
    let row = indexed_sets c.args.index c.args.displacement c.args.opcode (omega arith) (grind (arith, nat_tests)) in
    cc
