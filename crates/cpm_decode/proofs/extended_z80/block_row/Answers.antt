use Rattle.std.proofs.Common.{arith}
use Rattle.std.proofs.lemmas.Bool.Decides.{nat_tests}
use Rattle.cpm_decode.proofs.ArmsZ80Extended.{copies, searches, input_blocks, output_blocks, no_block}
use Rattle.cpm_decode.proofs.extended_z80.block_row.Goals as goal

pub returns-in-160 : goal.returns-in-160
returns-in-160 c =
    let row = copies c.args.low c.args.high c.args.opcode (omega arith) (grind (arith, nat_tests)) in
    cc

pub returns-in-161 : goal.returns-in-161
returns-in-161 c =
    let row = searches c.args.low c.args.high c.args.opcode (omega arith) (grind (arith, nat_tests)) in
    cc

pub returns-in-162 : goal.returns-in-162
returns-in-162 c =
    let row = input_blocks c.args.low c.args.high c.args.opcode (omega arith) (grind (arith, nat_tests)) in
    cc

pub returns-in-163 : goal.returns-in-163
returns-in-163 c =
    let row = output_blocks c.args.low c.args.high c.args.opcode (omega arith) (grind (arith, nat_tests)) in
    cc

pub returns-in_default : goal.returns-in_default
returns-in_default c =
    let row = no_block c.args.low c.args.high c.args.opcode (omega arith) (grind (arith, nat_tests)) in
    cc
