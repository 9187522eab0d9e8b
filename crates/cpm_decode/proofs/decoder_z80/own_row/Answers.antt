use Rattle.std.proofs.Common.{arith}
use Rattle.std.proofs.lemmas.Bool.Decides.{nat_tests}
use Rattle.cpm_decode.proofs.ArmsZ80.{jumps_relative, not_own}
use Rattle.cpm_decode.specs.RowsZ80.{decoded_own}
use Rattle.cpm_decode.proofs.decoder_z80.own_row.Goals as goal

pub returns-then-opcode-eq8 : goal.returns-then-opcode-eq8
unfolding decoded_own
returns-then-opcode-eq8 c =
    rw (c.in_one.ensures, c.if-opcode-eq8.true)

pub returns-then-opcode-eq217 : goal.returns-then-opcode-eq217
unfolding decoded_own
returns-then-opcode-eq217 c =
    rw (c.in_one-then-opcode-eq217.ensures, c.if-opcode-eq217.true)

pub returns-then-opcode-eq16 : goal.returns-then-opcode-eq16
unfolding decoded_own
returns-then-opcode-eq16 c =
    rw (c.in_two.ensures, c.if-opcode-eq16.true)

pub returns-then-opcode-eq24 : goal.returns-then-opcode-eq24
unfolding decoded_own
returns-then-opcode-eq24 c =
    rw (c.in_two-then-opcode-eq24.ensures, c.if-opcode-eq24.true)

pub returns-then-opcode-eq32 : goal.returns-then-opcode-eq32
returns-then-opcode-eq32 c =
    let row = jumps_relative c.args.low c.args.opcode (omega arith) (grind (arith, nat_tests)) in
    cc

pub returns-else-opcode-eq32 : goal.returns-else-opcode-eq32
returns-else-opcode-eq32 c =
    let row = not_own c.args.low c.args.opcode (omega arith) (grind (arith, nat_tests)) in
    cc
