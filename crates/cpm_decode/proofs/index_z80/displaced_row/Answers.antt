use Rattle.std.proofs.Common.{arith}
use Rattle.std.proofs.lemmas.Bool.Decides.{nat_tests}
use Rattle.cpm_decode.proofs.ArmsZ80Index.{indexed_loads, indexed_stores, indexed_arithmetic, not_displaced}
use Rattle.cpm_decode.specs.RowsZ80Index.{decoded_displaced}
use Rattle.cpm_decode.proofs.index_z80.displaced_row.Goals as goal

pub returns-then-opcode-eq52 : goal.returns-then-opcode-eq52
unfolding decoded_displaced
returns-then-opcode-eq52 c =
    rw (c.in_three.ensures, c.if-opcode-eq52.true)

pub returns-then-opcode-eq53 : goal.returns-then-opcode-eq53
unfolding decoded_displaced
returns-then-opcode-eq53 c =
    rw (c.in_three-then-opcode-eq53.ensures, c.if-opcode-eq53.true)

pub returns-then-opcode-eq54 : goal.returns-then-opcode-eq54
unfolding decoded_displaced
returns-then-opcode-eq54 c =
    rw (c.if-opcode-eq54.true)

pub returns-then-opcode-eq118 : goal.returns-then-opcode-eq118
unfolding decoded_displaced
returns-then-opcode-eq118 c =
    rw (c.if-opcode-eq118.true)

pub returns-then-opcode-eq70 : goal.returns-then-opcode-eq70
returns-then-opcode-eq70 c =
    let row = indexed_loads c.args.index c.args.displacement c.args.value c.args.opcode (omega arith) (grind (arith, nat_tests)) in
    cc

pub returns-then-opcode-eq112 : goal.returns-then-opcode-eq112
returns-then-opcode-eq112 c =
    let row = indexed_stores c.args.index c.args.displacement c.args.value c.args.opcode (omega arith) (grind (arith, nat_tests)) in
    cc

pub returns-then-opcode-eq134 : goal.returns-then-opcode-eq134
returns-then-opcode-eq134 c =
    let row = indexed_arithmetic c.args.index c.args.displacement c.args.value c.args.opcode (omega arith) (grind (arith, nat_tests)) in
    cc

pub returns-else-opcode-eq134 : goal.returns-else-opcode-eq134
returns-else-opcode-eq134 c =
    let row = not_displaced c.args.index c.args.displacement c.args.value c.args.opcode (omega arith) (grind (arith, nat_tests)) in
    cc
