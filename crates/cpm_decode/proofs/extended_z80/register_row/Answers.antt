use Rattle.std.proofs.Common.{◌≡◌, ◌%◌, arith}
use Rattle.std.proofs.lemmas.Bool.Decides.{nat_tests}
use Rattle.std.proofs.lemmas.Nat.{and_mask}
use Rattle.std.proofs.lemmas.Nat.Bits.{and_pow}
use Rattle.cpm_decode.proofs.ArmsZ80Extended.{inputs, outputs, pair_differences, pair_sums, pair_stores, pair_loads}
use Rattle.cpm_decode.specs.RowsZ80Extended.{decoded_extended}
use Rattle.cpm_decode.proofs.extended_z80.register_row.Goals as goal

pub returns-then-opcode-eq112 : goal.returns-then-opcode-eq112
unfolding decoded_extended
returns-then-opcode-eq112 c =
    rw (c.if-opcode-eq112.true)

pub returns-else-opcode-eq112 : goal.returns-else-opcode-eq112
returns-else-opcode-eq112 c =
    let f : c.args.opcode % 8 ≡ 0 = omega (arith, and_mask c.args.opcode 3) in
    let row = inputs c.args.low c.args.high c.args.opcode (omega arith) (grind (arith, nat_tests)) in
    cc

pub returns-then-opcode-eq113 : goal.returns-then-opcode-eq113
unfolding decoded_extended
returns-then-opcode-eq113 c =
    rw (c.if-opcode-eq113.true)

pub returns-else-opcode-eq113 : goal.returns-else-opcode-eq113
returns-else-opcode-eq113 c =
    let f : c.args.opcode % 8 ≡ 1 = omega (arith, and_mask c.args.opcode 3) in
    let row = outputs c.args.low c.args.high c.args.opcode (omega arith) (grind (arith, nat_tests)) in
    cc

pub returns-then-opcode-eq0 : goal.returns-then-opcode-eq0
returns-then-opcode-eq0 c =
    let f : c.args.opcode % 16 ≡ 2 = omega (arith, and_mask c.args.opcode 3, and_pow c.args.opcode 3) in
    let row = pair_differences c.args.low c.args.high c.args.opcode (omega arith) (grind (arith, nat_tests)) in
    cc

pub returns-else-opcode-eq0 : goal.returns-else-opcode-eq0
returns-else-opcode-eq0 c =
    let f : c.args.opcode % 16 ≡ 10 = omega (arith, and_mask c.args.opcode 3, and_pow c.args.opcode 3) in
    let row = pair_sums c.args.low c.args.high c.args.opcode (omega arith) (grind (arith, nat_tests)) in
    cc

pub returns-then-opcode-eq0-2 : goal.returns-then-opcode-eq0-2
returns-then-opcode-eq0-2 c =
    let f : c.args.opcode % 16 ≡ 3 = omega (arith, and_mask c.args.opcode 3, and_pow c.args.opcode 3) in
    let row = pair_stores c.args.low c.args.high c.args.opcode (omega arith) (grind (arith, nat_tests)) in
    cc

pub returns-else-opcode-eq0-2 : goal.returns-else-opcode-eq0-2
returns-else-opcode-eq0-2 c =
    let f : c.args.opcode % 16 ≡ 11 = omega (arith, and_mask c.args.opcode 3, and_pow c.args.opcode 3) in
    let row = pair_loads c.args.low c.args.high c.args.opcode (omega arith) (grind (arith, nat_tests)) in
    cc
