use Rattle.std.proofs.Common.{◌≡◌, ◌/◌, ◌%◌, arith}
use Rattle.std.proofs.lemmas.Nat.Bits.{and_pow}
use Rattle.cpm_decode.proofs.extended_z80.repeat.Goals as goal

pub returns-then-opcode-eq0 : goal.returns-then-opcode-eq0
returns-then-opcode-eq0 c =
    let f : c.args.opcode / 16 % 2 ≡ 0 = omega (arith, and_pow c.args.opcode 4) in
    rw f

pub returns-else-opcode-eq0 : goal.returns-else-opcode-eq0
returns-else-opcode-eq0 c =
    let f : c.args.opcode / 16 % 2 ≡ 1 = omega (arith, and_pow c.args.opcode 4) in
    rw f
