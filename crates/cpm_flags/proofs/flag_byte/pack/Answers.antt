use Rattle.std.proofs.Common.{◌∙◌, arith}
use Rattle.cpm_flags.proofs.BitLemmas.{masked}
use Rattle.cpm_flags.proofs.flag_byte.pack.Goals as goal

pub returns-in-I8080 : goal.returns-in-I8080
returns-in-I8080 c =
    rw c.in-I8080.is (masked c.gathered-byte.result (omega (arith, c.gathered-byte.ensures)) ∙ grind (arith, c.gathered-byte.ensures))
