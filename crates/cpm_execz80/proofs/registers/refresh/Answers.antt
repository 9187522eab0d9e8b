use Rattle.std.proofs.Common.{◌%◌, ◌+◌, ◌∙◌, arith}
use Rattle.std.proofs.lemmas.Nat.{and_mask}
use Rattle.cpm_execz80.proofs.BitLemmas.{high_and_low}
use Rattle.cpm_execz80.proofs.registers.refresh.Goals as goal

pub returns : goal.returns
returns c =
    rw (and_mask ((c.args.register + c.args.count) % 256) 7) (high_and_low c.args.register ((c.args.register + c.args.count) % 256 % 128) (omega arith) ∙ omega arith)
