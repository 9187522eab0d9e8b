use Rattle.std.proofs.Common.{arith}
use Rattle.cpm_checkpoint.proofs.Fitting.{all_bytes, has_few, is_written}
use Rattle.cpm_checkpoint.proofs.checkpoint.Checkpoint.read.Goals as goal

pub returns-clause-written : goal.returns-clause-written
returns-clause-written c =
    is_written c.args.bytes.now c.read_checkpoint.result (all_bytes c.args.bytes.now (λ i. omega (arith, c.type_inv.bytes i))) c.read_checkpoint.ensures

pub returns-clause-few : goal.returns-clause-few
returns-clause-few c =
    has_few c.args.bytes.now c.read_checkpoint.result (all_bytes c.args.bytes.now (λ i. omega (arith, c.type_inv.bytes i))) c.read_checkpoint.ensures
