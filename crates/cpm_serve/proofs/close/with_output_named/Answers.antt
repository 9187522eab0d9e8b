use Rattle.cpm_serve.proofs.OutputLemmas.{output-fault_at, output-had_at}
use Rattle.cpm_serve.proofs.close.with_output_named.Goals as goal

pub returns-in-Ok : goal.returns-in-Ok
returns-in-Ok c = λ wanted k. c.with_one_output.ensures wanted (output-had_at c.args.files c.in-Ok.files wanted c.in-Ok.is k)

pub returns-in-Err : goal.returns-in-Err
returns-in-Err c = λ wanted k. output-fault_at c.args.files c.args.name.now _ wanted c.in-Err.refusal c.in-Err.is k
