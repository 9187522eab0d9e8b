use Rattle.cpm_serve.proofs.OutputLemmas.{output-none_at, output-some_at}
use Rattle.cpm_serve.proofs.close.with_output.Goals as goal

pub returns-in-Some : goal.returns-in-Some
returns-in-Some c = λ wanted k. output-some_at c.args.name c.in-Some.name _ wanted _ c.in-Some.is (c.with_output_named.ensures wanted k)

pub returns-in-None : goal.returns-in-None
returns-in-None c = λ wanted k. output-none_at c.args.name _ wanted _ c.in-None.is k
