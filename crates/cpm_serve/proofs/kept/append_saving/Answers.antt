use Rattle.std.proofs.Common.{arith}
use Rattle.cpm_serve.proofs.KeptLemmas.{all-bytes}
use Rattle.cpm_serve.proofs.kept.append_saving.Goals as goal

pub returns-clause-keepable : goal.returns-clause-keepable
returns-clause-keepable c = all-bytes c.args.saving.now (λ i. omega (arith, c.type_inv.saving i))
