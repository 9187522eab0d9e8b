use Rattle.cpm_execz80.proofs.FewStores.{few_effect, few_step}
use Rattle.cpm_execz80.proofs.laws.few_stores.Goals as goal

pub returns : goal.returns
returns c = record { decoded = few_effect; stepped = few_step }
