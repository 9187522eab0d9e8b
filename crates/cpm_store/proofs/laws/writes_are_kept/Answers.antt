use Rattle.cpm_store.proofs.LawLemmas.{last_writes_stay, others_stay}
use Rattle.cpm_store.proofs.laws.writes_are_kept.Goals as goal

pub returns-clause-last : goal.returns-clause-last
returns-clause-last c = last_writes_stay

pub returns-clause-others : goal.returns-clause-others
returns-clause-others c = others_stay
