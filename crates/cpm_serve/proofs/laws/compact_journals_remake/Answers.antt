use Rattle.cpm_serve.proofs.CompactLemmas.{compact-remakes}
use Rattle.cpm_serve.proofs.laws.compact_journals_remake.Goals as goal

pub returns : goal.returns
returns c = compact-remakes
