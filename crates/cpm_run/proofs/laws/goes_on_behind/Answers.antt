use Rattle.cpm_run.proofs.GoingOnLemmas.{goes_on-behind}
use Rattle.cpm_run.proofs.laws.goes_on_behind.Goals as goal

pub returns : goal.returns
returns c = goes_on-behind
