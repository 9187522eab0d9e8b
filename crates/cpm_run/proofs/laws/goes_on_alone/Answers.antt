use Rattle.cpm_run.proofs.GoingOnLemmas.{goes_on-alone}
use Rattle.cpm_run.proofs.laws.goes_on_alone.Goals as goal

pub returns : goal.returns
returns c = goes_on-alone
