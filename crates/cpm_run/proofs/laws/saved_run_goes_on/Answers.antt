use Rattle.cpm_run.proofs.GoingOnLemmas.{saved-goes_on}
use Rattle.cpm_run.proofs.laws.saved_run_goes_on.Goals as goal

pub returns : goal.returns
returns c = saved-goes_on
