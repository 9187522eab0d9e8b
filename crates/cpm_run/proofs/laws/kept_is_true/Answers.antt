use Rattle.cpm_run.proofs.KeepingLemmas.{kept-is_true}
use Rattle.cpm_run.proofs.laws.kept_is_true.Goals as goal

pub returns : goal.returns
returns c = kept-is_true
