use Rattle.cpm_run.proofs.StandingLemmas.{rest-is_whole}
use Rattle.cpm_run.proofs.laws.rest_is_whole.Goals as goal

pub returns : goal.returns
returns c = rest-is_whole
