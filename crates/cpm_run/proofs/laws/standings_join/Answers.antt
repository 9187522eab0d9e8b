use Rattle.cpm_run.proofs.JoinLemmas.{standings-join}
use Rattle.cpm_run.proofs.laws.standings_join.Goals as goal

pub returns : goal.returns
returns c = standings-join
