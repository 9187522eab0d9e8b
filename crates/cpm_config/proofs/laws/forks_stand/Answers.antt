use Rattle.cpm_config.proofs.RuleLemmas.{fork_law}
use Rattle.cpm_config.proofs.laws.forks_stand.Goals as goal

pub returns : goal.returns
returns c = fork_law
