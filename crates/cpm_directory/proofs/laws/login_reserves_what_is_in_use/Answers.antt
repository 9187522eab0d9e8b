use Rattle.cpm_directory.proofs.LawLemmas.{reserves}
use Rattle.cpm_directory.proofs.laws.login_reserves_what_is_in_use.Goals as goal

pub returns : goal.returns
returns c = reserves
