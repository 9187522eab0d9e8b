use Rattle.cpm_serve.proofs.RemakeLaws.{journals-remake}
use Rattle.cpm_serve.proofs.laws.journals_remake.Goals as goal

pub returns : goal.returns
returns c = journals-remake
