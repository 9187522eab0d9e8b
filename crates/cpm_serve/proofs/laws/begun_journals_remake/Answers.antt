use Rattle.cpm_serve.proofs.RemakeLaws.{begun-journals-remake}
use Rattle.cpm_serve.proofs.laws.begun_journals_remake.Goals as goal

pub returns : goal.returns
returns c = begun-journals-remake
