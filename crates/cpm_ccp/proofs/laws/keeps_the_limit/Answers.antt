use Rattle.cpm_ccp.proofs.LimitLaws.{limit-ccp}
use Rattle.cpm_ccp.proofs.laws.keeps_the_limit.Goals as goal

pub returns : goal.returns
returns c = limit-ccp
