use Rattle.cpm_protocol.proofs.AskLemmas.{requests-back}
use Rattle.cpm_protocol.proofs.laws.requests_come_back.Goals as goal

pub returns : goal.returns
returns c = requests-back
