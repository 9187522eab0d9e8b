use Rattle.cpm_script.proofs.ForkedCueLemmas.{own-ordered}
use Rattle.cpm_script.proofs.laws.forked_cues_in_order.Goals as goal

pub returns : goal.returns
returns c = own-ordered
