use Rattle.cpm_slots.proofs.RemakingLaws.{remaking}
use Rattle.cpm_slots.proofs.laws.remaking.Goals as goal

pub returns : goal.returns
returns c = remaking
