use Rattle.cpm_slots.proofs.WithinLaws.{within}
use Rattle.cpm_slots.proofs.laws.within.Goals as goal

pub returns : goal.returns
returns c = within
