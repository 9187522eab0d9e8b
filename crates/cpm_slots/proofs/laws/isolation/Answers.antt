use Rattle.cpm_slots.proofs.EventLaws.{slot-after, told-after}
use Rattle.cpm_slots.proofs.laws.isolation.Goals as goal

pub returns : goal.returns
returns c = λ h events id below. (slot-after id events h below, told-after id events h below)
