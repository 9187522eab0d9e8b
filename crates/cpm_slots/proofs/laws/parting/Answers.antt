use Rattle.cpm_slots.proofs.LifeLaws.{parts}
use Rattle.cpm_slots.proofs.laws.parting.Goals as goal

pub returns : goal.returns
returns c = parts
