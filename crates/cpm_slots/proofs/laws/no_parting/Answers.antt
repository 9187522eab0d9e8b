use Rattle.cpm_slots.proofs.LifeLaws.{no-parts}
use Rattle.cpm_slots.proofs.laws.no_parting.Goals as goal

pub returns : goal.returns
returns c = no-parts
