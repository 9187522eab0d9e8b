use Rattle.cpm_slots.proofs.OpeningLaws.{stands-alone}
use Rattle.cpm_slots.proofs.laws.alone.Goals as goal

pub returns : goal.returns
returns c = λ system frames before opening events. stands-alone system frames before opening events
