use Rattle.cpm_slots.proofs.EventLaws.{two-worlds}
use Rattle.cpm_slots.proofs.laws.two_worlds.Goals as goal

pub returns : goal.returns
returns c = two-worlds
