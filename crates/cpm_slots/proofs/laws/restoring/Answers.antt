use Rattle.cpm_slots.proofs.RestoredLaws.{goes-as-saved}
use Rattle.cpm_slots.proofs.laws.restoring.Goals as goal

pub returns : goal.returns
returns c = goes-as-saved
