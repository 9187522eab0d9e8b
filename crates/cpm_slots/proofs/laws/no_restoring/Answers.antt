use Rattle.cpm_slots.proofs.RestoredLaws.{no-restored}
use Rattle.cpm_slots.proofs.laws.no_restoring.Goals as goal

pub returns : goal.returns
returns c = no-restored
