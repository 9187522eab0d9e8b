use Rattle.cpm_slots.proofs.RestoredLaws.{fork-restored}
use Rattle.cpm_slots.proofs.laws.fork_is_restored.Goals as goal

pub returns : goal.returns
returns c = fork-restored
