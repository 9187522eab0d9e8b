use Rattle.cpm_machine.proofs.SavingLaws.{restored_saved}
use Rattle.cpm_machine.proofs.laws.restored_is_saved.Goals as goal

pub returns : goal.returns
returns c = restored_saved
