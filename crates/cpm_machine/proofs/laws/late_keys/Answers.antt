use Rattle.cpm_machine.proofs.PressLaws.{alone-late}
use Rattle.cpm_machine.proofs.laws.late_keys.Goals as goal

pub returns : goal.returns
returns c system presses later n start none = alone-late system presses later n start none
