use Rattle.cpm_machine.proofs.AloneLaws.{alone-after}
use Rattle.cpm_machine.proofs.laws.alone.Goals as goal

pub returns : goal.returns
returns c system calls start = alone-after system calls start
