use Rattle.cpm_machine.proofs.AloneLaws.{alone-after_all}
use Rattle.cpm_machine.proofs.laws.alone_by_all_calls.Goals as goal

pub returns : goal.returns
returns c system calls start = alone-after_all system calls start
