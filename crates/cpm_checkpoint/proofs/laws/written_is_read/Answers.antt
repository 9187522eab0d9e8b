use Rattle.cpm_checkpoint.proofs.Sessions.{written_read}
use Rattle.cpm_checkpoint.proofs.laws.written_is_read.Goals as goal

pub returns : goal.returns
returns c = written_read
