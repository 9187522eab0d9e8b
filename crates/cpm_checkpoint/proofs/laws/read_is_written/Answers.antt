use Rattle.cpm_checkpoint.proofs.Sessions.{read_written}
use Rattle.cpm_checkpoint.proofs.laws.read_is_written.Goals as goal

pub returns : goal.returns
returns c = read_written
