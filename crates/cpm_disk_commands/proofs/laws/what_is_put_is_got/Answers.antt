use Rattle.cpm_disk_commands.proofs.RoundLemmas.{round}
use Rattle.cpm_disk_commands.proofs.laws.what_is_put_is_got.Goals as goal

pub returns : goal.returns
returns c = round
