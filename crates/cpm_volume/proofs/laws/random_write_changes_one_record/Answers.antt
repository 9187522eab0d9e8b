use Rattle.cpm_volume.proofs.Sequential.{writes_at}
use Rattle.cpm_volume.proofs.laws.random_write_changes_one_record.Goals as goal

pub returns : goal.returns
returns c = writes_at
