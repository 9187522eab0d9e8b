use Rattle.cpm_volume.proofs.Sequential.{writes_next}
use Rattle.cpm_volume.proofs.laws.sequential_write_changes_one_record.Goals as goal

pub returns : goal.returns
returns c = writes_next
