use Rattle.cpm_volume.proofs.Computed.{row_64}
use Rattle.cpm_volume.proofs.rows.the_last_entry_is_taken.Goals as goal

pub returns : goal.returns
returns c = row_64
