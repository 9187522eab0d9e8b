use Rattle.cpm_volume.proofs.Computed.{row_256}
use Rattle.cpm_volume.proofs.rows.the_large_disks_last_entry_is_taken.Goals as goal

pub returns : goal.returns
returns c = row_256
