use Rattle.cpm_volume.proofs.Computed.{row_16320}
use Rattle.cpm_volume.proofs.rows.the_large_disks_last_block_is_taken.Goals as goal

pub returns : goal.returns
returns c = row_16320
