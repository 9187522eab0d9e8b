use Rattle.cpm_volume.proofs.Computed.{row_1928}
use Rattle.cpm_volume.proofs.rows.the_last_block_is_taken.Goals as goal

pub returns : goal.returns
returns c = row_1928
