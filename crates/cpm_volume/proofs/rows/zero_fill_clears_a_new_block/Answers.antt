use Rattle.cpm_volume.proofs.Computed.{row_fill}
use Rattle.cpm_volume.proofs.rows.zero_fill_clears_a_new_block.Goals as goal

pub returns : goal.returns
returns c = row_fill
