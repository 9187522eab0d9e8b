use Rattle.cpm_volume.proofs.Computed.{row_filled_before}
use Rattle.cpm_volume.proofs.rows.zero_fill_leaves_an_old_block.Goals as goal

pub returns : goal.returns
returns c = row_filled_before
