use Rattle.cpm_volume.proofs.Computed.{row_129}
use Rattle.cpm_volume.proofs.rows.a_full_extent_is_closed_and_the_next_made.Goals as goal

pub returns : goal.returns
returns c = row_129
