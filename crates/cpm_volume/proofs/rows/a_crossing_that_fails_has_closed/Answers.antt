use Rattle.cpm_volume.proofs.Computed.{row_crowded}
use Rattle.cpm_volume.proofs.rows.a_crossing_that_fails_has_closed.Goals as goal

pub returns : goal.returns
returns c = row_crowded
