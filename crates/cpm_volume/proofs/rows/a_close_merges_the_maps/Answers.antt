use Rattle.cpm_volume.proofs.Computed.{row_merge}
use Rattle.cpm_volume.proofs.rows.a_close_merges_the_maps.Goals as goal

pub returns : goal.returns
returns c = row_merge
