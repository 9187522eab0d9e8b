use Rattle.cpm_volume.proofs.Computed.{row_300}
use Rattle.cpm_volume.proofs.rows.two_extents_share_an_entry.Goals as goal

pub returns : goal.returns
returns c = row_300
