use Rattle.cpm_volume.proofs.Computed.{row_shared}
use Rattle.cpm_volume.proofs.rows.a_shared_entry_is_opened_for_each_extent.Goals as goal

pub returns : goal.returns
returns c = row_shared
