use Rattle.cpm_volume.proofs.Computed.{row_protected}
use Rattle.cpm_volume.proofs.rows.a_protected_drive_stays.Goals as goal

pub returns : goal.returns
returns c = row_protected
