use Rattle.cpm_volume.proofs.Computed.{row_bad_sector}
use Rattle.cpm_volume.proofs.rows.a_forged_number_is_a_bad_sector.Goals as goal

pub returns : goal.returns
returns c = row_bad_sector
