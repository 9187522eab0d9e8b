use Rattle.cpm_volume.proofs.ComputedNames.{row_attributes}
use Rattle.cpm_volume.proofs.rows.attributes_are_set_in_each_entry.Goals as goal

pub returns : goal.returns
returns c = row_attributes
