use Rattle.cpm_volume.proofs.ComputedNames.{row_rename}
use Rattle.cpm_volume.proofs.rows.a_rename_changes_each_entry.Goals as goal

pub returns : goal.returns
returns c = row_rename
