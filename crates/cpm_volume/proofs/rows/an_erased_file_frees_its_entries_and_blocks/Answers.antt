use Rattle.cpm_volume.proofs.ComputedNames.{row_erase}
use Rattle.cpm_volume.proofs.rows.an_erased_file_frees_its_entries_and_blocks.Goals as goal

pub returns : goal.returns
returns c = row_erase
