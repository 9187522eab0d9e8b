use Rattle.cpm_volume.proofs.Computed.{row_reads}
use Rattle.cpm_volume.proofs.rows.reads_end_with_the_file.Goals as goal

pub returns : goal.returns
returns c = row_reads
