use Rattle.cpm_memory.proofs.DiskTables.{has-disk-tables}
use Rattle.cpm_memory.proofs.laws.opens_with_disk_tables.Goals as goal

pub returns : goal.returns
returns c limit = has-disk-tables limit
