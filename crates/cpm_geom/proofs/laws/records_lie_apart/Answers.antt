use Rattle.cpm_geom.proofs.RecordLemmas.{are_sectors, are_records, are_listed}
use Rattle.cpm_geom.proofs.laws.records_lie_apart.Goals as goal

pub returns : goal.returns
returns c = (are_sectors, are_records, are_listed)
