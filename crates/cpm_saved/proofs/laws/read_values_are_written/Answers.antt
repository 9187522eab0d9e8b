use Rattle.cpm_saved.proofs.ReadLaws.{read_written}
use Rattle.cpm_saved.proofs.laws.read_values_are_written.Goals as goal

pub returns : goal.returns
returns c = read_written
