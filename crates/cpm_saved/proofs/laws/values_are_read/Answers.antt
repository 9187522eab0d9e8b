use Rattle.cpm_saved.proofs.LayoutLaws.{values_read}
use Rattle.cpm_saved.proofs.laws.values_are_read.Goals as goal

pub returns : goal.returns
returns c = values_read
