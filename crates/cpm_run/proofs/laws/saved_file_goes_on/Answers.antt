use Rattle.cpm_run.proofs.GoingOnLemmas.{file-goes_on}
use Rattle.cpm_run.proofs.laws.saved_file_goes_on.Goals as goal

pub returns : goal.returns
returns c = file-goes_on
