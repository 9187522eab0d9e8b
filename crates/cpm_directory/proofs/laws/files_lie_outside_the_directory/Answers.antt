use Rattle.cpm_directory.proofs.LawLemmas.{outside}
use Rattle.cpm_directory.proofs.laws.files_lie_outside_the_directory.Goals as goal

pub returns : goal.returns
returns c = outside
