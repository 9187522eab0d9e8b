use Rattle.cpm_script.proofs.ForkLemmas.{keys_before-cut}
use Rattle.cpm_script.proofs.laws.keys_before_are_first.Goals as goal

pub returns : goal.returns
returns c = keys_before-cut
