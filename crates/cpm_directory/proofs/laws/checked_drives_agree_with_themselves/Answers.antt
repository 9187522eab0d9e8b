use Rattle.cpm_directory.proofs.CheckedLemmas.{checked}
use Rattle.cpm_directory.proofs.laws.checked_drives_agree_with_themselves.Goals as goal

pub returns : goal.returns
returns c = λ disk is. checked disk
