use Rattle.cpm_saved.proofs.ByteLaws.{are_bytes}
use Rattle.cpm_saved.proofs.laws.coded_are_bytes.Goals as goal

pub returns : goal.returns
returns c = are_bytes
