use Rattle.cpm_serve.proofs.WireLaws.{wrong-lines}
use Rattle.cpm_serve.proofs.laws.wrong_lines.Goals as goal

pub returns : goal.returns
returns c = wrong-lines
