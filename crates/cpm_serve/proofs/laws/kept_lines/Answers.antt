use Rattle.cpm_serve.proofs.KeptLemmas.{kept-lines}
use Rattle.cpm_serve.proofs.laws.kept_lines.Goals as goal

pub returns : goal.returns
returns g c = kept-lines g.F.Folder.does g.J.Write.contents
