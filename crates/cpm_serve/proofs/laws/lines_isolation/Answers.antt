use Rattle.cpm_serve.proofs.ReplyLemmas.{lines-isolation}
use Rattle.cpm_serve.proofs.laws.lines_isolation.Goals as goal

pub returns : goal.returns
returns g c = lines-isolation g.F.Folder.does
