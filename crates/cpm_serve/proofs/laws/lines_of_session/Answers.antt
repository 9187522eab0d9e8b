use Rattle.cpm_serve.proofs.ReplyLemmas.{lines-of-session}
use Rattle.cpm_serve.proofs.laws.lines_of_session.Goals as goal

pub returns : goal.returns
returns g c = lines-of-session g.F.Folder.does
