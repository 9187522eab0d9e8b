use Rattle.cpm_serve.proofs.ResumedLaws.{wire-resumed}
use Rattle.cpm_serve.proofs.laws.wire_resumed.Goals as goal

pub returns : goal.returns
returns g c = wire-resumed g.F.Folder.does g.J.Write.contents
