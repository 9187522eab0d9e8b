use Rattle.cpm_serve.proofs.ResumedLaws.{wire-cut-off}
use Rattle.cpm_serve.proofs.laws.wire_cut_off.Goals as goal

pub returns : goal.returns
returns g c = wire-cut-off g.F.Folder.does g.J.Write.contents
