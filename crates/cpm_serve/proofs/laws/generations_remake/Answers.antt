use Rattle.cpm_serve.proofs.GenerationLaws.{generations-remake}
use Rattle.cpm_serve.proofs.laws.generations_remake.Goals as goal

pub returns : goal.returns
returns g c = generations-remake g.F.Folder.does g.J.Write.contents
