use Rattle.cpm_serve.proofs.WireLaws.{transcripts}
use Rattle.cpm_serve.proofs.laws.transcripts.Goals as goal

pub returns : goal.returns
returns g c = transcripts g.F.Folder.does
