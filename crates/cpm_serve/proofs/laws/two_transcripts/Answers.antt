use Rattle.cpm_serve.proofs.WireLaws.{two-transcripts}
use Rattle.cpm_serve.proofs.laws.two_transcripts.Goals as goal

pub returns : goal.returns
returns c = two-transcripts
