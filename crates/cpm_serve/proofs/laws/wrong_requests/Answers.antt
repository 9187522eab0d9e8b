use Rattle.cpm_serve.proofs.WireLaws.{wrong-requests}
use Rattle.cpm_serve.proofs.laws.wrong_requests.Goals as goal

pub returns : goal.returns
returns c = wrong-requests
