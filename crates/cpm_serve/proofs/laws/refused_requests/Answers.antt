use Rattle.cpm_serve.proofs.RefusedLemmas.{refused-requests}
use Rattle.cpm_serve.proofs.laws.refused_requests.Goals as goal

pub returns : goal.returns
returns c = refused-requests
