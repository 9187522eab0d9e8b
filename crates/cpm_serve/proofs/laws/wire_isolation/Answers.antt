use Rattle.cpm_serve.proofs.WireLaws.{wire-isolation}
use Rattle.cpm_serve.proofs.laws.wire_isolation.Goals as goal

pub returns : goal.returns
returns c = wire-isolation
