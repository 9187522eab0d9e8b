use Rattle.cpm_serve.proofs.WireLaws.{wire-alone}
use Rattle.cpm_serve.proofs.laws.wire_alone.Goals as goal

pub returns : goal.returns
returns c = wire-alone
