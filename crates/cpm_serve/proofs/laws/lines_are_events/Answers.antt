use Rattle.cpm_serve.proofs.WireLaws.{lines-are-events}
use Rattle.cpm_serve.proofs.laws.lines_are_events.Goals as goal

pub returns : goal.returns
returns c = lines-are-events
