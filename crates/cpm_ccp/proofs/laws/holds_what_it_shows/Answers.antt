use Rattle.cpm_ccp.proofs.HoldLaws.{IsHeldRight-now}
use Rattle.cpm_ccp.proofs.laws.holds_what_it_shows.Goals as goal

pub returns : goal.returns
returns c = IsHeldRight-now
