use Rattle.cpm_bdos.proofs.HoldLaws.{HoldsOutput-now}
use Rattle.cpm_bdos.proofs.laws.holds_what_it_shows.Goals as goal

pub returns : goal.returns
returns c = HoldsOutput-now
