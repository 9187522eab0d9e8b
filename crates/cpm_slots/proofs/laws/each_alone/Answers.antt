use Rattle.cpm_slots.proofs.LifeLaws.{each-alone}
use Rattle.cpm_slots.proofs.laws.each_alone.Goals as goal

pub returns : goal.returns
returns c = each-alone
