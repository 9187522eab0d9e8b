use Rattle.cpm_slots.proofs.RestoredLaws.{savings-have-lives}
use Rattle.cpm_slots.proofs.laws.savings_have_lives.Goals as goal

pub returns : goal.returns
returns c = savings-have-lives
