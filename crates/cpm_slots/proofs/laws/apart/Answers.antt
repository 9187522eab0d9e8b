use Rattle.cpm_slots.proofs.EventLaws.{apart}
use Rattle.cpm_slots.proofs.laws.apart.Goals as goal

pub returns : goal.returns
returns c = λ h id other ask ne. apart h id other ask ne
