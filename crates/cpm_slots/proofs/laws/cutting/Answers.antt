use Rattle.cpm_slots.proofs.CutLaws.{cut-host, cut-replies}
use Rattle.cpm_slots.proofs.laws.cutting.Goals as goal

pub returns : goal.returns
returns c = λ h id a b. (cut-host h id a b, cut-replies h id a b)
