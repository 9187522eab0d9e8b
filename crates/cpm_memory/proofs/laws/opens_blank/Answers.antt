use Rattle.cpm_memory.specs.Opened.{touched_of-opening, byte_at-opening}
use Rattle.cpm_memory.proofs.laws.opens_blank.Goals as goal

pub returns : goal.returns
returns c limit = (touched_of-opening limit, (λ address l. byte_at-opening limit address l))
