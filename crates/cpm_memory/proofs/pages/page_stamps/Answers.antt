use Rattle.cpm_memory.specs.Raised.{AreStamps-none}
use Rattle.cpm_memory.proofs.pages.page_stamps.Goals as goal

pub returns : goal.returns
returns c = AreStamps-none
