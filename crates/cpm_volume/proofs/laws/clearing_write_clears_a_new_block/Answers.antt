use Rattle.cpm_volume.proofs.Sequential.{writes_at_cleared}
use Rattle.cpm_volume.proofs.laws.clearing_write_clears_a_new_block.Goals as goal

pub returns : goal.returns
returns c = writes_at_cleared
