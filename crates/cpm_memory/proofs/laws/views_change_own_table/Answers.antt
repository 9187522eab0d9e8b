use Rattle.cpm_memory.proofs.OwnTable.{own-table}
use Rattle.cpm_memory.proofs.laws.views_change_own_table.Goals as goal

pub returns : goal.returns
returns c v w h = own-table v w h
