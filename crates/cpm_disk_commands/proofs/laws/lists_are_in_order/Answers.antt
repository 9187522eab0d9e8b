use Rattle.cpm_disk_commands.proofs.OrderLemmas.{in_their_order}
use Rattle.cpm_disk_commands.proofs.laws.lists_are_in_order.Goals as goal

pub returns : goal.returns
returns c = in_their_order
