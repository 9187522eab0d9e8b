use Rattle.cpm_protocol.proofs.FlatLemmas.{replies-flat}
use Rattle.cpm_protocol.proofs.laws.replies_are_flat.Goals as goal

pub returns : goal.returns
returns c = replies-flat
