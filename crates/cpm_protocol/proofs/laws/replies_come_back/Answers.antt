use Rattle.cpm_protocol.proofs.ReplyLemmas.{reply-back}
use Rattle.cpm_protocol.proofs.laws.replies_come_back.Goals as goal

pub returns : goal.returns
returns c = reply-back
