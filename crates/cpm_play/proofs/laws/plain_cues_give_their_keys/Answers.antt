use Rattle.cpm_play.proofs.PlainLemmas.{plain-cues}
use Rattle.cpm_play.proofs.laws.plain_cues_give_their_keys.Goals as goal

pub returns : goal.returns
returns c = plain-cues
