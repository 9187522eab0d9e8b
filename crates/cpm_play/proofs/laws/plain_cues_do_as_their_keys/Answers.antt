use Rattle.cpm_play.proofs.PlainLemmas.{plain-runs}
use Rattle.cpm_play.proofs.laws.plain_cues_do_as_their_keys.Goals as goal

pub returns : goal.returns
returns c = plain-runs
