use Rattle.cpm_script.proofs.RecordingLemmas.{recording-read}
use Rattle.cpm_script.proofs.laws.recordings_give_their_keys_again.Goals as goal

pub returns : goal.returns
returns c = recording-read
