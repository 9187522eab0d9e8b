use Rattle.cpm_script.proofs.RecordingLemmas.{recorded-read}
use Rattle.cpm_script.proofs.laws.recorded_keys.Goals as goal

pub returns : goal.returns
returns c = recorded-read
