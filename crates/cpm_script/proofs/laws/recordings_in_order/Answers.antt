use Rattle.cpm_script.proofs.RecordingLaws.{recordings-ordered}
use Rattle.cpm_script.proofs.laws.recordings_in_order.Goals as goal

pub returns : goal.returns
returns c = recordings-ordered
