use Rattle.cpm_volume.proofs.Logging.{calls_log, named_calls_log}
use Rattle.cpm_volume.proofs.laws.calls_log_what_they_change.Goals as goal

pub returns : goal.returns
returns c = (calls_log, named_calls_log)
