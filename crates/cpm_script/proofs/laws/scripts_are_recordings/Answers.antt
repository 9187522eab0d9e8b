use Rattle.cpm_script.proofs.RecordingLaws.{faults-same, few-scripts, scripts-recordings}
use Rattle.cpm_script.proofs.laws.scripts_are_recordings.Goals as goal

pub returns-clause-keys : goal.returns-clause-keys
returns-clause-keys c = scripts-recordings

pub returns-clause-faults : goal.returns-clause-faults
returns-clause-faults c = faults-same

pub returns-clause-few : goal.returns-clause-few
returns-clause-few c = few-scripts
