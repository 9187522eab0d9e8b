use Rattle.cpm_volume.proofs.Reading.{reads_at}
use Rattle.cpm_volume.proofs.laws.random_read_answers_the_file.Goals as goal

pub returns : goal.returns
returns c = reads_at
