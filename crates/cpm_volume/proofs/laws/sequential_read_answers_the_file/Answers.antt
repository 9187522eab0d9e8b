use Rattle.cpm_volume.proofs.Reading.{reads_next}
use Rattle.cpm_volume.proofs.laws.sequential_read_answers_the_file.Goals as goal

pub returns : goal.returns
returns c = reads_next
