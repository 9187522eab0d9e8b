use Rattle.cpm_image_files.proofs.AppendingLemmas.{appends}
use Rattle.cpm_image_files.proofs.laws.appending_takes_what_it_needs.Goals as goal

pub returns : goal.returns
returns c = appends
