use Rattle.cpm_image_files.proofs.FilledLemmas.{what_is_put}
use Rattle.cpm_image_files.proofs.getting.what_is_put_is_taken.Goals as goal

pub returns : goal.returns
returns c = what_is_put
