use Rattle.cpm_disk_commands.proofs.SpelledLemmas.{apart}
use Rattle.cpm_disk_commands.proofs.laws.texts_tell_names_apart.Goals as goal

pub returns : goal.returns
returns c = apart
