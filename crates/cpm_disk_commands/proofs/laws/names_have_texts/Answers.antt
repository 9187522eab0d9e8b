use Rattle.cpm_disk_commands.proofs.SpelledLemmas.{spelled}
use Rattle.cpm_disk_commands.proofs.laws.names_have_texts.Goals as goal

pub returns : goal.returns
returns c = spelled
