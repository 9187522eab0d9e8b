use Rattle.cpm_disk_commands.proofs.FolderLemmas.{kept_law}
use Rattle.cpm_disk_commands.proofs.folder.kept_names_are_apart.Goals as goal

pub returns : goal.returns
returns c = kept_law
