use Rattle.cpm_disk_commands.proofs.FilesLemmas.{files_law}
use Rattle.cpm_disk_commands.proofs.folder.disks_have_their_files.Goals as goal

pub returns : goal.returns
returns c = files_law
