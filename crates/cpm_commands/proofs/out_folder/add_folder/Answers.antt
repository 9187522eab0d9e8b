use Rattle.cpm_commands.specs.OutFolder.{folder_view}
use Rattle.cpm_commands.proofs.OutFolderLemmas.{nothing_added}
use Rattle.cpm_commands.proofs.out_folder.add_folder.Goals as goal

pub returns-in-None-clause-added : goal.returns-in-None-clause-added
returns-in-None-clause-added g c =
    nothing_added g.F.CommandFiles.lists c.args.files.now (folder_view c.args.start.now) c.args.drive.now c.args.left.now c.in-None.is c.requires
