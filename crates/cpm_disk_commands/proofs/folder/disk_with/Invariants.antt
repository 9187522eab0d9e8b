use Rattle.std.proofs.Common.{map}
use Rattle.cpm_geom.specs.Disk.{blank_disk}
use Rattle.cpm_disk_commands.specs.DiskCommands.{format_for}
use Rattle.cpm_disk_commands.specs.Folder.{host_file}
use Rattle.cpm_disk_commands.proofs.FilesLemmas.{rest_of, HasFiles}
use Rattle.cpm_disk_commands.proofs.folder.disk_with.Given as goal

abbrev pub invariant-loop-file : goal.invariant-loop-file
invariant-loop-file l = HasFiles (map host_file l.fn.files) (rest_of l.files l.file-index) (blank_disk (format_for l.fn.is_large)) l.disk
