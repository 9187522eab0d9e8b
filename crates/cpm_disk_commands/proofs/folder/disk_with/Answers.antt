use Rattle.std.proofs.Common.{map, subst, sym}
use Rattle.cpm_geom.specs.Disk.{Disk, blank_disk}
use Rattle.cpm_disk_commands.specs.DiskCommands.{format_for}
use Rattle.cpm_disk_commands.specs.Folder.{host_file}
use Rattle.cpm_disk_commands.proofs.BlankLemmas.{blank_sound}
use Rattle.cpm_disk_commands.proofs.FilesLemmas.{no_files, rest_of, HasFiles}
use Rattle.cpm_disk_commands.proofs.folder.disk_with.Goals as goal

pub loop-file-init : goal.loop-file-init
loop-file-init c =
    let files = c.args.files.now in
    let blank = blank_disk (format_for c.args.is_large) in
    subst (λ (disk : Disk). HasFiles (map host_file files) (rest_of files 0) blank disk) (sym c.in_ok-disk.ensures)
    (no_files (map host_file files) blank (blank_sound (format_for c.args.is_large)))
