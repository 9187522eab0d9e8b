use Rattle.std.proofs.Common.{◌∙◌, sym}
use Rattle.cpm_disk_commands.specs.Folder.{is_kept}
use Rattle.cpm_disk_commands.proofs.FolderLemmas.{new_file, same_file}
use Rattle.cpm_disk_commands.proofs.folder.file_after.Goals as goal

pub returns-then-is_kept : goal.returns-then-is_kept
returns-then-is_kept c =
    let file = c.in-Ok.ensures in
    same_file (is_kept c.args.before.now) c.args.name.now file.0 c.in-Ok.file.name file.1 file.3 (sym c.is_kept.ensures ∙ c.if-is_kept.true)

pub returns-else-is_kept : goal.returns-else-is_kept
returns-else-is_kept c =
    let file = c.in-Ok.ensures in
    (new_file (is_kept c.args.before.now) c.args.name.now file.0 c.in-Ok.file.name file.1 file.3 (sym c.is_kept.ensures ∙ c.if-is_kept.false), file.2)
