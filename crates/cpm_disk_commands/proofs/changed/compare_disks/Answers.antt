use Rattle.std.proofs.Common.{List, option_map, subst}
use Rattle.cpm_image_files.specs.declared.listing.DiskFile.{DiskFile}
use Rattle.cpm_disk_commands.specs.Changed.{AreFilesCompared}
use Rattle.cpm_disk_commands.proofs.changed.compare_disks.Goals as goal

pub returns-in-Ok-compare_files : goal.returns-in-Ok-compare_files
returns-in-Ok-compare_files c =
    let start = option_map (λ d. d.now) c.args.start in
    let compared = c.in-Ok-compare_files.compared.items in
    (c.in-Ok.listing, c.in-Ok.ensures, subst (λ (fs : List DiskFile). AreFilesCompared start c.args.left.now fs compared) c.as_slice.ensures.value c.in-Ok-compare_files.ensures)
