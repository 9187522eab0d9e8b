use Rattle.std.proofs.Common.{refl, arith}
use Rattle.cpm_drives.specs.Selecting.{all_unmarked, reset}
use Rattle.cpm_drives.proofs.MarkLemmas.{all_reset}
use Rattle.cpm_drives.proofs.disks.Disks.reset.Goals as goal

pub returns : goal.returns
unfolding reset all_unmarked
returns c =
    rw (c.use_drive.ensures, c.unmark_drives.ensures, all_reset c.args.self.now.drives (omega arith), c.unmark.ensures) refl
