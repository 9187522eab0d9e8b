use Rattle.std.proofs.Common.{refl, arith}
use Rattle.cpm_drives.specs.Selecting.{all_unmarked, rebooted_disks}
use Rattle.cpm_drives.proofs.MarkLemmas.{all_reset}
use Rattle.cpm_drives.proofs.disks.Disks.reboot.Goals as goal

pub returns : goal.returns
unfolding rebooted_disks all_unmarked
returns c =
    rw (c.unmark_drives.ensures, all_reset c.args.self.now.drives (omega arith), c.unmark.ensures) refl
