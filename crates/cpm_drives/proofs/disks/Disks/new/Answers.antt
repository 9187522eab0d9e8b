use Rattle.std.proofs.Common.{refl}
use Rattle.cpm_drives.specs.Disks.{opened_disks}
use Rattle.cpm_drives.proofs.MarkLemmas.{taken_in_turn}
use Rattle.cpm_drives.proofs.disks.Disks.new.Goals as goal

pub returns : goal.returns
unfolding opened_disks
returns c =
    rw (c.new.ensures, taken_in_turn c.args.images.items c.into_iter-images.result.rest.items c.next_drive.new.images.rest.items c.next_drive-2.new.images.rest.items c.next_drive-3.new.images.rest.items c.next_drive.result c.next_drive-2.result c.next_drive-3.result c.next_drive-4.result c.into_iter-images.ensures.rest c.next_drive.ensures.rest c.next_drive-2.ensures.rest c.next_drive-3.ensures.rest c.next_drive.ensures.drive c.next_drive-2.ensures.drive c.next_drive-3.ensures.drive c.next_drive-4.ensures.drive) refl
