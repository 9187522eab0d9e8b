use Rattle.cpm_drives.specs.Disks.{drive_at}
use Rattle.cpm_ccp.specs.Parts.{command_drive}
use Rattle.cpm_ccp.proofs.ListingLemmas.{index_within, index_small}
use Rattle.cpm_ccp.proofs.listing.list.Goals as goal

pub entry-requires : goal.entry-requires
entry-requires c =
    let image = (drive_at c.args.session.now.disks c.args.system.now (command_drive c.args.session.now)).image in
    rw (c.lent_at-image.ensures, c.drive_named-drive.ensures) (index_within image c.in-Some.index c.in-Some.ensures.1)

pub show_file-requires-clause-index : goal.show_file-requires-clause-index
show_file-requires-clause-index c =
    index_small (drive_at c.args.session.now.disks c.args.system.now (command_drive c.args.session.now)).image c.in-Some.index c.in-Some.ensures.1
