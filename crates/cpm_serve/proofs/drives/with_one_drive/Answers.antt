use Rattle.std.specs.Prelude.{Ok, Err}
use Rattle.cpm_serve.specs.Reading.{images_had}
use Rattle.cpm_serve.proofs.ReadLemmas.{more-drive, pushed-drive, unread-drive}
use Rattle.cpm_serve.proofs.drives.with_one_drive.Goals as goal

pub returns-in-Ok : goal.returns-in-Ok
returns-in-Ok g c =
    more-drive g.F.Folder.does c.args.name.now c.args.drives.items (Ok c.in-Ok.drive) (images_had c.pushed.result) c.args.folder.now c.drive_named.new.folder
    c.in-Ok.ensures (pushed-drive c.args.drives.items c.in-Ok.drive c.pushed.result c.pushed.ensures.made c.pushed.ensures.refused)

pub returns-in-Err : goal.returns-in-Err
returns-in-Err g c =
    more-drive g.F.Folder.does c.args.name.now c.args.drives.items (Err c.in-Err.refusal) (Err c.in-Err.refusal) c.args.folder.now c.drive_named.new.folder
    c.in-Err.ensures (unread-drive c.args.drives.items c.in-Err.refusal)
