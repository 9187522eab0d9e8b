use Rattle.std.specs.Prelude.{Some}
use Rattle.cpm_serve.specs.Reading.{images_had}
use Rattle.cpm_serve.proofs.ReadLemmas.{more-fault_at, more-had_at}
use Rattle.cpm_serve.proofs.drives.with_drive_named.Goals as goal

pub returns-in-Ok : goal.returns-in-Ok
returns-in-Ok g c =
    more-had_at g.F.Folder.does (Some c.args.name.now) c.args.drives c.in-Ok.drives (images_had c.with_one_drive.result) c.args.folder.now c.with_one_drive.new.folder c.in-Ok.is c.with_one_drive.ensures

pub returns-in-Err : goal.returns-in-Err
returns-in-Err g c = more-fault_at g.F.Folder.does (Some c.args.name.now) c.args.drives c.in-Err.refusal c.args.folder.now c.in-Err.is
