use Rattle.cpm_serve.specs.Reading.{images_had}
use Rattle.cpm_serve.proofs.ReadLemmas.{more-none_at, more-some_at}
use Rattle.cpm_serve.proofs.drives.with_drive.Goals as goal

pub returns-in-Some : goal.returns-in-Some
returns-in-Some g c =
    more-some_at g.F.Folder.does c.args.name c.in-Some.name (images_had c.args.drives) (images_had c.with_drive_named.result) c.args.folder.now c.with_drive_named.new.folder c.in-Some.is c.with_drive_named.ensures

pub returns-in-None : goal.returns-in-None
returns-in-None g c = more-none_at g.F.Folder.does c.args.name (images_had c.args.drives) c.args.folder.now c.in-None.is
