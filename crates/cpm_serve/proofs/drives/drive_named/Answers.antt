use Rattle.cpm_geom.specs.Disk.{blank_disk}
use Rattle.cpm_serve.proofs.ReadLemmas.{drive-blank, drive-file}
use Rattle.cpm_serve.proofs.drives.drive_named.Goals as goal

pub returns-in-Some : goal.returns-in-Some
returns-in-Some g c =
    drive-blank g.F.Folder.does c.args.name.now (blank_disk c.in-Some.format) c.args.folder.now c.blank.result c.in-Some.ensures c.blank.ensures.made c.blank.ensures.refused

pub returns-in-None : goal.returns-in-None
returns-in-None g c = drive-file g.F.Folder.does c.args.name.now c.args.folder.now c.image_in.new.folder c.image_in.result c.in-None.ensures c.image_in.ensures
