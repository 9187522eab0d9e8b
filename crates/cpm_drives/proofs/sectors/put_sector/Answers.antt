use Rattle.std.proofs.Common.{◌∙◌}
use Rattle.cpm_drives.proofs.SectorLemmas.{put_any}
use Rattle.cpm_drives.proofs.sectors.put_sector.Goals as goal

pub returns-clause-there : goal.returns-clause-there
returns-clause-there c =
    c.is_ok.ensures.value ∙ (put_any c.args.drive.now c.put_sector.new.self c.args.track c.args.sector c.args.bytes.now _ c.put_sector.result c.put_sector.ensures).0

pub returns-clause-drive : goal.returns-clause-drive
returns-clause-drive c =
    (put_any c.args.drive.now c.put_sector.new.self c.args.track c.args.sector c.args.bytes.now _ c.put_sector.result c.put_sector.ensures).1
